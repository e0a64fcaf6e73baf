-- `written_card::write_card_with` meets its contract.
use Rattle.std.specs.Prelude.{option_copied}
use mathlib.Core.Path.{sym}
use Rattle.method.specs.Calls.{terms_in}
use Rattle.refusals.proofs.Numbers.{positive}
use Rattle.method.proofs.Accepted.{files_ok}
use Rattle.card_format.proofs.Written.{passed_written}
use Rattle.iteration.proofs.States.{book_fits, sheet_fits}
use Rattle.written_card.proofs.Filing.{refused_by_call, refused_short, pairs_fit, filed}
use Rattle.written_card.proofs.write_card_with.Goals as goal

pub returns-in_err-call_refusal : goal.returns-in_err-call_refusal
returns-in_err-call_refusal c =
    let q = refused_by_call c.args.released (option_copied c.args.table) _ _ _ _ c.in_err-call_refusal.ensures (positive _) (passed_written _ _ c.from_residual.ensures) in
    record { value = q.0; output_after = q.1.0; filing_right_with = q.1.1.0; table_value = q.1.1.1 }

pub boats-boats-requires : goal.boats-boats-requires
boats-boats-requires c = (book_fits _ _ (files_ok (terms_in c.args.released (option_copied c.args.table)) _ _ (sym c.in_ok-call_refusal.ensures))).at_least

pub run-answer-requires : goal.run-answer-requires
run-answer-requires c =
    let ok = sym c.in_ok-call_refusal.ensures in
    record { sheet_value = ok; book_in_bounds = (book_fits _ _ (files_ok (terms_in c.args.released (option_copied c.args.table)) _ _ ok)).most_boats }

pub holding-back-requires : goal.holding-back-requires
holding-back-requires c = rw c.boats-boats.ensures (book_fits _ _ (files_ok (terms_in c.args.released (option_copied c.args.table)) _ _ (sym c.in_ok-call_refusal.ensures))).most_boats

pub returns-then-output-back : goal.returns-then-output-back
returns-then-output-back c =
    let q = refused_short c.args.released (option_copied c.args.table) _ _ _ (sym c.in_ok-call_refusal.ensures) c.boats-boats.ensures c.run-answer.ensures.value _ c.run-answer.ensures.shares_after _ c.holding-back.ensures.value c.if-output-back.true in
    record { value = q.0; output_after = q.1.0; filing_right_with = q.1.1.0; table_value = q.1.1.1 }

pub put_pairs-requires : goal.put_pairs-requires
put_pairs-requires c =
    let ok = sym c.in_ok-call_refusal.ensures in
    record { boats_bound = rw c.boats-boats.ensures (book_fits _ _ (files_ok (terms_in c.args.released (option_copied c.args.table)) _ _ ok)).most_boats; shares_in_bounds = pairs_fit c.args.released (option_copied c.args.table) _ _ c.args.output.now ok c.boats-boats.ensures c.run-answer.ensures.value _ c.run-answer.ensures.shares_after _ c.holding-back.ensures.value c.if-output-back.false }

pub tolerance-requires : goal.tolerance-requires
tolerance-requires c = (sheet_fits _ _ (files_ok (terms_in c.args.released (option_copied c.args.table)) _ _ (sym c.in_ok-call_refusal.ensures))).at_least

pub columns-requires : goal.columns-requires
columns-requires c = (book_fits _ _ (files_ok (terms_in c.args.released (option_copied c.args.table)) _ _ (sym c.in_ok-call_refusal.ensures))).at_least

pub returns : goal.returns
returns c =
    let ok = sym c.in_ok-call_refusal.ensures in
    let q = filed c.args.released (option_copied c.args.table) _ _ _ ok c.boats-boats.ensures c.run-answer.ensures.value _ c.run-answer.ensures.shares_after _ c.holding-back.ensures.value c.if-output-back.false _ _ c.put_pairs.ensures _ _ c.tolerance.ensures c.columns.ensures.value c.put_trailer.ensures in
    record { value = q.0; output_after = q.1.0; filing_right_with = q.1.1.0; table_value = q.1.1.1 }
