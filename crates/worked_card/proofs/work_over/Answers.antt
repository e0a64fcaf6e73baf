-- `worked_card::work_over` meets its contract.
use mathlib.Core.Path.{sym, ◌∙◌}
use Rattle.refusals.proofs.Numbers.{positive}
use Rattle.method.proofs.Accepted.{files_ok}
use Rattle.card_format.proofs.Written.{passed_written}
use Rattle.iteration.proofs.States.{book_fits, sheet_fits}
use Rattle.pairwise.specs.Call.{set_terms}
use Rattle.worked_card.proofs.Working.{refused_by_call, refused_by_moves, refused_short, pairs_fit, filed}
use borrow.Author.Rules.{rules}
use Rattle.worked_card.proofs.work_over.Goals as goal

pub returns-in_err-call_refusal : goal.returns-in_err-call_refusal
returns-in_err-call_refusal c =
    let q = refused_by_call (set_terms c.args.released) _ _ _ _ _ c.in_err-call_refusal.ensures (positive _) (passed_written _ _ c.from_residual.ensures) in
    record { value = q.0; output_after = q.1.0; working_right = q.1.1 }

pub worked-requires : goal.worked-requires
worked-requires c = sym c.in_ok-call_refusal.ensures

pub returns-in_err-worked : goal.returns-in_err-worked
returns-in_err-worked c =
    let q = refused_by_moves (set_terms c.args.released) _ _ _ _ (sym c.in_ok-call_refusal.ensures) c.in_err-worked.ensures (passed_written _ _ c.from_residual-in_err-worked.ensures) in
    record { value = q.0; output_after = q.1.0; working_right = q.1.1 }

pub boats-boats-requires : goal.boats-boats-requires
boats-boats-requires c = (book_fits _ _ (files_ok (set_terms c.args.released) _ _ (sym c.in_ok-call_refusal.ensures))).at_least

pub holding-back-requires : goal.holding-back-requires
holding-back-requires c = rw c.boats-boats.ensures (book_fits _ _ (files_ok (set_terms c.args.released) _ _ (sym c.in_ok-call_refusal.ensures))).most_boats

pub returns-then-output-back : goal.returns-then-output-back
returns-then-output-back c =
    let q = refused_short (set_terms c.args.released) _ _ _ _ (sym c.in_ok-call_refusal.ensures) c.in_ok-worked.ensures c.boats-boats.ensures _ c.holding-back.ensures.value c.if-output-back.true in
    record { value = q.0; output_after = q.1.0; working_right = q.1.1 }

pub put_pairs-requires : goal.put_pairs-requires
put_pairs-requires c = let ok = sym c.in_ok-call_refusal.ensures in record { boats_bound = rw c.boats-boats.ensures (book_fits _ _ (files_ok (set_terms c.args.released) _ _ ok)).most_boats; shares_in_bounds = pairs_fit (set_terms c.args.released) _ _ _ c.args.output.now ok c.in_ok-worked.ensures c.boats-boats.ensures _ c.holding-back.ensures.value c.if-output-back.false }

pub tolerance-requires : goal.tolerance-requires
tolerance-requires c = (sheet_fits _ _ (files_ok (set_terms c.args.released) _ _ (sym c.in_ok-call_refusal.ensures))).at_least

pub columns-requires : goal.columns-requires
columns-requires c = (book_fits _ _ (files_ok (set_terms c.args.released) _ _ (sym c.in_ok-call_refusal.ensures))).at_least

pub returns : goal.returns
returns c =
    let ok = sym c.in_ok-call_refusal.ensures in
    let q = filed (set_terms c.args.released) _ _ _ _ ok c.in_ok-worked.ensures c.boats-boats.ensures _ c.holding-back.ensures.value c.if-output-back.false _ _ c.put_pairs.ensures _ _ c.tolerance.ensures c.columns.ensures.value c.put_trailer.ensures in
    record { value = q.0; output_after = q.1.0; working_right = q.1.1 }
