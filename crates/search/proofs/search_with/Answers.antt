-- `search::search_with` meets its contract.
use native.Mathlib.Omega.{arith}
use mathlib.Core.Path.{sym}
use Rattle.std.specs.Prelude.{option_copied}
use Rattle.refusals.proofs.Numbers.{positive}
use Rattle.method.specs.Calls.{terms_in}
use Rattle.method.proofs.Accepted.{files_ok}
use Rattle.method.proofs.Searched.{passed_searched}
use Rattle.iteration.proofs.States.{book_fits}
use Rattle.search.proofs.Entry.{refused_by_call, refused_short, answered}
use Rattle.search.proofs.search_with.Goals as goal

pub returns-in_err-call_refusal : goal.returns-in_err-call_refusal
returns-in_err-call_refusal c =
    let q = refused_by_call c.args.released (option_copied c.args.table) _ _ _ _ c.in_err-call_refusal.ensures (positive _) (passed_searched _ _ c.from_residual.ensures) in
    record { value = q.0; shares_after = q.1.0; outcome_right_with = q.1.1.0; table_value = q.1.1.1 }

pub boats-requires : goal.boats-requires
boats-requires c = (book_fits _ _ (files_ok (terms_in c.args.released (option_copied c.args.table)) _ _ (sym c.in_ok-call_refusal.ensures))).at_least

pub returns-then-shares-boats : goal.returns-then-shares-boats
returns-then-shares-boats c =
    let q = refused_short c.args.released (option_copied c.args.table) _ _ _ (sym c.in_ok-call_refusal.ensures) c.boats.ensures c.if-shares-boats.true in
    record { value = q.0; shares_after = q.1.0; outcome_right_with = q.1.1.0; table_value = q.1.1.1 }

pub run-requires : goal.run-requires
run-requires c = record { sheet_value = sym c.in_ok-call_refusal.ensures; book_in_bounds = omega (arith, c.boats.ensures, c.if-shares-boats.false) }

pub returns : goal.returns
returns c =
    let q = answered c.args.released (option_copied c.args.table) _ _ _ (sym c.in_ok-call_refusal.ensures) c.boats.ensures c.if-shares-boats.false c.run.ensures.value c.run.ensures.shares_after in
    record { value = q.0; shares_after = q.1.0; outcome_right_with = q.1.1.0; table_value = q.1.1.1 }
