-- `calls::limited_refusal` meets its contract.
use mathlib.Core.Path.{refl, sym}
use native.Mathlib.Omega.{arith}
use Rattle.refusals.proofs.Numbers.{positive, passed_on}
use Rattle.files.proofs.Accepted.{book_accepted}
use Rattle.calls.proofs.Order.{book_refuses, set_refuses, sheet_refuses}
use Rattle.calls.proofs.limited_refusal.Goals as goal

pub returns-in_err-book_refusal : goal.returns-in_err-book_refusal
returns-in_err-book_refusal c = passed_on _ _ c.from_residual.ensures (book_refuses c.args.released _ _ c.requires _ c.in_err-book_refusal.ensures (positive _))

pub boats-requires : goal.boats-requires
boats-requires c = (book_accepted _ (sym c.in_ok-book_refusal.ensures)).at_least

pub set_refusal-requires : goal.set_refusal-requires
set_refusal-requires c = omega (arith, c.boats.ensures, (book_accepted _ (sym c.in_ok-book_refusal.ensures)).most_boats)

pub returns-in_err-set_refusal : goal.returns-in_err-set_refusal
returns-in_err-set_refusal c =
    passed_on _ _ c.from_residual-in_err-set_refusal.ensures
    (set_refuses c.args.released _ _ c.requires c.in_ok-book_refusal.ensures refl c.boats.ensures _ c.in_err-set_refusal.ensures (positive _))

pub columns-requires : goal.columns-requires
columns-requires c = (book_accepted _ (sym c.in_ok-book_refusal.ensures)).at_least

pub returns : goal.returns
returns c =
    sheet_refuses c.args.released _ _ c.requires c.in_ok-book_refusal.ensures refl c.boats.ensures _ c.in_ok-set_refusal.ensures refl
    c.columns.ensures.value c.sheet_refusal.ensures
