-- `test_tables::number` meets its contract.
use mathlib.Core.Path.{◌≡◌}
use mathlib.Core.List.{◌∷◌}
use borrow.Author.Rules.{rules}
use native.Mathlib.Numerals.{add-one}
use Prim.Native.Nat.{◌+◌}
use lib.ListN.{get_or, drop, drop_of_length-le}
use lib.Seq.{drop-cons}
use Rattle.test_tables.specs.Tables.{digits_after}
use Rattle.test_tables.proofs.number.Goals as goal

pub loop-digit-preserved : goal.loop-digit-preserved
unfolding digits_after
loop-digit-preserved c =
    let l = c.args.digits.now in
    let e : drop c.loop-digit.digit-index l ≡ get_or l c.loop-digit.digit-index 0 ∷ drop (c.loop-digit.digit-index + 1) l = rw add-one (drop-cons l c.loop-digit.digit-index 0 (search rules)) in
    rw c.wide.ensures.value (rw e at c.loop-digit.invariant)

pub returns : goal.returns
unfolding digits_after
returns c =
    let l = c.args.digits.now in
    rw (drop_of_length-le l {i = c.loop-digit.digit-index} (search rules)) at c.loop-digit.invariant
