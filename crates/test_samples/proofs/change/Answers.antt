-- `test_samples::change` meets its contract.
use mathlib.Core.Path.{◌≡◌}
use mathlib.Core.Bool.{cond}
use borrow.Author.Tests.{lt-ltb, le-ltb}
use lib.Dec.{ltb}
use Rattle.test_samples.proofs.change.Goals as goal
use Rattle.test_samples.proofs.change.Goals.{then-kind-lt2, else-kind-lt2}

pub returns : goal.returns
returns c =
    let if1 = c.if-kind-lt2 in
    let x = c.args in
    let size : if1.size ≡ cond (ltb x.kind 2) 1 2 = elim if1.branch [ then-kind-lt2 p ↦ rw (lt-ltb _ _ p.if-kind-lt2.true) p.size-is | else-kind-lt2 p ↦ rw (le-ltb _ _ p.if-kind-lt2.false) p.size-is ] in
    rw (size, c.changed_place-at.ensures, c.changed_number.ensures) at c.put_number.ensures
