-- `test_samples::damage` meets its contract.
use mathlib.Core.Path.{refl}
use borrow.Author.Tests.{eq-eqb, ne_eqb}
use Rattle.test_samples.specs.Draws.{advances}
use Rattle.test_samples.proofs.damage.Goals as goal

pub returns-then-kind-eq4 : goal.returns-then-kind-eq4
unfolding advances
returns-then-kind-eq4 c =
    let place = rw c.draw-kind.ensures.seed_after at c.draw-place.ensures.value in
    rw
    (← c.draw-kind.ensures.value, eq-eqb _ _ c.if-kind-eq4.true)
    record { value = rw place; buffer_after = refl; seed_after = rw (c.draw-x.ensures.seed_after, c.draw-near.ensures.seed_after, c.draw-place.ensures.seed_after, c.draw-kind.ensures.seed_after) }

pub returns-then-kind-eq5 : goal.returns-then-kind-eq5
unfolding advances
returns-then-kind-eq5 c =
    let place = rw c.draw-kind.ensures.seed_after at c.draw-place.ensures.value in
    rw
    (← c.draw-kind.ensures.value, ne_eqb _ _ c.if-kind-eq4.false, eq-eqb _ _ c.if-kind-eq5.true)
    record { value = rw place; buffer_after = refl; seed_after = rw (c.draw-x.ensures.seed_after, c.draw-near.ensures.seed_after, c.draw-place.ensures.seed_after, c.draw-kind.ensures.seed_after) }

pub returns : goal.returns
unfolding advances
returns c =
    let place = rw c.draw-kind.ensures.seed_after at c.draw-place.ensures.value in
    let near = rw (c.draw-place.ensures.seed_after, c.draw-kind.ensures.seed_after) at c.draw-near.ensures.value in
    let x = rw (c.draw-near.ensures.seed_after, c.draw-place.ensures.seed_after, c.draw-kind.ensures.seed_after) at c.draw-x.ensures.value in
    rw
    (← c.draw-kind.ensures.value, ne_eqb _ _ c.if-kind-eq4.false, ne_eqb _ _ c.if-kind-eq5.false)
    record { value = refl; buffer_after = rw (place, near, x) at c.change.ensures.bytes_are; seed_after = rw (c.draw-x.ensures.seed_after, c.draw-near.ensures.seed_after, c.draw-place.ensures.seed_after, c.draw-kind.ensures.seed_after) }
