-- `test_samples::draw_plan` meets its contract.
use mathlib.Core.Path.{refl}
use Rattle.test_samples.specs.Draws.{advances}
use Rattle.test_samples.proofs.draw_plan.Goals as goal

pub returns : goal.returns
unfolding advances
returns c =
    rw
    (c.draw-front.ensures.value, c.draw-front.ensures.seed_after, c.draw-steps.ensures.value, c.draw-steps.ensures.seed_after, c.draw-kind.ensures.value, c.draw-kind.ensures.seed_after, c.draw-columns.ensures.value, c.draw-columns.ensures.seed_after, c.draw-boats.ensures.value, c.draw-boats.ensures.seed_after)
    record { value = refl; seed_after = refl }
