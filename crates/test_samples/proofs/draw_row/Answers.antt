-- `test_samples::draw_row` meets its contract.
use Rattle.test_samples.proofs.draw_row.Goals as goal

pub returns : goal.returns
returns c = record { value = rw (c.times.ensures.value, c.draw-boat.ensures.value); seed_after = c.draw-boat.ensures.seed_after }
