-- `test_queue::sum_of` meets its contract.
use native.Mathlib.Omega.{arith}
use Rattle.test_queue.proofs.sum_of.Goals as goal

pub loop-i-preserved : goal.loop-i-preserved
loop-i-preserved c = omega arith
