-- `pairwise_moves::slope_of` meets its contract.
use Rattle.pairwise_moves.proofs.Numbers.{slope_fits, slope_cast, slope_result}
use Rattle.pairwise_moves.proofs.slope_of.Goals as goal

pub overflow_sub-result : goal.overflow_sub-result
overflow_sub-result c = slope_fits c.requires

pub overflow_cast-result : goal.overflow_cast-result
overflow_cast-result c = slope_cast c.requires

pub returns : goal.returns
returns c = slope_result c.requires
