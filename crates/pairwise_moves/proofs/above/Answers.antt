-- `pairwise_moves::above` meets its contract.
use Rattle.pairwise_moves.proofs.Numbers.{above_fits, above_read}
use Rattle.pairwise_moves.proofs.above.Goals as goal

pub overflow_sub-result : goal.overflow_sub-result
overflow_sub-result c = above_fits c.requires

pub returns : goal.returns
returns c = above_read c.requires
