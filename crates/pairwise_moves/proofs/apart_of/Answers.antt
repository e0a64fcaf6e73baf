-- `pairwise_moves::apart_of` meets its contract.
use Rattle.pairwise_moves.proofs.Numbers.{apart_fits, apart_cast, apart_result}
use Rattle.pairwise_moves.proofs.apart_of.Goals as goal

pub overflow_sub-result : goal.overflow_sub-result
overflow_sub-result c = apart_fits c.requires c.above-far.ensures c.above-near.ensures

pub overflow_cast-result : goal.overflow_cast-result
overflow_cast-result c = apart_cast c.requires c.above-far.ensures c.above-near.ensures

pub returns : goal.returns
returns c = apart_result c.requires c.above-far.ensures c.above-near.ensures
