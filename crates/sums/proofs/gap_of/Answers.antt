-- `sums::gap_of` meets its contract.
use Rattle.sums.proofs.Gaps.{spread_fits, product_fits, gap_fits, gap_cast, gap_result}
use Rattle.sums.proofs.gap_of.Goals as goal

pub overflow_sub-result : goal.overflow_sub-result
overflow_sub-result c = spread_fits c.requires

pub overflow_mul-result : goal.overflow_mul-result
overflow_mul-result c = product_fits c.requires

pub overflow_add-result : goal.overflow_add-result
overflow_add-result c = gap_fits c.requires

pub overflow_cast-result-3 : goal.overflow_cast-result-3
overflow_cast-result-3 c = gap_cast c.requires

pub returns : goal.returns
returns c = gap_result c.requires
