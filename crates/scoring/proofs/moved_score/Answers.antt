-- `scoring::moved_score` meets its contract.
use Rattle.scoring.proofs.Rescores.{product_cast, change_fits, score_fits, score_read}
use Rattle.scoring.proofs.moved_score.Goals as goal

pub overflow_cast-result-2 : goal.overflow_cast-result-2
overflow_cast-result-2 c = product_cast c.requires

pub overflow_mul-result : goal.overflow_mul-result
overflow_mul-result c = change_fits c.requires

pub overflow_add-result : goal.overflow_add-result
overflow_add-result c = score_fits c.requires

pub returns : goal.returns
returns c = score_read c.requires
