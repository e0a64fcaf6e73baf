-- `sums::square` meets its contract.
use Rattle.sums.proofs.Squares.{held_fits, square_fits, square_cast, square_is}
use Rattle.sums.proofs.square.Goals as goal

pub overflow_cast-z : goal.overflow_cast-z
overflow_cast-z c = held_fits c.args.x c.requires

pub overflow_mul-result : goal.overflow_mul-result
overflow_mul-result c = square_fits c.args.x c.requires

pub overflow_cast-result : goal.overflow_cast-result
overflow_cast-result c = square_cast c.args.x c.requires

pub returns : goal.returns
returns c = square_is c.args.x c.requires
