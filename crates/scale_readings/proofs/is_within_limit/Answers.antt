-- `scale_readings::is_within_limit` meets its contract: the constants are the doubles 1,048,576 and its negative.
use lib.Ieee.{of_bits, neg}
use Rattle.scale_readings.proofs.Limits.{upper_limit, below_limit}
use Rattle.scale_readings.proofs.is_within_limit.Goals as goal

pub returns-then-x : goal.returns-then-x
unfolding of_bits neg
returns-then-x c = upper_limit c.args.x c.if-x.true

pub returns : goal.returns
unfolding of_bits neg
returns c = below_limit c.args.x c.if-x.false
