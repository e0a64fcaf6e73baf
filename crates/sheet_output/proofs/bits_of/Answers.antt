-- `sheet_output::bits_of` meets its contract.
use Rattle.sheet_output.proofs.Bits.{wide_fits, sum_fits, sum_cast, sum_bits}
use Rattle.sheet_output.proofs.bits_of.Goals as goal

pub overflow_cast-result : goal.overflow_cast-result
overflow_cast-result c = wide_fits c.args.value c.ranges.value

pub overflow_add-result : goal.overflow_add-result
overflow_add-result c = sum_fits c.args.value c.ranges.value

pub overflow_cast-result-2 : goal.overflow_cast-result-2
overflow_cast-result-2 c = sum_cast c.args.value c.ranges.value

pub returns : goal.returns
returns c = sum_bits c.args.value c.ranges.value
