-- The worked cells, computed.
use mathlib.Core.Path.{refl}
use lib.Ieee.{sub, add, neg, sum, round, units, odd, size, span, climb}
use lib.Count.{count_trailing_zeros}
use Rattle.files.specs.Bytes.{between, in_range}
use Rattle.rounding.specs.Rounding.{half_even, rounded}
use Rattle.scale_readings.specs.Readings.{is_finite, numerator, denominator, within_limit, whole}
use Rattle.scale_cells.specs.Cells.{is_weighed, net, cell_value, cell_refusal, cells_refusal}
use Rattle.scale_cells.specs.Examples.{Examples}

pub examples : Examples
unfolding cells_refusal cell_refusal cell_value net is_weighed within_limit whole is_finite numerator denominator rounded half_even between in_range sub add neg sum round units odd size span climb count_trailing_zeros
examples = record { accepted = refl; values = refl; refused = refl; first_refuses = refl }
