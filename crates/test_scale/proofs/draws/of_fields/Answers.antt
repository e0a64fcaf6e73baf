-- `test_scale::draws::of_fields` meets its contract: an exponent field below 2,047 is not a NaN's.
use borrow.Author.Tests.{ne_eqb}
use mathlib.Core.Path.{◌≡◌}
use Prim.Native.Nat.{ℕ, ◌+◌, ◌*◌, ◌/◌, ◌%◌}
use native.Mathlib.Omega.{arith}
use lib.Ieee.{nan_bits}
use Rattle.test_scale.proofs.draws.of_fields.Goals as goal

field_below : (e f : ℕ) → (e % 2047 * 4503599627370496 + f % 4503599627370496) % 9223372036854775808 / 4503599627370496 ≡ 2047 → ⊥
field_below e f h = omega arith

pub float_from_bits-result : goal.float_from_bits-result
unfolding nan_bits
float_from_bits-result c = rw (ne_eqb _ 2047 (field_below c.args.exponent c.args.fraction)) tt
