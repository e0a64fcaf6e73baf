-- `test_buffers::times` meets its contract: a product of two numbers below 2^16 is below 2^32.
use mathlib.Core.Path.{refl}
use Prim.Native.Nat.{ℕ, ◌*◌, ◌%◌, ◌<◌}
use native.Mathlib.Nat.{mul-le-mul_left}
use native.Mathlib.Omega.{arith}
use Rattle.test_buffers.proofs.times.Goals as goal

below : (a b : ℕ) → (a % 65536) * (b % 65536) < 4294967296
below a b = omega (arith, mul-le-mul_left {m = b % 65536} {n = 65535} (a % 65536) (omega arith))

pub overflow_mul-result : goal.overflow_mul-result
overflow_mul-result c = omega (arith, below c.args.a c.args.b)

pub returns : goal.returns
returns c = record { value = refl; upper_bound = below c.args.a c.args.b }
