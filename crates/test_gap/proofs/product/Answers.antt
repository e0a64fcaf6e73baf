-- `test_gap::product` meets its contract.
use mathlib.Core.Path.{◌≡◌}
use native.Mathlib.Omega.{arith}
use native.Mathlib.Nat.{mul-zero, mul-le-mul_right, suc-mul, mul-div-le, mul_comm, div-add-mod, mod-lt}
use Prim.Native.Nat.{ℕ, ◌*◌, ◌/◌, ◌≤◌, ◌<◌}
use borrow.Author.Rules.{rules}
use Rattle.test_gap.proofs.product.Goals as goal

-- what is above the quotient is too much
beyond : (m a b : ℕ) → 1 ≤ b → m / b < a → m < a * b
beyond m a b p h = omega (arith, mul-le-mul_right b h, suc-mul (m / b) b, mul_comm b (m / b), div-add-mod m b, mod-lt m p)

pub returns-then-b-eq0 : goal.returns-then-b-eq0
returns-then-b-eq0 c = λ h. let e : c.args.b ≡ 0 = search rules in rw (e, mul-zero)

pub returns-then-b-a : goal.returns-then-b-a
returns-then-b-a c = λ h. absurd (omega (arith, h, beyond 18446744073709551615 c.args.a c.args.b (search rules) (search rules)))

pub overflow_mul-result : goal.overflow_mul-result
overflow_mul-result c =
    let a = c.args.a in
    let b = c.args.b in
    let h : a ≤ 18446744073709551615 / b = search rules in
    record { fits = omega (arith, mul-le-mul_right b h, mul-div-le 18446744073709551615 b, mul_comm b (18446744073709551615 / b)) }
