-- `scale_readings::rounded_magnitude` meets its contract.
use mathlib.Core.Path.{◌≡◌, sym, subst, ap, ◌∙◌}
use Prim.Native.Nat.{ℕ, ◌+◌, ◌-◌, ◌*◌, ◌%◌, ◌^◌, ◌≤◌, ◌<◌}
use native.Mathlib.Nat.{one-mul}
use native.Mathlib.Omega.{arith}
use lib.Pow.{pow_pos, shl_exact}
use Rattle.rounding.specs.Rounding.{half_even}
use Rattle.scale_readings.proofs.Patterns.{tiny, shifted}
use Rattle.scale_readings.proofs.rounded_magnitude.Goals as goal

-- a shift by at most 53 loses nothing
power : (k : ℕ) → k ≤ 53 → 1 * 2 ^ k % 2 ^ 64 ≡ 2 ^ k
power k h = shl_exact 1 k 64 (omega arith) (omega arith) ∙ one-mul (2 ^ k)

pub returns-then-exponent-lt1022 : goal.returns-then-exponent-lt1022
returns-then-exponent-lt1022 c = (tiny c.args.exponent c.args.fraction c.if-exponent-lt1022.true c.requires.1, omega arith)

pub half_even-requires : goal.half_even-requires
half_even-requires c =
    let k = 1075 - c.args.exponent in
    (subst (λ (p : ℕ). 0 < p) (sym (power k (omega arith))) (pow_pos k), omega arith)

pub returns : goal.returns
returns c =
    let x = c.args.exponent in
    let t = c.args.fraction in (
      c.half_even.ensures.0
          ∙ ap (λ (p : ℕ). half_even (2 ^ 52 + t) p) (power (1075 - x) (omega arith))
          ∙ shifted x t c.if-exponent-lt1022.false c.requires.0,
      omega arith,
    )
