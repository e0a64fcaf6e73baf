-- Fractions over two denominators compare as their cross products. Assumes nothing.
use mathlib.Core.Path.{◌≡◌}
use mathlib.Core.Logic.{◌↔◌}
use mathlib.Core.List.{[], ◌∷◌}
use Prim.Native.Nat.{ℕ, ◌+◌, ◌*◌, ◌-◌, ◌≤◌, ◌<◌}
use native.Mathlib.Omega.{arith}
use native.Mathlib.Nat.{one-le-mul}
use lib.Dec.{ltb→lt, lt→ltb}
use lib.IntN.{pos}
use Rattle.integers.proofs.Solver.{◌⊗◌, x₀, x₁, x₂, solve}
use Rattle.method.specs.declared.Answer.{Answer}
use Rattle.method.specs.Fractions.{Fraction, ratio, IsRatio, ◌≤ℚ◌, ◌<ℚ◌}
use Rattle.method.proofs.Fractions.{ratio_value, lt_value, le_exactly, same_value}
use Rattle.better_card_promise.specs.Promise.{IsDistance}

-- E / W², where W is above 0
abbrev pub squared_distance : Answer → Fraction
squared_distance a = ratio (pos a.distance) (a.weight * a.weight - 1)

pub distance_is : (a : Answer) → 1 ≤ a.weight → IsDistance (squared_distance a) a
distance_is a h =
    let k = one-le-mul h h in
    let e : a.weight * a.weight - 1 + 1 ≡ a.weight * a.weight = omega arith in
    rw e at (ratio_value (pos a.distance) (a.weight * a.weight - 1))

module _ {p q : Fraction} {m n w v : ℕ} (hp : IsRatio p (pos m) w) (hq : IsRatio q (pos n) v) where
  -- over the product of the two denominators
  left : IsRatio p (pos (m * v)) (w * v)
  left = same_value hp (one-le-mul hp.above_zero hq.above_zero) (solve (pos m ∷ pos w ∷ pos v ∷ []) (x₀ ⊗ (x₁ ⊗ x₂)) (x₀ ⊗ x₂ ⊗ x₁) tt)

  right : IsRatio q (pos (n * w)) (w * v)
  right = same_value hq (one-le-mul hp.above_zero hq.above_zero) (solve (pos n ∷ pos w ∷ pos v ∷ []) (x₀ ⊗ (x₁ ⊗ x₂)) (x₀ ⊗ x₁ ⊗ x₂) tt)

  pub at_most : (p ≤ℚ q) ↔ (m * v ≤ n * w)
  at_most = le_exactly left right

  pub less : (p <ℚ q) ↔ (m * v < n * w)
  less = (λ r. ltb→lt (m * v) (n * w) (rw (lt_value left right) at r.lt), λ r. record { lt = rw (lt_value left right) (lt→ltb (m * v) (n * w) r) })
