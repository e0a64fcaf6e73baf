-- How to use the solver and the facts. Copy the example that is nearest to your goal; each line here is checked with the crate.
-- A goal is written twice: once as its type, once in the variables x₀, x₁, .. whose values the list ρ gives, in that order. Assumes nothing.
use mathlib.Core.Path.{◌≡◌}
use mathlib.Core.List.{[], ◌∷◌}
use Prim.Native.Nat.{ℕ, ◌*◌, ◌≤◌}
use native.Mathlib.Omega.{arith}
use lib.IntN.{ℤ, pos, nat_abs, ◌+ℤ◌, ◌*ℤ◌}
use lib.Signed.{◌≤ℤ◌, ◌<ℤ◌}
use mir.Syntax.{w64}
use mir.Val.{SFits}
use Rattle.integers.proofs.Bounds.{fits, abs_mul_le}
use Rattle.integers.proofs.Solver.{con, ◌⊕◌, ◌⊗◌, ⊖◌, ◌⊝◌, x₀, x₁, x₂, x₃, solve}
use Rattle.integers.proofs.Order.{≤→≤ℤ, ≤ℤ→≤}
use Rattle.integers.proofs.Facts.{◌≼◌, ◌≺◌, known, square, equation, ◌⊞◌, ◌⊡◌, derive, derive_times}

-- An equation: both sides, in the variables.
binomial : (a b : ℤ) → (a +ℤ b) *ℤ (a +ℤ b) ≡ a *ℤ a +ℤ pos 2 *ℤ a *ℤ b +ℤ b *ℤ b
binomial a b = solve (a ∷ b ∷ []) ((x₀ ⊕ x₁) ⊗ (x₀ ⊕ x₁)) (x₀ ⊗ x₀ ⊕ con (pos 2) ⊗ x₀ ⊗ x₁ ⊕ x₁ ⊗ x₁) tt

-- A sum of facts: a ≤ b and c ≤ d give a + c ≤ b + d.
add-≤ : (a b c d : ℤ) → a ≤ℤ b → c ≤ℤ d → (a +ℤ c) ≤ℤ (b +ℤ d)
add-≤ a b c d h k = derive (a ∷ b ∷ c ∷ d ∷ []) (x₀ ⊕ x₂ ≼ x₁ ⊕ x₃) (known (x₀ ≼ x₁) h ⊞ known (x₂ ≼ x₃) k) tt

-- A product of facts: 0 ≤ c and a ≤ b give c a ≤ c b.
scale-≤ : (a b c : ℤ) → pos 0 ≤ℤ c → a ≤ℤ b → (c *ℤ a) ≤ℤ (c *ℤ b)
scale-≤ a b c h k = derive (a ∷ b ∷ c ∷ []) (x₂ ⊗ x₀ ≼ x₂ ⊗ x₁) (known (con (pos 0) ≼ x₂) h ⊡ known (x₀ ≼ x₁) k) tt

-- A square is a fact with no premise: 2 a b ≤ a² + b².
square-≤ : (a b : ℤ) → (pos 2 *ℤ a *ℤ b) ≤ℤ (a *ℤ a +ℤ b *ℤ b)
square-≤ a b = derive (a ∷ b ∷ []) (con (pos 2) ⊗ x₀ ⊗ x₁ ≼ x₀ ⊗ x₀ ⊕ x₁ ⊗ x₁) (square (x₀ ⊝ x₁)) tt

-- An equation as a fact, times any expression: a = b gives c a ≤ c b, whatever the sign of c.
equal-≤ : (a b c : ℤ) → a ≡ b → (c *ℤ a) ≤ℤ (c *ℤ b)
equal-≤ a b c h = derive (a ∷ b ∷ c ∷ []) (x₂ ⊗ x₀ ≼ x₂ ⊗ x₁) (equation (⊖ x₂) x₀ x₁ h) tt

-- A strict goal: a < b is that b - a - 1 is not below 0.
add-one-< : (a b : ℤ) → a ≤ℤ b → a <ℤ (b +ℤ pos 1)
add-one-< a b h = derive (a ∷ b ∷ []) (x₀ ≺ x₁ ⊕ con (pos 1)) (known (x₀ ≼ x₁) h) tt

-- A factor cancelled: the facts give k times the goal, and k is above 0.
cancel-≤ : (a b k : ℤ) → pos 0 <ℤ k → (k *ℤ a) ≤ℤ (k *ℤ b) → a ≤ℤ b
cancel-≤ a b k hk h = derive_times (a ∷ b ∷ k ∷ []) x₂ (x₀ ≼ x₁) hk (known (x₂ ⊗ x₀ ≼ x₂ ⊗ x₁) h) tt

-- Naturals, by way of the integers: what omega cannot do, since it multiplies no variables.
mul_mono : (a b c : ℕ) → a ≤ b → a * c ≤ b * c
mul_mono a b c h = ≤ℤ→≤ (derive (pos a ∷ pos b ∷ pos c ∷ []) (x₀ ⊗ x₂ ≼ x₁ ⊗ x₂) (known (x₀ ≼ x₁) (≤→≤ℤ h) ⊡ known (con (pos 0) ≼ x₂) (≤→≤ℤ (zero-≤ c))) tt)
  where
    zero-≤ : (n : ℕ) → 0 ≤ n
    zero-≤ n = omega arith

-- A machine integer: what is at most 4,000,000,000 in absolute value fits an i64.
fits_i64 : (a b : ℤ) → nat_abs a ≤ 2000000 → nat_abs b ≤ 2000 → SFits w64 (a *ℤ b)
fits_i64 a b h k = fits w64 4000000000 (abs_mul_le a b 2000000 2000 h k) tt
