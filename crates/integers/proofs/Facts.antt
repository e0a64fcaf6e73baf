-- Inequalities of integers from other inequalities: `derive ρ goal facts tt`. A fact is an expression that is not below 0;
-- facts are added (⊞) and multiplied (⊡), and the goal follows where they multiply out to it. Laws that are used often follow. Assumes nothing.
use mathlib.Core.Path.{◌≡◌, refl, ap, ◌∙◌}
use mathlib.Core.Bool.{Bool, true, false, not}
use mathlib.Core.List.{List, [], ◌∷◌}
use Prim.Native.Nat.{ℕ}
use lib.Dec.{T, not_T}
use lib.IntN.{ℤ, pos, ◌+ℤ◌, ◌-ℤ◌, ◌*ℤ◌}
use lib.Signed.{◌≤ℤ◌, ◌<ℤ◌, lt_z, le_z, lt_z_no, clash_ℤ}
use Rattle.integers.proofs.Solver.{Expr, con, ◌⊕◌, ◌⊗◌, ⊖◌, ◌⊝◌, x₀, x₁, x₂, eval, Same, solve}
use Rattle.integers.proofs.Order.{Nonneg, is_nat, nonneg_by, nonneg_add, nonneg_mul, nonneg_square, nonneg_equation, ≤→nonneg, nonneg→≤, <→nonneg, nonneg→<, ≤ℤ-antisymmetric, cancel_nonneg, cancel_positive}

-- what is claimed of two expressions: at most, or below
infix 5 ◌≼◌ ◌≺◌
pub data Claim : Type 0 where
  ◌≼◌ : Expr → Expr → Claim
  ◌≺◌ : Expr → Expr → Claim

abbrev pub Holds : List ℤ → Claim → Type 0
Holds ρ (a ≼ b) = eval ρ a ≤ℤ eval ρ b
Holds ρ (a ≺ b) = eval ρ a <ℤ eval ρ b

-- the expression that a claim says is not below 0
abbrev pub difference : Claim → Expr
difference (a ≼ b) = b ⊝ a
difference (a ≺ b) = b ⊝ a ⊝ con (pos 1)

pub record Fact (ρ : List ℤ) : Type 0 where
  pub expr : Expr
  pub holds : Nonneg (eval ρ expr)

pub nonneg_of : (ρ : List ℤ) (c : Claim) → Holds ρ c → Nonneg (eval ρ (difference c))
nonneg_of ρ (a ≼ b) h = ≤→nonneg h
nonneg_of ρ (a ≺ b) h = <→nonneg h

claim_of : (ρ : List ℤ) (c : Claim) → Nonneg (eval ρ (difference c)) → Holds ρ c
claim_of ρ (a ≼ b) h = nonneg→≤ (eval ρ a) (eval ρ b) h
claim_of ρ (a ≺ b) h = nonneg→< (eval ρ a) (eval ρ b) h

-- ---- Facts

-- a claim that holds
abbrev pub known : {ρ : List ℤ} → (c : Claim) → Holds ρ c → Fact ρ
known {ρ} c h = record { expr = difference c; holds = nonneg_of ρ c h }

-- a natural number
abbrev pub nat : {ρ : List ℤ} → ℕ → Fact ρ
nat n = record { expr = con (pos n); holds = is_nat n }

-- a square
abbrev pub square : {ρ : List ℤ} → Expr → Fact ρ
square {ρ} e = record { expr = e ⊗ e; holds = nonneg_square (eval ρ e) }

-- an equation a = b, times any expression c: c (a - b), which is 0
abbrev pub equation : {ρ : List ℤ} → (c a b : Expr) → eval ρ a ≡ eval ρ b → Fact ρ
equation {ρ} c a b h = record { expr = c ⊗ (a ⊝ b); holds = nonneg_equation (eval ρ c) h }

infixl 6 ◌⊞◌
abbrev pub ◌⊞◌ : {ρ : List ℤ} → Fact ρ → Fact ρ → Fact ρ
f ⊞ g = record { expr = f.expr ⊕ g.expr; holds = nonneg_add f.holds g.holds }

infixl 7 ◌⊡◌
abbrev pub ◌⊡◌ : {ρ : List ℤ} → Fact ρ → Fact ρ → Fact ρ
f ⊡ g = record { expr = f.expr ⊗ g.expr; holds = nonneg_mul f.holds g.holds }

-- ---- What follows

pub derive : (ρ : List ℤ) (goal : Claim) (f : Fact ρ) → Same f.expr (difference goal) → Holds ρ goal
derive ρ goal f t = claim_of ρ goal (nonneg_by (solve ρ f.expr (difference goal) t) f.holds)

-- a goal of which the facts give k times: k above 0 for ≼, at least 0 for ≺
abbrev pub Factor : List ℤ → Expr → Claim → Type 0
Factor ρ k (a ≼ b) = pos 0 <ℤ eval ρ k
Factor ρ k (a ≺ b) = pos 0 ≤ℤ eval ρ k

abbrev pub times : Expr → Claim → Expr
times k (a ≼ b) = k ⊗ (b ⊝ a)
times k (a ≺ b) = k ⊗ (b ⊝ a) ⊝ con (pos 1)

pub derive_times : (ρ : List ℤ) (k : Expr) (goal : Claim) → Factor ρ k goal → (f : Fact ρ) → Same f.expr (times k goal) → Holds ρ goal
derive_times ρ k (a ≼ b) hk f t =
    nonneg→≤ (eval ρ a) (eval ρ b) (cancel_nonneg (eval ρ k) (eval ρ b -ℤ eval ρ a) hk (nonneg_by (solve ρ f.expr (k ⊗ (b ⊝ a)) t) f.holds))
derive_times ρ k (a ≺ b) hk f t =
    nonneg→< (eval ρ a) (eval ρ b)
    (cancel_positive (eval ρ k) (eval ρ b -ℤ eval ρ a) (nonneg_by (solve (eval ρ k ∷ []) (x₀ ⊝ con (pos 0)) x₀ tt) (≤→nonneg hk))
    (nonneg_by (solve ρ f.expr (k ⊗ (b ⊝ a) ⊝ con (pos 1)) t) f.holds))

-- ---- Laws

pub ≤ℤ-trans : {a b c : ℤ} → a ≤ℤ b → b ≤ℤ c → a ≤ℤ c
≤ℤ-trans {a} {b} {c} h k = derive (a ∷ b ∷ c ∷ []) (x₀ ≼ x₂) (known (x₀ ≼ x₁) h ⊞ known (x₁ ≼ x₂) k) tt

pub <ℤ→≤ℤ : {a b : ℤ} → a <ℤ b → a ≤ℤ b
<ℤ→≤ℤ {a} {b} h = derive (a ∷ b ∷ []) (x₀ ≼ x₁) (known (x₀ ≺ x₁) h ⊞ nat 1) tt

-- a multiple of the difference of equal numbers adds nothing
pub plus_equation : (r c : ℤ) {a b : ℤ} → a ≡ b → r +ℤ c *ℤ (a -ℤ b) ≡ r
plus_equation r c {a} {b} e = ap (λ x. r +ℤ c *ℤ (x -ℤ b)) e ∙ solve (r ∷ c ∷ b ∷ []) (x₀ ⊕ x₁ ⊗ (x₂ ⊝ x₂)) x₀ tt

pub cancel_factor : (k a b : ℤ) → pos 0 <ℤ k → k *ℤ a ≡ k *ℤ b → a ≡ b
cancel_factor k a b hk e =
    ≤ℤ-antisymmetric a b
    (derive_times (k ∷ a ∷ b ∷ []) x₀ (x₁ ≼ x₂) hk (equation (⊖ con (pos 1)) (x₀ ⊗ x₁) (x₀ ⊗ x₂) e) tt)
    (derive_times (k ∷ a ∷ b ∷ []) x₀ (x₂ ≼ x₁) hk (equation (con (pos 1)) (x₀ ⊗ x₁) (x₀ ⊗ x₂) e) tt)

-- ---- Tests

-- tests that pass in the same cases are equal
same_test : (s t : Bool) → (T s → T t) → (T t → T s) → s ≡ t
same_test true true f g = refl
same_test true false f g = absurd (f tt)
same_test false true f g = absurd (g tt)
same_test false false f g = refl

pub le_not_lt : (a b : ℤ) → le_z a b ≡ not (lt_z b a)
le_not_lt a b =
    same_test (le_z a b) (not (lt_z b a))
    (λ h. not_T (lt_z b a) (λ k. clash_ℤ {a = b} {b = a} (record { lt = k }) (record { le = h })))
    (λ h. (lt_z_no {a = b} {b = a} h).le)

-- a factor above 0 changes no test
pub lt_scale : (k a b : ℤ) → pos 0 <ℤ k → lt_z (k *ℤ a) (k *ℤ b) ≡ lt_z a b
lt_scale k a b hk =
    same_test (lt_z (k *ℤ a) (k *ℤ b)) (lt_z a b)
    (λ h. (derive_times (k ∷ a ∷ b ∷ []) x₀ (x₁ ≺ x₂) (<ℤ→≤ℤ hk) (known (x₀ ⊗ x₁ ≺ x₀ ⊗ x₂) (record { lt = h })) tt).lt)
    (λ h. (derive (k ∷ a ∷ b ∷ []) (x₀ ⊗ x₁ ≺ x₀ ⊗ x₂)
    (known (con (pos 0) ≼ x₀) (<ℤ→≤ℤ hk) ⊡ known (x₁ ≺ x₂) (record { lt = h }) ⊞ known (con (pos 0) ≺ x₀) hk) tt).lt)
