-- The order of the integers, as `lib.Signed` has it, through the sign of a difference: a ≤ b where b - a is not below 0,
-- a < b where b - a - 1 is not. The laws here are those that products and sums of inequalities need. Assumes nothing.
use mathlib.Core.Path.{◌≡◌, refl, sym, ap, ◌∙◌, subst}
use mathlib.Core.Bool.{Bool, true, false, not}
use mathlib.Core.List.{[], ◌∷◌}
use Prim.Native.Nat.{ℕ, zero, suc, ◌+◌, ◌*◌, ◌-◌, ◌≤◌, ◌<◌}
use native.Mathlib.Nat.{le_antisymm}
use native.Mathlib.Omega.{arith}
use native.Mathlib.Numerals.{unary_clauses}
use lib.Dec.{T, leb→le, le→leb, ltb→lt, lt→ltb}
use lib.IntN.{ℤ, pos, negsuc, neg_ℤ, nat_abs, ◌+ℤ◌, ◌-ℤ◌, ◌*ℤ◌, +ℤ_invr, *ℤ-zero, -ℤ_one, -ℤ-+ℤ_cancel}
use lib.Signed.{◌≤ℤ◌, ◌<ℤ◌, lt_z, lt_z_no, clash_ℤ}
use Rattle.integers.proofs.Solver.{con, ◌⊕◌, ◌⊗◌, ⊖◌, ◌⊝◌, x₀, x₁, x₂, solve}

-- an integer that is not below 0
pub data Nonneg : ℤ → Type 0 where
  is_nat : (n : ℕ) → Nonneg (pos n)

pub nonneg_nat : (a : ℤ) → Nonneg a → (n : ℕ) × (a ≡ pos n)
nonneg_nat a (is_nat n) = (n, refl)

pub nonneg_by : {a b : ℤ} → a ≡ b → Nonneg a → Nonneg b
nonneg_by e h = subst Nonneg e h

pub nonneg_add : {a b : ℤ} → Nonneg a → Nonneg b → Nonneg (a +ℤ b)
nonneg_add (is_nat m) (is_nat n) = is_nat (m + n)

pub nonneg_mul : {a b : ℤ} → Nonneg a → Nonneg b → Nonneg (a *ℤ b)
nonneg_mul (is_nat m) (is_nat n) = is_nat (m * n)

pub nonneg_square : (a : ℤ) → Nonneg (a *ℤ a)
nonneg_square (pos n) = is_nat (n * n)
nonneg_square (negsuc n) = is_nat (suc n * suc n)

-- both sides of an equation, times anything
pub nonneg_equation : (c : ℤ) {a b : ℤ} → a ≡ b → Nonneg (c *ℤ (a -ℤ b))
nonneg_equation c {a} {b} e = nonneg_by (sym (ap (λ x. c *ℤ (x -ℤ b)) e ∙ ap (λ x. c *ℤ x) (+ℤ_invr b) ∙ *ℤ-zero c)) (is_nat 0)

not_nonneg : (n : ℕ) → Nonneg (negsuc n) → ⊥
not_nonneg n h = elim h [ ]

-- ---- The order of the naturals

pub le→nonneg : {m n : ℕ} → m ≤ n → Nonneg (pos n -ℤ pos m)
le→nonneg {m} {n} h =
    nonneg_by (solve (pos m ∷ pos (n - m) ∷ []) x₁ (x₀ ⊕ x₁ ⊝ x₀) tt ∙ ap (λ x. pos x -ℤ pos m) (back m n h)) (is_nat (n - m))
  where
    back : (m n : ℕ) → m ≤ n → m + (n - m) ≡ n
    back m n h = omega arith

pub nonneg→le : {m n : ℕ} → Nonneg (pos n -ℤ pos m) → m ≤ n
nonneg→le {m} {n} h = go m n d.0 (ap nat_abs (sym (-ℤ-+ℤ_cancel (pos n) (pos m)) ∙ ap (λ x. x +ℤ pos m) d.1))
  where
    d : (k : ℕ) × (pos n -ℤ pos m ≡ pos k)
    d = nonneg_nat (pos n -ℤ pos m) h

    go : (m n d : ℕ) → n ≡ d + m → m ≤ n
    go m n d e = omega arith

-- ---- The order of `lib.Signed`

pub ≤→nonneg : {a b : ℤ} → a ≤ℤ b → Nonneg (b -ℤ a)
≤→nonneg {a = pos m} {b = pos n} h = le→nonneg (leb→le m n h.le)
≤→nonneg {a = pos m} {b = negsuc n} h = absurd h.le
≤→nonneg {a = negsuc m} {b = pos n} h = is_nat (n + suc m)
≤→nonneg {a = negsuc m} {b = negsuc n} h = le→nonneg (up m n (leb→le n m h.le))
  where
    up : (m n : ℕ) → n ≤ m → suc n ≤ suc m
    up m n h = omega arith

pub nonneg→≤ : (a b : ℤ) → Nonneg (b -ℤ a) → a ≤ℤ b
nonneg→≤ (pos m) (pos n) h = record { le = le→leb m n (nonneg→le h) }
nonneg→≤ (pos m) (negsuc n) h = absurd (not_nonneg n (nonneg_by (-ℤ-+ℤ_cancel (negsuc n) (pos m)) (nonneg_add h (is_nat m))))
nonneg→≤ (negsuc m) (pos n) h = record { le = tt }
nonneg→≤ (negsuc m) (negsuc n) h = record { le = le→leb n m (down m n (nonneg→le h)) }
  where
    down : (m n : ℕ) → suc n ≤ suc m → n ≤ m
    down m n h = omega arith

-- b ≤ a and a < b do not hold at once
neither : (a b : ℤ) → Nonneg (a -ℤ b) → Nonneg (b -ℤ a -ℤ pos 1) → ⊥
neither a b h k = not_nonneg 0 (nonneg_by (solve (a ∷ b ∷ []) (x₀ ⊝ x₁ ⊕ (x₁ ⊝ x₀ ⊝ con (pos 1))) (⊖ con (pos 1)) tt) (nonneg_add h k))

pub nonneg→< : (a b : ℤ) → Nonneg (b -ℤ a -ℤ pos 1) → a <ℤ b
nonneg→< a b h = record { lt = go (lt_z a b) (λ f. lt_z_no f) }
  where
    go : (t : Bool) → (T (not t) → b ≤ℤ a) → T t
    go true f = tt
    go false f = absurd (neither a b (≤→nonneg (f tt)) h)

pub <→nonneg : {a b : ℤ} → a <ℤ b → Nonneg (b -ℤ a -ℤ pos 1)
<→nonneg {a} {b} h = go (b -ℤ a -ℤ pos 1) refl
  where
    go : (d : ℤ) → b -ℤ a -ℤ pos 1 ≡ d → Nonneg d
    go (pos n) e = is_nat n
    go (negsuc n) e =
        clash_ℤ h (nonneg→≤ b a (nonneg_by
        (sym (solve (a ∷ b ∷ []) (x₀ ⊝ x₁) (⊖ (x₁ ⊝ x₀ ⊝ con (pos 1)) ⊝ con (pos 1)) tt ∙ ap (λ x. neg_ℤ x -ℤ pos 1) e ∙ -ℤ_one (pos (suc n))))
        (is_nat n)))

pub ≤ℤ→≤ : {m n : ℕ} → pos m ≤ℤ pos n → m ≤ n
≤ℤ→≤ {m} {n} h = leb→le m n h.le

pub ≤→≤ℤ : {m n : ℕ} → m ≤ n → pos m ≤ℤ pos n
≤→≤ℤ {m} {n} h = record { le = le→leb m n h }

pub <ℤ→< : {m n : ℕ} → pos m <ℤ pos n → m < n
<ℤ→< {m} {n} h = ltb→lt m n h.lt

pub <→<ℤ : {m n : ℕ} → m < n → pos m <ℤ pos n
<→<ℤ {m} {n} h = record { lt = lt→ltb m n h }

pub ≤ℤ-antisymmetric : (a b : ℤ) → a ≤ℤ b → b ≤ℤ a → a ≡ b
≤ℤ-antisymmetric (pos m) (pos n) h k = ap pos (le_antisymm (≤ℤ→≤ h) (≤ℤ→≤ k))
≤ℤ-antisymmetric (pos m) (negsuc n) h k = absurd h.le
≤ℤ-antisymmetric (negsuc m) (pos n) h k = absurd k.le
≤ℤ-antisymmetric (negsuc m) (negsuc n) h k = ap negsuc (le_antisymm (leb→le m n k.le) (leb→le n m h.le))

-- ---- A factor is cancelled

-- k a ≥ 0 with k > 0
pub cancel_nonneg : (k a : ℤ) → pos 0 <ℤ k → Nonneg (k *ℤ a) → Nonneg a
cancel_nonneg k (pos n) hk h = is_nat n
cancel_nonneg k (negsuc n) hk h =
    absurd (neither (pos 0) k (nonneg_by (solve (k ∷ negsuc n ∷ pos n ∷ []) (x₀ ⊗ x₁ ⊕ x₀ ⊗ x₂ ⊕ (⊖ x₀) ⊗ (x₁ ⊝ (⊖ x₂ ⊝ con (pos 1)))) (con (pos 0) ⊝ x₀) tt)
    (nonneg_add (nonneg_add h (nonneg_mul (nonneg_weaken k hk) (is_nat n))) (nonneg_equation (neg_ℤ k) (negsuc_is n)))) (<→nonneg hk))
  where
    nonneg_weaken : (k : ℤ) → pos 0 <ℤ k → Nonneg k
    nonneg_weaken k h = nonneg_by (solve (k ∷ []) (x₀ ⊝ con (pos 0) ⊝ con (pos 1) ⊕ con (pos 1)) x₀ tt) (nonneg_add (<→nonneg h) (is_nat 1))

    negsuc_is : (n : ℕ) → negsuc n ≡ neg_ℤ (pos n) -ℤ pos 1
    negsuc_is zero = refl
    negsuc_is (suc n) = simp unary_clauses

-- k a ≥ 1 with k ≥ 0
pub cancel_positive : (k a : ℤ) → Nonneg k → Nonneg (k *ℤ a -ℤ pos 1) → Nonneg (a -ℤ pos 1)
cancel_positive k (pos zero) hk h = absurd (not_nonneg 0 (nonneg_by (ap (λ x. x -ℤ pos 1) (*ℤ-zero k)) h))
cancel_positive k (pos (suc n)) hk h = nonneg_by (sym (-ℤ_one (pos (suc n)))) (is_nat n)
cancel_positive k (negsuc n) hk h =
    absurd (not_nonneg 0 (nonneg_by (solve (k ∷ negsuc n ∷ pos (suc n) ∷ []) (x₀ ⊗ x₁ ⊝ con (pos 1) ⊕ x₀ ⊗ x₂ ⊕ (⊖ x₀) ⊗ (x₁ ⊕ x₂)) (⊖ con (pos 1)) tt)
    (nonneg_add (nonneg_add h (nonneg_mul hk (is_nat (suc n)))) (nonneg_by (sym (ap (λ x. neg_ℤ k *ℤ x) (+ℤ_invr (negsuc n)) ∙ *ℤ-zero (neg_ℤ k))) (is_nat 0)))))
