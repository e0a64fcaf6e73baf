-- What is looked for one after the other until the first is found: `found n` is what is found among the first n, and t of it is 0 where that is nothing.
use mathlib.Core.Path.{◌≡◌, refl, sym, ap, ◌∙◌}
use mathlib.Core.Bool.{Bool, true, false, cond}
use Prim.Native.Nat.{ℕ, zero, suc, ◌+◌, ◌-◌, ◌≤◌}
use native.Mathlib.Omega.{arith}
use borrow.Author.Tests.{eqb-true, eqb-false, ne_eqb}
use lib.Dec.{eqb}

-- ---- one after another
module _ {A : Type 0} (t : A → ℕ) (x y : A) where
  nothing_by : (b : Bool) → eqb (t x) 0 ≡ b → t (cond b y x) ≡ 0 → (t x ≡ 0) × (t y ≡ 0)
  nothing_by true e h = (eqb-true (t x) 0 e, h)
  nothing_by false e h = absurd (eqb-false (t x) 0 e h)

  pub nothing_both : t (cond (eqb (t x) 0) y x) ≡ 0 → (t x ≡ 0) × (t y ≡ 0)
  nothing_both h = nothing_by (eqb (t x) 0) refl h

-- ---- many
module _ {A : Type 0} (t : A → ℕ) (found each : ℕ → A) (step : (n : ℕ) → found (suc n) ≡ cond (eqb (t (found n)) 0) (each (suc n)) (found n)) where
  stays_by : (m d : ℕ) → (t (found m) ≡ 0 → ⊥) → found (d + m) ≡ found m
  stays_by m zero h = let e : 0 + m ≡ m = omega arith in rw e
  stays_by m (suc d) h =
      let e : suc d + m ≡ suc (d + m) = omega arith in
      rw e (step (d + m) ∙ rw (stays_by m d h, ne_eqb (t (found m)) 0 h))

  -- the first stays
  pub first_stays : (m n : ℕ) → m ≤ n → (t (found m) ≡ 0 → ⊥) → found m ≡ found n
  first_stays m n l h =
      let e : n - m + m ≡ n = omega arith in
      sym (stays_by m (n - m) h) ∙ ap found e

  nothing_before : (n : ℕ) → t (found (suc n)) ≡ 0 → (t (found n) ≡ 0) × (t (each (suc n)) ≡ 0)
  nothing_before n h = nothing_both t (found n) (each (suc n)) (sym (ap t (step n)) ∙ h)

  -- where nothing is found, none of them is it
  pub nothing_each : (n : ℕ) → t (found n) ≡ 0 → (f : ℕ) → 1 ≤ f → f ≤ n → t (each f) ≡ 0
  nothing_each zero h f l u = absurd (omega arith)
  nothing_each (suc n) h f l u = by (eqb f (suc n)) refl (λ k. nothing_each n (nothing_before n h).0 f l k)
    where
      by : (b : Bool) → eqb f (suc n) ≡ b → (f ≤ n → t (each f) ≡ 0) → t (each f) ≡ 0
      by true e g = ap (λ m. t (each m)) (eqb-true f (suc n) e) ∙ (nothing_before n h).1
      by false e g =
          let d : f ≡ suc n → ⊥ = eqb-false f (suc n) e in
          g (omega arith)
