-- The Frank-Wolfe theorem: `frank_wolfe` proves every statement of specs/Theorem.antt. Assumes nothing.
use mathlib.Core.Path.{◌≡◌, refl, sym, ap, ap₂, ◌∙◌}
use mathlib.Core.Bool.{Bool, true, false}
use mathlib.Core.Logic.{◌⊎◌, inl, inr}
use mathlib.Core.List.{[], ◌∷◌}
use Prim.Native.Nat.{ℕ, zero, suc, ◌+◌, ◌*◌, ◌-◌, ◌/◌, ◌≤◌}
use native.Mathlib.Omega.{arith}
use native.Mathlib.Numerals.{add-one}
use native.Mathlib.Nat.{zero-add, le_trans, mul-le-mul_right, one-le-mul}
use lib.IntN.{ℤ, pos, negsuc, ◌+ℤ◌, ◌-ℤ◌, ◌*ℤ◌}
use lib.Dec.{T, eqb, eqb→eq, leb, lit≤, lit<}
use borrow.Author.Tests.{leb-true, leb-false}
use lib.Signed.{◌≤ℤ◌, ◌<ℤ◌, lt_z, lt_z_yes, lt_z_no}
use Rattle.integers.proofs.Solver.{Expr, con, ◌⊕◌, ◌⊗◌, ⊖◌, ◌⊝◌, x₀, x₁, x₂, x₃, x₄, x₅, x₆, x₇, x₈, x₉, x₁₀, solve}
use Rattle.integers.proofs.Order.{≤→≤ℤ, <→<ℤ}
use Rattle.integers.proofs.Facts.{◌≼◌, ◌≺◌, known, nat, square, equation, ◌⊞◌, ◌⊡◌, derive, derive_times}
use Rattle.frank_wolfe.specs.Method.{Space, squared_distance, Zero, Plus, Residual, Mixture, none, more, Diameter, Argmin, Gap, total, at_start, at_iterate, Run, start, step, Sequence}
use Rattle.frank_wolfe.specs.Theorem.{Compared, SmallGap, FrankWolfe}
use Rattle.frank_wolfe.proofs.Scalar as scalar
use Rattle.frank_wolfe.proofs.Mixtures.{nonneg, second_moment, sums, least_below, spread, between, diameter_nonneg, gap_over_mixture}

abbrev O : Expr
O = con (pos 0)

abbrev two : Expr
two = con (pos 2)

ap₃ : {A : Type 0} (f : A → A → A → A) {a a' b b' c c' : A} → a ≡ a' → b ≡ b' → c ≡ c' → f a b c ≡ f a' b' c'
ap₃ f {a} {a'} {b} {b'} {c} {c'} p q r = ap₂ (λ x y. f x y c) p q ∙ ap (f a' b') r

-- ---- The total of the shares

pub total_positive : (a : ℕ → ℕ) (t : ℕ) → 1 ≤ a 0 → 1 ≤ total a (suc t)
unfolding total
total_positive a zero h = omega arith
total_positive a (suc t) h = let ih : 1 ≤ total a t + a t = total_positive a t h in omega arith

own_positive : {t : ℕ} → 1 ≤ t → 1 ≤ total suc t
own_positive {t = zero} h = absurd (omega arith)
own_positive {t = suc t} h = total_positive suc t (omega arith)

-- 2 W = t (t + 1) for the shares 1, 2, 3, ..
pub own_total : (t : ℕ) → pos 2 *ℤ pos (total suc t) ≡ pos t *ℤ (pos t +ℤ pos 1)
unfolding total
own_total zero = refl
own_total (suc t) =
    rw (← add-one t)
    (solve (pos (total suc t) ∷ pos t ∷ []) (two ⊗ (x₀ ⊕ (x₁ ⊕ con (pos 1)))) (two ⊗ x₀ ⊕ two ⊗ (x₁ ⊕ con (pos 1))) tt
    ∙ ap (λ a. a +ℤ pos 2 *ℤ (pos t +ℤ pos 1)) (own_total t)
    ∙ solve (pos t ∷ []) (x₀ ⊗ (x₀ ⊕ con (pos 1)) ⊕ two ⊗ (x₀ ⊕ con (pos 1))) ((x₀ ⊕ con (pos 1)) ⊗ (x₀ ⊕ con (pos 1) ⊕ con (pos 1))) tt)

module _ (S : Space) (Vertex : S.Vec → Type 0) (u : S.Vec) where
  -- |y - w u|²
  squared_residual : {w : ℤ} {y r : S.Vec} → Residual S y w u r →
      S.inner r r ≡ S.inner y y -ℤ pos 2 *ℤ w *ℤ S.inner y u +ℤ w *ℤ w *ℤ S.inner u u
  squared_residual {w} {y} {r} R =
      R.along r
      ∙ ap₂ (λ a b. a -ℤ w *ℤ b) (S.symmetric r y ∙ R.along y) (S.symmetric r u ∙ R.along u ∙ ap (λ a. a -ℤ w *ℤ S.inner u u) (S.symmetric u y))
      ∙ solve (w ∷ S.inner y y ∷ S.inner y u ∷ S.inner u u ∷ []) (x₁ ⊝ x₀ ⊗ x₂ ⊝ x₀ ⊗ (x₂ ⊝ x₀ ⊗ x₃)) (x₁ ⊝ two ⊗ x₀ ⊗ x₂ ⊕ x₀ ⊗ x₀ ⊗ x₃) tt

  -- w² |s - u|² = |w s - y|² + 2 w <r, s - u> - |r|²
  parts : {w : ℤ} {y r : S.Vec} (s : S.Vec) → Residual S y w u r →
      (w *ℤ w *ℤ S.inner s s -ℤ pos 2 *ℤ w *ℤ S.inner s y +ℤ S.inner y y) +ℤ pos 2 *ℤ w *ℤ (S.inner r s -ℤ S.inner r u) -ℤ S.inner r r
      ≡ w *ℤ w *ℤ squared_distance S s u
  parts {w} {y} {r} s R =
      ap₃ (λ a b c. (w *ℤ w *ℤ S.inner s s -ℤ pos 2 *ℤ w *ℤ S.inner s y +ℤ S.inner y y) +ℤ pos 2 *ℤ w *ℤ (a -ℤ b) -ℤ c)
      (S.symmetric r s ∙ R.along s) (S.symmetric r u ∙ R.along u ∙ ap (λ a. a -ℤ w *ℤ S.inner u u) (S.symmetric u y)) (squared_residual R)
      ∙ solve (w ∷ S.inner s s ∷ S.inner s y ∷ S.inner y y ∷ S.inner s u ∷ S.inner y u ∷ S.inner u u ∷ [])
      ((x₀ ⊗ x₀ ⊗ x₁ ⊝ two ⊗ x₀ ⊗ x₂ ⊕ x₃) ⊕ two ⊗ x₀ ⊗ (x₂ ⊝ x₀ ⊗ x₄ ⊝ (x₅ ⊝ x₀ ⊗ x₆)) ⊝ (x₃ ⊝ two ⊗ x₀ ⊗ x₅ ⊕ x₀ ⊗ x₀ ⊗ x₆))
      (x₀ ⊗ x₀ ⊗ (x₁ ⊝ two ⊗ x₄ ⊕ x₆)) tt

  -- r' = r + k (s - u), so |r'|² = |r|² + 2 k <r, s - u> + k² |s - u|²
  stepped : {w k : ℤ} {y r s y' r' : S.Vec} → Residual S y w u r → Plus S y k s y' → Residual S y' (w +ℤ k) u r' →
      S.inner r' r' ≡ S.inner r r +ℤ pos 2 *ℤ k *ℤ (S.inner r s -ℤ S.inner r u) +ℤ k *ℤ k *ℤ squared_distance S s u
  stepped {w} {k} {y} {r} {s} {y'} {r'} R p R' =
      moved r'
      ∙ ap₃ (λ a b c. a +ℤ k *ℤ b -ℤ k *ℤ c) (S.symmetric r' r ∙ moved r)
      (S.symmetric r' s ∙ moved s ∙ ap (λ a. a +ℤ k *ℤ S.inner s s -ℤ k *ℤ S.inner s u) (S.symmetric s r))
      (S.symmetric r' u ∙ moved u ∙ ap₂ (λ a b. a +ℤ k *ℤ b -ℤ k *ℤ S.inner u u) (S.symmetric u r) (S.symmetric u s))
      ∙ solve (k ∷ S.inner r r ∷ S.inner r s ∷ S.inner r u ∷ S.inner s s ∷ S.inner s u ∷ S.inner u u ∷ [])
      (x₁ ⊕ x₀ ⊗ x₂ ⊝ x₀ ⊗ x₃ ⊕ x₀ ⊗ (x₂ ⊕ x₀ ⊗ x₄ ⊝ x₀ ⊗ x₅) ⊝ x₀ ⊗ (x₃ ⊕ x₀ ⊗ x₅ ⊝ x₀ ⊗ x₆))
      (x₁ ⊕ two ⊗ x₀ ⊗ (x₂ ⊝ x₃) ⊕ x₀ ⊗ x₀ ⊗ (x₄ ⊝ two ⊗ x₅ ⊕ x₆)) tt
    where
      moved : (x : S.Vec) → S.inner x r' ≡ S.inner x r +ℤ k *ℤ S.inner x s -ℤ k *ℤ S.inner x u
      moved x =
          R'.along x ∙ ap (λ a. a -ℤ (w +ℤ k) *ℤ S.inner x u) (p.along x)
          ∙ solve (w ∷ k ∷ S.inner x y ∷ S.inner x s ∷ S.inner x u ∷ []) (x₂ ⊕ x₁ ⊗ x₃ ⊝ (x₀ ⊕ x₁) ⊗ x₄) (x₂ ⊝ x₀ ⊗ x₄ ⊕ x₁ ⊗ x₃ ⊝ x₁ ⊗ x₄) tt
          ∙ ap (λ a. a +ℤ k *ℤ S.inner x s -ℤ k *ℤ S.inner x u) (sym (R.along x))

  pub one_step : {w k n : ℕ} {d : ℤ} {y r s y' r' z ρ : S.Vec} →
      Diameter S Vertex d → 1 ≤ w → Mixture S Vertex w y → Residual S y (pos w) u r →
      Argmin S Vertex r s → Plus S y (pos k) s y' → Residual S y' (pos (w + k)) u r' → Compared S Vertex u n z ρ →
      (pos (n * n * w) *ℤ S.inner r' r')
      ≤ℤ (pos (n * n * (w + k)) *ℤ S.inner r r +ℤ pos (w * (w + k) * k) *ℤ S.inner ρ ρ +ℤ pos (k * k * w * (n * n)) *ℤ d)
  one_step {w} {k} {n} {d} {y} {r} {s} {y'} {r'} {z} {ρ} D hw M R l p R' Z =
      rw (stepped R p R')
      (scalar.step (pos w) (pos k) (pos n) d (S.inner r r) (S.inner r s -ℤ S.inner r u) (S.inner r ρ) (S.inner ρ ρ) (squared_distance S s u)
      (pos w *ℤ pos w *ℤ S.inner s s -ℤ pos 2 *ℤ pos w *ℤ S.inner s y +ℤ S.inner y y) (<→<ℤ hw) (nonneg k) (nonneg n)
      (least_below S Vertex Z l) (between S Vertex (pos n) (pos w) r ρ) (spread S Vertex s hw M (λ v hv. D.apart s v l.vertex hv)) (parts s R))

  pub first_step : {k n : ℕ} {d : ℤ} {v g s y₀ y r z ρ : S.Vec} →
      Diameter S Vertex d → Vertex v → Residual S v (pos 1) u g →
      Argmin S Vertex g s → Zero S y₀ → Plus S y₀ (pos k) s y → Residual S y (pos k) u r → Compared S Vertex u n z ρ →
      (pos (n * n) *ℤ S.inner r r) ≤ℤ (pos (k * k) *ℤ S.inner ρ ρ +ℤ pos (k * k * (n * n)) *ℤ d)
  first_step {k} {n} {d} {v} {g} {s} {y₀} {y} {r} {z} {ρ} D hv H l h₀ p R Z =
      rw squared
      (scalar.first_step (pos k) (pos n) d (S.inner g g) (S.inner g s -ℤ S.inner g u) (S.inner g ρ) (S.inner ρ ρ) (squared_distance S s u) (squared_distance S s v)
      (nonneg n) (least_below S Vertex Z l)
      (derive (pos n ∷ S.inner g g ∷ S.inner g ρ ∷ S.inner ρ ρ ∷ []) (two ⊗ x₀ ⊗ x₂ ≼ x₀ ⊗ x₀ ⊗ x₁ ⊕ x₃)
      (known (two ⊗ x₀ ⊗ con (pos 1) ⊗ x₂ ≼ x₀ ⊗ x₀ ⊗ x₁ ⊕ con (pos 1) ⊗ con (pos 1) ⊗ x₃) (between S Vertex (pos n) (pos 1) g ρ)) tt)
      (D.apart s v l.vertex hv)
      (solve (S.inner s s ∷ S.inner s v ∷ S.inner v v ∷ S.inner g s ∷ S.inner g u ∷ S.inner g g ∷ [])
      (x₀ ⊝ two ⊗ x₁ ⊕ x₂ ⊕ two ⊗ (x₃ ⊝ x₄) ⊝ x₅)
      ((con (pos 1) ⊗ con (pos 1) ⊗ x₀ ⊝ two ⊗ con (pos 1) ⊗ x₁ ⊕ x₂) ⊕ two ⊗ con (pos 1) ⊗ (x₃ ⊝ x₄) ⊝ x₅) tt
      ∙ parts s H
      ∙ solve (squared_distance S s u ∷ []) (con (pos 1) ⊗ con (pos 1) ⊗ x₀) x₀ tt))
    where
      moved : (x : S.Vec) → S.inner x r ≡ pos k *ℤ S.inner x s -ℤ pos k *ℤ S.inner x u
      moved x =
          R.along x ∙ ap (λ a. a -ℤ pos k *ℤ S.inner x u) (p.along x ∙ ap (λ a. a +ℤ pos k *ℤ S.inner x s) (h₀.along x))
          ∙ solve (pos k ∷ S.inner x s ∷ S.inner x u ∷ []) (O ⊕ x₀ ⊗ x₁ ⊝ x₀ ⊗ x₂) (x₀ ⊗ x₁ ⊝ x₀ ⊗ x₂) tt

      squared : S.inner r r ≡ pos k *ℤ pos k *ℤ squared_distance S s u
      squared =
          moved r
          ∙ ap₂ (λ a b. pos k *ℤ a -ℤ pos k *ℤ b) (S.symmetric r s ∙ moved s)
          (S.symmetric r u ∙ moved u ∙ ap (λ a. pos k *ℤ a -ℤ pos k *ℤ S.inner u u) (S.symmetric u s))
          ∙ solve (pos k ∷ S.inner s s ∷ S.inner s u ∷ S.inner u u ∷ [])
          (x₀ ⊗ (x₀ ⊗ x₁ ⊝ x₀ ⊗ x₂) ⊝ x₀ ⊗ (x₀ ⊗ x₂ ⊝ x₀ ⊗ x₃)) (x₀ ⊗ x₀ ⊗ (x₁ ⊝ two ⊗ x₂ ⊕ x₃)) tt

  -- ---- Runs

  -- a residual at total 0 is 0
  nothing : {y r : S.Vec} → Zero S y → Residual S y (pos 0) u r → S.inner r r ≡ pos 0
  nothing {y} {r} h R = squared_residual R ∙ ap (λ a. a -ℤ pos 2 *ℤ pos 0 *ℤ S.inner y u +ℤ pos 0 *ℤ pos 0 *ℤ S.inner u u) (h.along y)
      ∙ solve (S.inner y u ∷ S.inner u u ∷ []) (O ⊝ two ⊗ O ⊗ x₀ ⊕ O ⊗ O ⊗ x₁) O tt

  pub run_mixture : {a : ℕ → ℕ} {t : ℕ} {y : S.Vec} → Run S Vertex u a t y → Mixture S Vertex (total a t) y
  unfolding total
  run_mixture (start h) = none h
  run_mixture (step run sc l p) = more (run_mixture run) l.vertex p

  -- E / W² - Q / N² ≤ 2 D² t / W
  table : {a : ℕ → ℕ} {t n : ℕ} {d : ℤ} {y r z ρ : S.Vec} → 1 ≤ a 0 → ((k : ℕ) → a k * a k ≤ 2 * total a (suc k)) →
      Diameter S Vertex d → Run S Vertex u a t y → Residual S y (pos (total a t)) u r → Compared S Vertex u n z ρ →
      (S.inner r r *ℤ pos (n * n))
      ≤ℤ (S.inner ρ ρ *ℤ pos (total a t * total a t) +ℤ pos 2 *ℤ d *ℤ pos t *ℤ pos (total a t) *ℤ pos (n * n))
  unfolding total
  table {n = n} {d = d} {r = r} {ρ = ρ} h1 ha D (start h) R Z =
      derive (S.inner r r ∷ pos n ∷ S.inner ρ ρ ∷ d ∷ []) (x₀ ⊗ (x₁ ⊗ x₁) ≼ x₂ ⊗ O ⊕ two ⊗ x₃ ⊗ O ⊗ O ⊗ (x₁ ⊗ x₁)) (equation (⊖ (x₁ ⊗ x₁)) x₀ O (nothing h R)) tt
  table {a = a} {n = n} {d = d} {r = r} {ρ = ρ} h1 ha D (step (start h) (at_start hv H) l p) R Z =
      rw (zero-add (a 0))
      (scalar.table_first (pos (a 0)) (pos n) d (S.inner ρ ρ) (S.inner r r) (diameter_nonneg S Vertex D hv) (≤→≤ℤ (rw (zero-add (a 0)) at (ha 0)))
      (first_step D hv H l h p (rw (zero-add (a 0)) at R) Z))
  table {a = a} {n = n} {d = d} {r = r} {ρ = ρ} h1 ha D (step {t = suc t} {g = g} run (at_iterate R₀) l p) R Z =
      rw (← add-one (suc t))
      (scalar.table_step (pos (total a (suc t))) (pos (a (suc t))) (pos n) d (S.inner g g) (S.inner ρ ρ) (pos (suc t)) (S.inner r r)
      (<→<ℤ (total_positive a t h1)) (nonneg (a (suc t))) (diameter_nonneg S Vertex D l.vertex) (≤→≤ℤ (ha (suc t)))
      (one_step D (total_positive a t h1) (run_mixture run) R₀ l p R Z) (table h1 ha D run R₀ Z))

  -- E / W² - Q / N² ≤ 4 D² / (t + 2)
  own : {t n : ℕ} {d : ℤ} {y r z ρ : S.Vec} → Diameter S Vertex d → Run S Vertex u suc t y → Residual S y (pos (total suc t)) u r → Compared S Vertex u n z ρ →
      (S.inner r r *ℤ pos (n * n) *ℤ pos (t + 2))
      ≤ℤ (S.inner ρ ρ *ℤ pos (total suc t * total suc t) *ℤ pos (t + 2) +ℤ pos 4 *ℤ d *ℤ pos (total suc t * total suc t) *ℤ pos (n * n))
  unfolding total
  own {n = n} {d = d} {r = r} {ρ = ρ} D (start h) R Z =
      derive (S.inner r r ∷ pos n ∷ S.inner ρ ρ ∷ d ∷ []) (x₀ ⊗ (x₁ ⊗ x₁) ⊗ two ≼ x₂ ⊗ O ⊗ two ⊕ con (pos 4) ⊗ x₃ ⊗ O ⊗ (x₁ ⊗ x₁)) (equation (⊖ (two ⊗ (x₁ ⊗ x₁))) x₀ O (nothing h R)) tt
  own {n = n} {d = d} {r = r} {ρ = ρ} D (step (start h) (at_start hv H) l p) R Z =
      derive (S.inner r r ∷ pos n ∷ S.inner ρ ρ ∷ d ∷ []) (x₀ ⊗ (x₁ ⊗ x₁) ⊗ con (pos 3) ≼ x₂ ⊗ con (pos 1) ⊗ con (pos 3) ⊕ con (pos 4) ⊗ x₃ ⊗ con (pos 1) ⊗ (x₁ ⊗ x₁))
      (nat 3 ⊡ known (x₁ ⊗ x₁ ⊗ x₀ ≼ con (pos 1) ⊗ x₂ ⊕ con (pos 1) ⊗ (x₁ ⊗ x₁) ⊗ x₃) (first_step D hv H l h p R Z) ⊞ known (O ≼ x₃) (diameter_nonneg S Vertex D hv) ⊡ square x₁) tt
  own {n = n} {d = d} {r = r} {ρ = ρ} D (step {t = suc t} {g = g} run (at_iterate R₀) l p) R Z =
      rw (← add-one (suc t))
      (scalar.own_step (pos (total suc (suc t))) (pos n) d (S.inner g g) (S.inner ρ ρ) (pos (suc t)) (S.inner r r)
      (<→<ℤ (total_positive suc t (omega arith))) (diameter_nonneg S Vertex D l.vertex) (nonneg (suc t)) (own_total (suc t))
      (rw (← add-one (suc t)) at (one_step D (total_positive suc t (omega arith)) (run_mixture run) R₀ l p R Z)) (own D run R₀ Z))

  -- ---- How small the gap gets

  pub descent : {w k : ℕ} {d : ℤ} {y r s y' r' : S.Vec} →
      Diameter S Vertex d → 1 ≤ w → Mixture S Vertex w y → Residual S y (pos w) u r → Vertex s → Plus S y (pos k) s y' → Residual S y' (pos (w + k)) u r' →
      (pos (w * w) *ℤ S.inner r' r' +ℤ pos (2 * k * (w + k)) *ℤ (S.inner r y -ℤ pos w *ℤ S.inner r s))
      ≤ℤ (pos ((w + k) * (w + k)) *ℤ S.inner r r +ℤ pos (k * k * (w * w)) *ℤ d)
  descent {w} {k} {d} {y} {r} {s} {y'} {r'} D hw M R hs p R' =
      rw (stepped R p R')
      (derive (pos w ∷ pos k ∷ d ∷ S.inner r r ∷ S.inner r y ∷ S.inner r s ∷ S.inner r u ∷ squared_distance S s u ∷ [])
      (x₀ ⊗ x₀ ⊗ (x₃ ⊕ two ⊗ x₁ ⊗ (x₅ ⊝ x₆) ⊕ x₁ ⊗ x₁ ⊗ x₇) ⊕ two ⊗ x₁ ⊗ (x₀ ⊕ x₁) ⊗ (x₄ ⊝ x₀ ⊗ x₅) ≼ (x₀ ⊕ x₁) ⊗ (x₀ ⊕ x₁) ⊗ x₃ ⊕ x₁ ⊗ x₁ ⊗ (x₀ ⊗ x₀) ⊗ x₂)
      (known (x₀ ⊗ x₀ ⊗ (x₃ ⊕ two ⊗ x₁ ⊗ (x₅ ⊝ x₆) ⊕ x₁ ⊗ x₁ ⊗ x₇) ⊕ two ⊗ x₁ ⊗ (x₀ ⊕ x₁) ⊗ (x₃ ⊝ x₀ ⊗ (x₅ ⊝ x₆)) ≼ (x₀ ⊕ x₁) ⊗ (x₀ ⊕ x₁) ⊗ x₃ ⊕ x₁ ⊗ x₁ ⊗ (x₀ ⊗ x₀) ⊗ x₂)
      (scalar.descent (pos w) (pos k) d (S.inner r r) (S.inner r s -ℤ S.inner r u) (squared_distance S s u)
      (pos w *ℤ pos w *ℤ S.inner s s -ℤ pos 2 *ℤ pos w *ℤ S.inner s y +ℤ S.inner y y)
      (spread S Vertex s hw M (λ v hv. D.apart s v hs hv)) (parts s R))
      ⊞ equation (two ⊗ x₁ ⊗ (x₀ ⊕ x₁)) x₃ (x₄ ⊝ x₀ ⊗ x₆) (R.along r)) tt)

  module _ {d : ℤ} {y r s : ℕ → S.Vec} (D : Diameter S Vertex d) (q : Sequence S Vertex u suc y r s) where
    abbrev e : ℕ → ℤ
    e t = S.inner (r t) (r t)

    abbrev w : ℕ → ℤ
    w t = pos (total suc t)

    abbrev gap_at : ℕ → ℤ
    gap_at t = S.inner (r t) (y t) -ℤ pos (total suc t) *ℤ S.inner (r t) (s t)

    d_nonneg : pos 0 ≤ℤ d
    d_nonneg = diameter_nonneg S Vertex D (q.argmin 0).vertex

    positive : (t : ℕ) → 1 ≤ total suc (suc t)
    positive t = total_positive suc t (omega arith)

    -- one step, after t + 1
    down : (t : ℕ) → (w (suc t) *ℤ w (suc t) *ℤ e (suc (suc t)) +ℤ pos 2 *ℤ pos (suc (suc t)) *ℤ w (suc (suc t)) *ℤ gap_at (suc t))
        ≤ℤ (w (suc (suc t)) *ℤ w (suc (suc t)) *ℤ e (suc t) +ℤ pos (suc (suc t)) *ℤ pos (suc (suc t)) *ℤ (w (suc t) *ℤ w (suc t)) *ℤ d)
    unfolding total
    down t = descent D (positive t) (run_mixture (q.run (suc t))) (q.residual (suc t)) (q.argmin t).vertex (q.move t) (q.residual (suc (suc t)))

    -- the gap after t steps is above 27 D² / (4 m)
    abbrev Large : (m t : ℕ) → Type 0
    Large m t = (pos 27 *ℤ d *ℤ (w t *ℤ w t)) <ℤ (pos 4 *ℤ pos m *ℤ gap_at t)

    -- m: K + 2, l: the first step that counts, and 2 more
    module _ (m l : ℕ) (hl : 1 ≤ l) where
      abbrev c : ℤ
      c = d *ℤ (pos 27 *ℤ pos l *ℤ pos l -ℤ pos 4 *ℤ pos m *ℤ pos m)

      abbrev b : ℤ
      b = pos m *ℤ pos m *ℤ pos l *ℤ pos l

      falls : (t : ℕ) → l ≤ t + 3 → t + 3 ≤ m → Large m (suc t) →
          (c *ℤ (w (suc t) *ℤ w (suc t)) *ℤ (w (suc (suc t)) *ℤ w (suc (suc t))) +ℤ b *ℤ e (suc (suc t)) *ℤ (w (suc t) *ℤ w (suc t)))
          <ℤ (b *ℤ e (suc t) *ℤ (w (suc (suc t)) *ℤ w (suc (suc t))))
      falls t h k g =
          scalar.fall (w (suc t)) (pos (suc (suc t))) (w (suc (suc t))) d (e (suc t)) (e (suc (suc t))) (gap_at (suc t)) (pos (t + 3)) (pos m) (pos l)
          d_nonneg (nonneg (t + 3)) (nonneg m) (nonneg l) (≤→≤ℤ h) (≤→≤ℤ k)
          (≤→≤ℤ (one-le-mul (one-le-mul (one-le-mul (one-le-mul (one-le-mul hm hl) hl) hn) (positive (suc t))) (positive (suc t))))
          product g (down t)
        where
          hm : 1 ≤ m
          hm = omega arith

          hn : 1 ≤ t + 3
          hn = omega arith

          product : pos (t + 3) *ℤ pos (suc (suc t)) ≡ pos 2 *ℤ w (suc (suc t))
          product =
              let f : suc (suc t) + 1 ≡ t + 3 = omega arith in
              sym (own_total (suc (suc t)) ∙ solve (pos (suc (suc t)) ∷ pos (suc (suc t) + 1) ∷ []) (x₀ ⊗ x₁) (x₁ ⊗ x₀) tt ∙ ap (λ n. pos n *ℤ pos (suc (suc t))) f)

      -- j + 1 steps, the first after a + 1
      fallen : (a j : ℕ) → l ≤ a + 3 → a + j + 3 ≤ m → ((i : ℕ) → i ≤ j → Large m (suc (a + i))) →
          (c *ℤ pos (suc j) *ℤ (w (suc a) *ℤ w (suc a)) *ℤ (w (suc (suc (a + j))) *ℤ w (suc (suc (a + j)))) +ℤ b *ℤ e (suc (suc (a + j))) *ℤ (w (suc a) *ℤ w (suc a)))
          <ℤ (b *ℤ e (suc a) *ℤ (w (suc (suc (a + j))) *ℤ w (suc (suc (a + j)))))
      fallen a zero h k g =
          let z : a + 0 ≡ a = omega arith in
          rw z
          (derive (c ∷ w (suc a) ∷ w (suc (suc a)) ∷ b ∷ e (suc a) ∷ e (suc (suc a)) ∷ [])
          (x₀ ⊗ con (pos 1) ⊗ (x₁ ⊗ x₁) ⊗ (x₂ ⊗ x₂) ⊕ x₃ ⊗ x₅ ⊗ (x₁ ⊗ x₁) ≺ x₃ ⊗ x₄ ⊗ (x₂ ⊗ x₂))
          (known (x₀ ⊗ (x₁ ⊗ x₁) ⊗ (x₂ ⊗ x₂) ⊕ x₃ ⊗ x₅ ⊗ (x₁ ⊗ x₁) ≺ x₃ ⊗ x₄ ⊗ (x₂ ⊗ x₂)) (falls a h (omega arith) (rw z at (g 0 (omega arith))))) tt)
      fallen a (suc j) h k g =
          let z : a + suc j ≡ suc (a + j) = omega arith in
          rw (z, ← add-one (suc j))
          (scalar.fall_more (w (suc a)) (w (suc (suc (a + j)))) (w (suc (suc (suc (a + j))))) (e (suc a)) (e (suc (suc (a + j)))) (e (suc (suc (suc (a + j))))) b c (pos (suc j))
          (<→<ℤ (positive (suc (suc (a + j)))))
          (fallen a j h (omega arith) (λ i hi. g i (omega arith)))
          (falls (suc (a + j)) (omega arith) (omega arith) (rw z at (g (suc j) (omega arith)))))

    module _ (k : ℕ) where
      judged : (t : ℕ) → 1 ≤ t → t ≤ k → Large (k + 2) t ⊎ SmallGap S d y r s k
      judged t h1 h2 = by (lt_z (pos 27 *ℤ d *ℤ (w t *ℤ w t)) (pos 4 *ℤ pos (k + 2) *ℤ gap_at t)) refl
        where
          by : (x : Bool) → lt_z (pos 27 *ℤ d *ℤ (w t *ℤ w t)) (pos 4 *ℤ pos (k + 2) *ℤ gap_at t) ≡ x → Large (k + 2) t ⊎ SmallGap S d y r s k
          by true f = inl (lt_z_yes (rw f tt))
          by false f = inr (record { at = t; some_step = h1; most_steps = h2; bound = lt_z_no (rw f tt) })

      -- one of the steps a + 1 to a + j + 1 has a small gap, or none has
      scan : (a j : ℕ) → a + j + 1 ≤ k → ((i : ℕ) → i ≤ j → Large (k + 2) (suc (a + i))) ⊎ SmallGap S d y r s k
      scan a zero h = by (judged (suc (a + 0)) (omega arith) (omega arith))
        where
          by : Large (k + 2) (suc (a + 0)) ⊎ SmallGap S d y r s k → ((i : ℕ) → i ≤ 0 → Large (k + 2) (suc (a + i))) ⊎ SmallGap S d y r s k
          by (inl g) = inl (λ i hi. let z : i ≡ 0 = omega arith in rw z g)
          by (inr f) = inr f
      scan a (suc j) h = by (scan a j (omega arith)) (judged (suc (a + suc j)) (omega arith) (omega arith))
        where
          by : ((i : ℕ) → i ≤ j → Large (k + 2) (suc (a + i))) ⊎ SmallGap S d y r s k → Large (k + 2) (suc (a + suc j)) ⊎ SmallGap S d y r s k →
              ((i : ℕ) → i ≤ suc j → Large (k + 2) (suc (a + i))) ⊎ SmallGap S d y r s k
          by (inr f) g = inr f
          by (inl f) (inr g) = inr g
          by (inl f) (inl g) = inl (λ i hi. at i hi (leb i j) refl)
            where
              at : (i : ℕ) → i ≤ suc j → (x : Bool) → leb i j ≡ x → Large (k + 2) (suc (a + i))
              at i hi true p = f i (leb-true i j p)
              at i hi false p = let z : i ≡ suc j = omega (arith, leb-false i j p) in rw z g

      -- the first step that counts is l - 2, the last k
      pub small_gap : 2 ≤ k → SmallGap S d y r s k
      small_gap h = by (scan a j (omega arith))
        where
          l : ℕ
          l = (2 * (k + 2) + 2) / 3

          a : ℕ
          a = l - 3

          j : ℕ
          j = k + 2 - l

          by : ((i : ℕ) → i ≤ j → Large (k + 2) (suc (a + i))) ⊎ SmallGap S d y r s k → SmallGap S d y r s k
          by (inr f) = f
          by (inl g) = absurd never.le
            where
              three : 3 ≤ l
              three = omega arith

              near : suc a + 2 ≡ l
              near = omega arith

              count : l + suc j ≡ k + 2 + 1
              count = omega arith

              enough : (pos 4 *ℤ pos (k + 2) *ℤ pos (k + 2) *ℤ (pos l +ℤ pos (suc j))) ≤ℤ (pos 27 *ℤ pos (suc j) *ℤ pos l *ℤ pos l)
              enough =
                  derive (pos (k + 2) ∷ pos l ∷ pos (suc j) ∷ []) (con (pos 4) ⊗ x₀ ⊗ x₀ ⊗ (x₁ ⊕ x₂) ≼ con (pos 27) ⊗ x₂ ⊗ x₁ ⊗ x₁)
                  (known (con (pos 4) ⊗ x₀ ⊗ x₀ ⊗ (x₀ ⊕ con (pos 1)) ≼ con (pos 27) ⊗ (x₀ ⊕ con (pos 1) ⊝ x₁) ⊗ x₁ ⊗ x₁)
                  (scalar.steps_enough (pos (k + 2)) (pos l) (nonneg (k + 2)) (≤→≤ℤ (omega arith)) (≤→≤ℤ (omega arith)))
                  ⊞ equation (con (pos 27) ⊗ x₁ ⊗ x₁ ⊝ con (pos 4) ⊗ x₀ ⊗ x₀) (x₁ ⊕ x₂) (x₀ ⊕ con (pos 1)) (ap pos count)) tt

              never : pos 1 ≤ℤ pos 0
              never =
                  scalar.fall_too_far (w (suc a)) (w (suc (suc (a + j)))) d (e (suc a)) (e (suc (suc (a + j)))) (pos (k + 2)) (pos l) (pos (suc j)) d_nonneg (nonneg l) enough
                  (rw near at
                  (own D (q.run (suc a)) (q.residual (suc a)) (record { mixture = run_mixture (q.run (suc (suc (a + j)))); residual = q.residual (suc (suc (a + j))) })))
                  (fallen (k + 2) l (omega arith) a j (omega arith) (omega arith) g)

  -- D² t is not below 0: there is a vertex, or t is 0
  spare : {t : ℕ} {d : ℤ} {y : S.Vec} {a : ℕ → ℕ} → Diameter S Vertex d → Run S Vertex u a t y → pos 0 ≤ℤ (d *ℤ pos t)
  spare {d = d} D (start h) = derive (d ∷ []) (O ≼ x₀ ⊗ O) (nat 0) tt
  spare {t = t} {d = d} D (step run sc l p) = derive (d ∷ pos t ∷ []) (O ≼ x₀ ⊗ x₁) (known (O ≼ x₀) (diameter_nonneg S Vertex D l.vertex) ⊡ known (O ≼ x₁) (nonneg t)) tt

  -- the bounds with any constant c that is large enough, so that the statement alone says which constant it is
  table_bound : {t n : ℕ} {d : ℤ} {y r z ρ : S.Vec} {a : ℕ → ℕ} (b c : ℕ) → b ≤ 2 → 2 ≤ c →
      1 ≤ a 0 → ((k : ℕ) → a k * a k ≤ b * total a (suc k)) →
      Diameter S Vertex d → Run S Vertex u a t y → Residual S y (pos (total a t)) u r → Compared S Vertex u n z ρ →
      (S.inner r r *ℤ pos (n * n))
      ≤ℤ (S.inner ρ ρ *ℤ pos (total a t * total a t) +ℤ pos c *ℤ d *ℤ pos t *ℤ pos (total a t) *ℤ pos (n * n))
  table_bound {t} {n} {d} {r = r} {ρ = ρ} {a = a} b c hb hc h1 ha D run R Z =
      derive (S.inner r r ∷ pos n ∷ S.inner ρ ρ ∷ pos (total a t) ∷ d ∷ pos t ∷ pos c ∷ [])
      (x₀ ⊗ (x₁ ⊗ x₁) ≼ x₂ ⊗ (x₃ ⊗ x₃) ⊕ x₆ ⊗ x₄ ⊗ x₅ ⊗ x₃ ⊗ (x₁ ⊗ x₁))
      (known (x₀ ⊗ (x₁ ⊗ x₁) ≼ x₂ ⊗ (x₃ ⊗ x₃) ⊕ two ⊗ x₄ ⊗ x₅ ⊗ x₃ ⊗ (x₁ ⊗ x₁)) (table h1 (λ k. le_trans (ha k) (mul-le-mul_right (total a (suc k)) hb)) D run R Z)
      ⊞ known (two ≼ x₆) (≤→≤ℤ hc) ⊡ known (O ≼ x₄ ⊗ x₅) (spare D run) ⊡ known (O ≼ x₃) (nonneg (total a t)) ⊡ square x₁) tt

  step_bound : {t n : ℕ} {d : ℤ} {y r z ρ : S.Vec} (c : ℕ) → 4 ≤ c →
      Diameter S Vertex d → Run S Vertex u suc t y → Residual S y (pos (total suc t)) u r → Compared S Vertex u n z ρ →
      (S.inner r r *ℤ pos (n * n) *ℤ pos (t + 2))
      ≤ℤ (S.inner ρ ρ *ℤ pos (total suc t * total suc t) *ℤ pos (t + 2) +ℤ pos c *ℤ d *ℤ pos (total suc t * total suc t) *ℤ pos (n * n))
  step_bound {t} {n} {d} {r = r} {ρ = ρ} c hc D run R Z =
      derive_times (S.inner r r ∷ pos n ∷ S.inner ρ ρ ∷ pos (total suc t) ∷ d ∷ pos t ∷ pos c ∷ []) two
      (x₀ ⊗ (x₁ ⊗ x₁) ⊗ (x₅ ⊕ two) ≼ x₂ ⊗ (x₃ ⊗ x₃) ⊗ (x₅ ⊕ two) ⊕ x₆ ⊗ x₄ ⊗ (x₃ ⊗ x₃) ⊗ (x₁ ⊗ x₁)) (<→<ℤ (lit< tt))
      (nat 2 ⊡ known (x₀ ⊗ (x₁ ⊗ x₁) ⊗ (x₅ ⊕ two) ≼ x₂ ⊗ (x₃ ⊗ x₃) ⊗ (x₅ ⊕ two) ⊕ con (pos 4) ⊗ x₄ ⊗ (x₃ ⊗ x₃) ⊗ (x₁ ⊗ x₁)) (own D run R Z)
      ⊞ known (con (pos 4) ≼ x₆) (≤→≤ℤ hc) ⊡ known (O ≼ x₄ ⊗ x₅) (spare D run) ⊡ (known (O ≼ x₅) (nonneg t) ⊞ nat 1) ⊡ known (O ≼ x₃) (nonneg (total suc t)) ⊡ square x₁
      ⊞ equation ((x₆ ⊝ con (pos 4)) ⊗ x₄ ⊗ x₃ ⊗ (x₁ ⊗ x₁)) (two ⊗ x₃) (x₅ ⊗ (x₅ ⊕ con (pos 1))) (own_total t)) tt

  gap_bound : {w n : ℕ} {γ : ℤ} {y r z ρ : S.Vec} (c : ℕ) → T (eqb c 2) → Residual S y (pos w) u r → Gap S Vertex y (pos w) r γ → Compared S Vertex u n z ρ →
      (S.inner r r *ℤ pos (n * n)) ≤ℤ (S.inner ρ ρ *ℤ pos (w * w) +ℤ pos c *ℤ γ *ℤ pos (n * n))
  gap_bound {w} {n} {γ} {y} {r} {z} {ρ} c e R G Z =
      rw (eqb→eq c 2 e) (scalar.gap_bound (pos w) (pos n) (S.inner r r) (S.inner r ρ) (S.inner ρ ρ) γ (nonneg n) (gap_over_mixture S Vertex R G Z) (between S Vertex (pos n) (pos w) r ρ))

  residual_bound : {w : ℕ} {d : ℤ} {y r : S.Vec} → 1 ≤ w → Mixture S Vertex w y → ((v : S.Vec) → Vertex v → squared_distance S u v ≤ℤ d) → Residual S y (pos w) u r →
      S.inner r r ≤ℤ (pos (w * w) *ℤ d)
  residual_bound {w} {d} {y} {r} hw M near R =
      derive (pos w ∷ d ∷ S.inner u u ∷ S.inner u y ∷ S.inner y y ∷ S.inner y u ∷ S.inner r r ∷ []) (x₆ ≼ x₀ ⊗ x₀ ⊗ x₁)
      (known (x₀ ⊗ x₀ ⊗ x₂ ⊝ two ⊗ x₀ ⊗ x₃ ⊕ x₄ ≼ x₀ ⊗ x₀ ⊗ x₁) (spread S Vertex u hw M near)
      ⊞ equation (⊖ con (pos 1)) x₆ (x₄ ⊝ two ⊗ x₀ ⊗ x₅ ⊕ x₀ ⊗ x₀ ⊗ x₂) (squared_residual R) ⊞ equation (⊖ two ⊗ x₀) x₃ x₅ (S.symmetric u y)) tt

  -- 2 <r, y - w v> = |r|² + |y - w v|² - w² |u - v|²
  score_bound : {w : ℕ} {d : ℤ} {y r : S.Vec} (v : S.Vec) → 1 ≤ w → Mixture S Vertex w y → ((x : S.Vec) → Vertex x → squared_distance S u x ≤ℤ d) →
      ((x : S.Vec) → Vertex x → squared_distance S v x ≤ℤ d) → Residual S y (pos w) u r → (S.inner r y -ℤ pos w *ℤ S.inner r v) ≤ℤ (pos (w * w) *ℤ d)
  score_bound {w} {d} {y} {r} v hw M near near-v R =
      derive_times
      (pos w ∷ d ∷ S.inner y y ∷ S.inner y u ∷ S.inner u u ∷ S.inner v y ∷ S.inner v v ∷ S.inner v u ∷ S.inner r y ∷ S.inner r v ∷ S.inner r r ∷ []) two
      (x₈ ⊝ x₀ ⊗ x₉ ≼ x₀ ⊗ x₀ ⊗ x₁) (<→<ℤ (lit< tt))
      (known (x₁₀ ≼ x₀ ⊗ x₀ ⊗ x₁) (residual_bound hw M near R) ⊞ known (x₀ ⊗ x₀ ⊗ x₆ ⊝ two ⊗ x₀ ⊗ x₅ ⊕ x₂ ≼ x₀ ⊗ x₀ ⊗ x₁) (spread S Vertex v hw M near-v)
      ⊞ square x₀ ⊡ known (O ≼ con (pos 1) ⊗ con (pos 1) ⊗ x₆ ⊕ two ⊗ con (pos 1) ⊗ con (negsuc 0) ⊗ x₇ ⊕ con (negsuc 0) ⊗ con (negsuc 0) ⊗ x₄) (S.positive (pos 1) (negsuc 0) v u)
      ⊞ equation (con (pos 1)) x₁₀ (x₂ ⊝ two ⊗ x₀ ⊗ x₃ ⊕ x₀ ⊗ x₀ ⊗ x₄) (squared_residual R)
      ⊞ equation (⊖ two) x₈ (x₂ ⊝ x₀ ⊗ x₃) (S.symmetric r y ∙ R.along y) ⊞ equation (two ⊗ x₀) x₉ (x₅ ⊝ x₀ ⊗ x₇) (S.symmetric r v ∙ R.along v)) tt

  beyond : {w n : ℕ} {γ : ℤ} {y r z ρ : S.Vec} (c : ℕ) → T (eqb c 2) → (τ : ℤ) → Residual S y (pos w) u r → Gap S Vertex y (pos w) r γ → Compared S Vertex u n z ρ →
      1 ≤ n → (τ *ℤ pos (w * w) +ℤ pos c *ℤ γ) <ℤ S.inner r r → (τ *ℤ pos (n * n)) <ℤ S.inner ρ ρ
  beyond {w} {n} {γ} {y} {r} {z} {ρ} c e τ R G Z hn h =
      scalar.beyond (pos w) (pos n) (S.inner r r) (S.inner ρ ρ) γ τ (<→<ℤ hn) (rw (eqb→eq c 2 e) at h) (gap_bound 2 tt R G Z)

  spent : {t n : ℕ} {d : ℤ} {y r z ρ : S.Vec} (c : ℕ) → 4 ≤ c → (τ : ℤ) →
      Diameter S Vertex d → 1 ≤ t → Run S Vertex u suc t y → Residual S y (pos (total suc t)) u r → Compared S Vertex u n z ρ →
      (τ *ℤ pos (total suc t * total suc t)) ≤ℤ S.inner r r → (τ *ℤ pos (n * n) *ℤ pos (t + 2)) ≤ℤ (S.inner ρ ρ *ℤ pos (t + 2) +ℤ pos c *ℤ d *ℤ pos (n * n))
  spent {t} {n} {d} {y} {r} {z} {ρ} c hc τ D ht run R Z h =
      scalar.spent (pos (total suc t)) (pos n) d (S.inner r r) (S.inner ρ ρ) τ (pos (t + 2)) (pos c) (<→<ℤ (own_positive ht)) (nonneg (t + 2)) h (step_bound c hc D run R Z)

  pub frank_wolfe : FrankWolfe S Vertex u
  frank_wolfe =
      record {
        one_step = λ D hw M R l p R' Z. one_step D hw M R l p R' Z;
        first_step = λ D hv H l h p R Z. first_step D hv H l h p R Z;
        step_bound = λ D run R Z. step_bound _ (lit≤ tt) D run R Z;
        table_bound = λ h ha D run R Z. table_bound _ _ (lit≤ tt) (lit≤ tt) h ha D run R Z;
        gap_bound = λ R G Z. gap_bound _ tt R G Z;
        beyond = λ τ R G Z hn h. beyond _ tt τ R G Z hn h;
        sharper_beyond = λ {w} {n} {γ} {y} {r} {z} {ρ} τ R G Z hn hγ hf hb.
            scalar.sharper_beyond (pos w) (pos n) (S.inner r r) (S.inner r ρ) (S.inner ρ ρ) γ τ (<→<ℤ hn) hγ hf hb (gap_over_mixture S Vertex R G Z)
            (rw (S.symmetric ρ r) at (between S Vertex (S.inner r r) (S.inner r ρ) ρ r));
        spent = λ τ D ht run R Z h. spent _ (lit≤ tt) τ D ht run R Z h;
        gap_nonnegative = λ {w} {γ} {y} {r} hw M G.
            derive_times (pos w ∷ γ ∷ S.inner r y ∷ second_moment S Vertex M ∷ []) x₀ (O ≼ x₁) (<→<ℤ hw)
            (known (O ≼ (x₁ ⊝ x₂) ⊗ x₀ ⊕ x₀ ⊗ x₂ ⊕ O ⊗ x₃) (sums S Vertex M (γ -ℤ S.inner r y) (pos w) (pos 0) r
            (λ v hv. derive (pos w ∷ γ ∷ S.inner r y ∷ S.inner r v ∷ S.inner v v ∷ []) (O ≼ x₁ ⊝ x₂ ⊕ x₀ ⊗ x₃ ⊕ O ⊗ x₄) (known (x₂ ⊝ x₀ ⊗ x₃ ≼ x₁) (G.over v hv)) tt))) tt;
        residual_bound = λ hw M near R. residual_bound hw M near R;
        score_bound = λ v hw M near near-v R. score_bound v hw M near near-v R;
        descent = λ D hw M R hs p R'. descent D hw M R hs p R';
        small_gap = λ k h D q. small_gap D q k h;
      }
