-- The vertex of least score: it is the lowest-numbered, its index is a vertex's, its score is the minimum, and no vertex scores less. The gap by the least score.
use mathlib.Core.Path.{◌≡◌, refl, sym, ap, ap₂, ◌∙◌}
use mathlib.Core.Bool.{Bool, true, false, not, ◌||◌, cond}
use mathlib.Core.List.{List, [], ◌∷◌}
use Prim.Native.Nat.{ℕ, zero, suc, ◌+◌, ◌≤◌, ◌<◌}
use native.Mathlib.Nat.{add-zero}
use native.Mathlib.Omega.{arith}
use lib.Dec.{T}
use lib.IntN.{ℤ, pos, ◌-ℤ◌, ◌*ℤ◌}
use lib.ListN.{length, get_or}
use lib.Signed.{◌≤ℤ◌, lt_z, lt_z_yes, lt_z_no, ≤ℤ_refl, <ℤ-≤ℤ_trans, clash_ℤ}
use Rattle.integers.proofs.Solver.{con, ◌⊗◌, ◌⊝◌, x₀, x₁, x₂, x₃}
use Rattle.integers.proofs.Order.{<→<ℤ, ≤→≤ℤ}
use Rattle.integers.proofs.Facts.{◌≼◌, known, ◌⊡◌, derive, derive_times, ≤ℤ-trans, <ℤ→≤ℤ}
use Rattle.frank_wolfe.specs.Vectors.{subtract, scale, weighted, Among, here, there}
use Rattle.frank_wolfe.proofs.Vectors.{Wide, wide_rest, weighted_subtract, weighted_scale, length_scale}
use Rattle.method.specs.Iterates.{row, scores, argmin, argmin_from, gaps, maximum, maximum_from}
use Rattle.method.specs.Minimum.{minimum, minimum_from}

-- ---- The lowest index among equals

-- whether a number of the list is below a
unfoldable pub any_belowℤ : ℤ → List ℤ → Bool
any_belowℤ a [] = false
any_belowℤ a (b ∷ bs) = lt_z b a || any_belowℤ a bs

-- the lowest index at which the number is least, 0 of none
unfoldable pub first_minimizerℤ : List ℤ → ℕ
first_minimizerℤ [] = 0
first_minimizerℤ (a ∷ bs) = cond (any_belowℤ a bs) (suc (first_minimizerℤ bs)) 0

-- where some number is below a, some number is below each b that a does not exceed
any_below_mono : (a b : ℤ) → a ≤ℤ b → (xs : List ℤ) → T (any_belowℤ a xs) → T (any_belowℤ b xs)
unfolding any_belowℤ
any_below_mono a b h [] e = e
any_below_mono a b h (x ∷ xs) e = either_of (lt_z x a) (lt_z x b) _ _ (λ t. (<ℤ-≤ℤ_trans {a = x} {b = a} {c = b} (record { lt = t }) h).lt) (any_below_mono a b h xs) e
  where
    either_of : (s t v w : Bool) → (T s → T t) → (T v → T w) → T (s || v) → T (t || w)
    either_of s true v w f k e = tt
    either_of true false v w f k e = absurd (f e)
    either_of false false v w f k e = k e

-- one number of a scan: m is the place of the least among the later ones
scan_step : (i best m : ℕ) (below-least later-below later-below-least : Bool) → (T (not below-least) → T later-below-least → T later-below) →
    cond below-least (cond later-below (suc i + m) i) (cond later-below-least (suc i + m) best)
    ≡ cond (below-least || later-below-least) (i + cond later-below (suc m) 0) best
scan_step i best m true true l f = omega arith
scan_step i best m true false l f = omega arith
scan_step i best m false true true f = omega arith
scan_step i best m false false true f = absurd (f tt tt)
scan_step i best m false l false f = refl

-- a scan takes the least of the numbers left where one of them is below the least so far
scan_is : (i best : ℕ) (least : ℤ) (xs : List ℤ) → argmin_from i best least xs ≡ cond (any_belowℤ least xs) (i + first_minimizerℤ xs) best
unfolding argmin_from any_belowℤ first_minimizerℤ
scan_is i best least [] = refl
scan_is i best least (x ∷ xs) =
    ap₂ (λ m n. cond (lt_z x least) m n) (scan_is (suc i) i x xs) (scan_is (suc i) best least xs)
    ∙ scan_step i best (first_minimizerℤ xs) (lt_z x least) (any_belowℤ x xs) (any_belowℤ least xs) (λ t. any_below_mono least x (lt_z_no {a = x} {b = least} t) xs)

pub argmin_first : (xs : List ℤ) → argmin xs ≡ first_minimizerℤ xs
unfolding argmin first_minimizerℤ
argmin_first [] = refl
argmin_first (x ∷ xs) = scan_is 1 0 x xs ∙ ap (λ n. cond (any_belowℤ x xs) n 0) (one_more (first_minimizerℤ xs))
  where
    one_more : (n : ℕ) → 1 + n ≡ suc n
    one_more n = omega arith

-- ---- Choices

-- what holds of both arms holds of the chosen one
either : {A : Type 0} (P : A → Type 0) (t : Bool) {a b : A} → P a → P b → P (cond t a b)
either P true h k = h
either P false h k = k

either₂ : {A B : Type 0} (R : A → B → Type 0) (t : Bool) {a b : A} {x y : B} → R a x → R b y → R (cond t a b) (cond t x y)
either₂ R true h k = h
either₂ R false h k = k

-- ---- The least score

argmin_from_at : (qs : List ℤ) (i best : ℕ) (m : ℤ) (ps : List ℤ) →
    ((j : ℕ) → get_or qs (i + j) (pos 0) ≡ get_or ps j (pos 0)) → get_or qs best (pos 0) ≡ m → get_or qs (argmin_from i best m ps) (pos 0) ≡ minimum_from m ps
unfolding argmin_from minimum_from
argmin_from_at qs i best m [] f e = e
argmin_from_at qs i best m (p ∷ ps) f e =
    either₂ (λ a x. get_or qs a (pos 0) ≡ x) (lt_z p m) (argmin_from_at qs (suc i) i p ps f' (rw add-zero at (f 0))) (argmin_from_at qs (suc i) best m ps f' e)
  where
    f' : (j : ℕ) → get_or qs (suc i + j) (pos 0) ≡ get_or ps j (pos 0)
    f' j = let e : suc i + j ≡ i + suc j = omega arith in rw e (f (suc j))

pub argmin_at : (ps : List ℤ) → get_or ps (argmin ps) (pos 0) ≡ minimum ps
unfolding argmin minimum
argmin_at [] = refl
argmin_at (p ∷ ps) = argmin_from_at (p ∷ ps) 1 0 p ps (λ j. let e : 1 + j ≡ suc j = omega arith in rw e) refl

pub score_at : (fs : List ℕ) (g : List ℤ) (rs : List (List ℤ)) (i : ℕ) → get_or (scores fs g rs) i (pos 0) ≡ weighted fs g (row rs i)
unfolding scores row weighted
score_at [] g [] i = refl
score_at (f ∷ fs) [] [] i = refl
score_at (f ∷ fs) (a ∷ g) [] i = refl
score_at fs g (v ∷ vs) zero = refl
score_at fs g (v ∷ vs) (suc i) = score_at fs g vs i

pub least_score : (fs : List ℕ) (g : List ℤ) (rs : List (List ℤ)) → weighted fs g (row rs (argmin (scores fs g rs))) ≡ minimum (scores fs g rs)
least_score fs g rs = sym (score_at fs g rs (argmin (scores fs g rs))) ∙ argmin_at (scores fs g rs)

not_above : {a b : ℤ} → lt_z a b ≡ true → a ≤ℤ b
not_above e = <ℤ→≤ℤ (lt_z_yes (rw e tt))

pub not_below : {a b : ℤ} → lt_z a b ≡ false → b ≤ℤ a
not_below e = lt_z_no (rw e tt)

minimum_from_first : (m : ℤ) (ps : List ℤ) → minimum_from m ps ≤ℤ m
unfolding minimum_from
minimum_from_first m [] = ≤ℤ_refl m
minimum_from_first m (p ∷ ps) = by (lt_z p m) refl (minimum_from_first p ps) (minimum_from_first m ps)
  where
    by : (t : Bool) → lt_z p m ≡ t → {a b : ℤ} → a ≤ℤ p → b ≤ℤ m → cond t a b ≤ℤ m
    by true e h k = ≤ℤ-trans h (not_above e)
    by false e h k = k

minimum_from_each : (fs : List ℕ) (g : List ℤ) (m : ℤ) {vs : List (List ℤ)} {v : List ℤ} → Among vs v → minimum_from m (scores fs g vs) ≤ℤ weighted fs g v
unfolding minimum_from scores
minimum_from_each fs g m (here {v} {vs}) = by (lt_z (weighted fs g v) m) refl
  where
    by : (t : Bool) → lt_z (weighted fs g v) m ≡ t → cond t (minimum_from (weighted fs g v) (scores fs g vs)) (minimum_from m (scores fs g vs)) ≤ℤ weighted fs g v
    by true e = minimum_from_first (weighted fs g v) (scores fs g vs)
    by false e = ≤ℤ-trans (minimum_from_first m (scores fs g vs)) (not_below e)
minimum_from_each fs g m (there {u} {v} a) = either (λ x. x ≤ℤ weighted fs g v) (lt_z (weighted fs g u) m) (minimum_from_each fs g (weighted fs g u) a) (minimum_from_each fs g m a)

-- no row scores less than the least score
pub minimum_least : (fs : List ℕ) (g : List ℤ) {rs : List (List ℤ)} {v : List ℤ} → Among rs v → minimum (scores fs g rs) ≤ℤ weighted fs g v
unfolding minimum scores
minimum_least fs g (here {v} {vs}) = minimum_from_first (weighted fs g v) (scores fs g vs)
minimum_least fs g (there {u} a) = minimum_from_each fs g (weighted fs g u) a

-- ---- The index

argmin_from_below : (n i best : ℕ) (least : ℤ) (ps : List ℤ) → best < n → i + length ps ≤ n → argmin_from i best least ps < n
unfolding argmin_from
argmin_from_below n i best m [] hb hi = hb
argmin_from_below n i best m (p ∷ ps) hb hi =
    either (λ a. a < n) (lt_z p m) (argmin_from_below n (suc i) i p ps (omega arith) (omega arith)) (argmin_from_below n (suc i) best m ps hb (omega arith))

pub argmin_in : (ps : List ℤ) → 1 ≤ length ps → argmin ps < length ps
unfolding argmin
argmin_in [] h = absurd (omega arith)
argmin_in (p ∷ ps) h = argmin_from_below (suc (length ps)) 1 0 p ps (omega arith) (omega arith)

pub length_scores : (fs : List ℕ) (g : List ℤ) (rs : List (List ℤ)) → length (scores fs g rs) ≡ length rs
unfolding scores
length_scores fs g [] = refl
length_scores fs g (v ∷ vs) = ap suc (length_scores fs g vs)

pub argmin_below : (fs : List ℕ) (g : List ℤ) (rs : List (List ℤ)) → 1 ≤ length rs → argmin (scores fs g rs) < length rs
argmin_below fs g rs h = rw (length_scores fs g rs) at (argmin_in (scores fs g rs) (rw (length_scores fs g rs) h))

pub among_row : (rs : List (List ℤ)) (i : ℕ) → i < length rs → Among rs (row rs i)
unfolding row
among_row [] i h = absurd (omega arith)
among_row (v ∷ vs) zero h = here
among_row (v ∷ vs) (suc i) h = there (among_row vs i (omega arith))

-- ---- The greatest of <r, y - w v> by the least of <r, v>

-- c - w s is below c - w t exactly where t is below s
turned : (c : ℤ) (w : ℕ) (s t : ℤ) → 1 ≤ w → lt_z (c -ℤ pos w *ℤ s) (c -ℤ pos w *ℤ t) ≡ lt_z t s
turned c w s t h = by (lt_z (c -ℤ pos w *ℤ s) (c -ℤ pos w *ℤ t)) (lt_z t s) refl refl
  where
    by : (a b : Bool) → lt_z (c -ℤ pos w *ℤ s) (c -ℤ pos w *ℤ t) ≡ a → lt_z t s ≡ b → a ≡ b
    by true true e f = refl
    by false false e f = refl
    by true false e f =
        clash_ℤ (lt_z_yes (rw e tt))
        (derive (c ∷ pos w ∷ s ∷ t ∷ []) (x₀ ⊝ x₁ ⊗ x₃ ≼ x₀ ⊝ x₁ ⊗ x₂) (known (x₂ ≼ x₃) (not_below f) ⊡ known (con (pos 0) ≼ x₁) (≤→≤ℤ (omega arith))) tt)
    by false true e f =
        clash_ℤ (lt_z_yes (rw f tt))
        (derive_times (c ∷ pos w ∷ s ∷ t ∷ []) x₁ (x₂ ≼ x₃) (<→<ℤ h) (known (x₀ ⊝ x₁ ⊗ x₃ ≼ x₀ ⊝ x₁ ⊗ x₂) (not_below e)) tt)

pub inner_gap : (fs : List ℕ) (r y : List ℤ) (w : ℕ) (v : List ℤ) → length v ≡ length y → weighted fs r (subtract y (scale w v)) ≡ weighted fs r y -ℤ pos w *ℤ weighted fs r v
inner_gap fs r y w v e = weighted_subtract fs r y (scale w v) (sym (length_scale w v ∙ e)) ∙ ap (λ p. weighted fs r y -ℤ p) (weighted_scale fs r w v)

maximum_gaps : (fs : List ℕ) (r y : List ℤ) (w : ℕ) (m : ℤ) (vs : List (List ℤ)) → 1 ≤ w → Wide (length y) vs →
    maximum_from (weighted fs r y -ℤ pos w *ℤ m) (gaps fs r y w vs) ≡ weighted fs r y -ℤ pos w *ℤ minimum_from m (scores fs r vs)
unfolding maximum_from minimum_from gaps scores
maximum_gaps fs r y w m [] h wide = refl
maximum_gaps fs r y w m (v ∷ vs) h wide =
    rw (inner_gap fs r y w v (wide.each v here), turned (weighted fs r y) w m (weighted fs r v) h)
    (either₂ (λ a x. a ≡ weighted fs r y -ℤ pos w *ℤ x) (lt_z (weighted fs r v) m) (maximum_gaps fs r y w (weighted fs r v) vs h (wide_rest wide)) (maximum_gaps fs r y w m vs h (wide_rest wide)))

pub maximum_by_minimum : (fs : List ℕ) (r y : List ℤ) (w : ℕ) (rs : List (List ℤ)) → 1 ≤ w → 1 ≤ length rs → Wide (length y) rs →
    maximum (gaps fs r y w rs) ≡ weighted fs r y -ℤ pos w *ℤ minimum (scores fs r rs)
unfolding maximum minimum gaps scores
maximum_by_minimum fs r y w [] h k wide = absurd (omega arith)
maximum_by_minimum fs r y w (v ∷ vs) h k wide = rw (inner_gap fs r y w v (wide.each v here)) (maximum_gaps fs r y w (weighted fs r v) vs h (wide_rest wide))
