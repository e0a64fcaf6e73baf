-- The vertex that a step takes: it is one of least score, whoever holds shares; where to look for one that holds some; and where nobody does. Assumes nothing.
use mathlib.Core.Path.{◌≡◌, refl, sym, ◌∙◌, subst}
use mathlib.Core.Bool.{Bool, true, false, not, ◌&&◌, ◌||◌, cond}
use mathlib.Core.List.{List, [], ◌∷◌}
use Prim.Native.Nat.{ℕ, zero, suc, ◌+◌, ◌≤◌, ◌<◌}
use native.Mathlib.Nat.{zero-add, add-zero}
use native.Mathlib.Omega.{arith}
use lib.Dec.{T, ltb}
use lib.IntN.{ℤ, pos}
use lib.ListN.{length, get_or, drop, replicate}
use lib.Signed.{◌≤ℤ◌, lt_z, le_z, le_z_yes, lt_z_yes, ≤ℤ_refl, clash_ℤ}
use Rattle.integers.proofs.Solver.{x₀, x₁, x₂}
use Rattle.integers.proofs.Order.{≤ℤ-antisymmetric}
use Rattle.integers.proofs.Facts.{◌≼◌, ◌≺◌, known, nat, ◌⊞◌, derive, le_not_lt}
use Rattle.frank_wolfe.specs.Method.{Argmin}
use Rattle.frank_wolfe.specs.Vectors.{weighted, Among}
use Rattle.frank_wolfe.proofs.Vectors.{factored}
use Rattle.method.specs.Problem.{Problem}
use Rattle.method.specs.Iterates.{Iterate, row, scores, argmin, active_from, active_argmin, pick}
use Rattle.method.specs.Minimum.{minimum, minimum_from}
use Rattle.method.proofs.Argmin.{any_belowℤ, first_minimizerℤ, argmin_first, argmin_at, argmin_below, score_at, least_score, minimum_least, not_below, length_scores, among_row}

-- ---- A vertex of least score

-- what holds of `other`, and of each index whose number is not above `least`, holds of the index found
active_from_by : (P : ℕ → Type 0) (i : ℕ) (least : ℤ) (other : ℕ) (qs : List ℕ) (ps : List ℤ) →
    P other → ((j : ℕ) → j < length ps → get_or ps j (pos 0) ≤ℤ least → P (i + j)) → P (active_from i least other qs ps)
unfolding active_from
active_from_by P i m o [] ps h f = h
active_from_by P i m o (q ∷ qs) [] h f = h
active_from_by P i m o (q ∷ qs) (a ∷ ps) h f =
    by (ltb 0 q) (le_z a m) refl (active_from_by P (suc i) m o qs ps h (λ j k e. let z : suc i + j ≡ i + suc j = omega arith in rw z (f (suc j) (omega arith) e)))
  where
    by : (s t : Bool) → le_z a m ≡ t → P (active_from (suc i) m o qs ps) → P (cond (s && t) i (active_from (suc i) m o qs ps))
    by false t e later = later
    by true false e later = later
    by true true e later = rw add-zero at (f 0 (omega arith) (le_z_yes (rw e tt)))

module _ (p : Problem) (g : List ℤ) (x : Iterate) where
  abbrev all : List ℤ
  all = scores p.factors g p.vertices

  count : length (scores p.factors g p.vertices) ≡ length p.vertices
  count = length_scores p.factors g p.vertices

  pub pick_below : 1 ≤ length p.vertices → pick p g x < length p.vertices
  unfolding pick active_argmin
  pick_below h =
      active_from_by (λ i. i < length p.vertices) 0 (minimum all) (argmin all) x.shares all (argmin_below p.factors g p.vertices h)
      (λ j k e. rw (zero-add j, ← count) k)

  pub pick_score : weighted p.factors g (row p.vertices (pick p g x)) ≡ minimum (scores p.factors g p.vertices)
  unfolding pick active_argmin
  pick_score =
      active_from_by (λ i. weighted p.factors g (row p.vertices i) ≡ minimum all) 0 (minimum all) (argmin all) x.shares all (least_score p.factors g p.vertices)
      (λ j k e. rw (zero-add j)
      (≤ℤ-antisymmetric _ _ (rw (score_at p.factors g p.vertices j) at e) (minimum_least p.factors g (among_row p.vertices j (rw count at k)))))

  pub pick_row : 1 ≤ length p.vertices → Argmin (factored p.factors) (Among p.vertices) g (row p.vertices (pick p g x))
  pick_row h = record { vertex = among_row p.vertices (pick p g x) (pick_below h); least = λ v a. rw pick_score (minimum_least p.factors g a) }

-- ---- Where nobody holds shares

-- the lowest index of the least number
pub active_none : (i : ℕ) (m : ℤ) (o n : ℕ) (ps : List ℤ) → active_from i m o (replicate n 0) ps ≡ o
unfolding active_from
active_none i m o zero ps = refl
active_none i m o (suc n) [] = refl
active_none i m o (suc n) (a ∷ ps) = active_none (suc i) m o n ps

-- ---- Numbers below another, by the least

below_from : (a m : ℤ) (ps : List ℤ) → (lt_z m a || any_belowℤ a ps) ≡ lt_z (minimum_from m ps) a
unfolding any_belowℤ minimum_from
below_from a m [] = or_false (lt_z m a)
  where
    or_false : (t : Bool) → (t || false) ≡ t
    or_false true = refl
    or_false false = refl
below_from a m (q ∷ ps) = by (lt_z q m) refl (below_from a q ps) (below_from a m ps)
  where
    truth : (t : Bool) → T t → t ≡ true
    truth true h = refl
    truth false h = absurd h

    -- where q is below m, and m below a, q is below a
    lower : lt_z q m ≡ true → lt_z m a ≡ true → lt_z q a ≡ true
    lower e f = truth (lt_z q a) (derive (q ∷ m ∷ a ∷ []) (x₀ ≺ x₂) (known (x₀ ≺ x₁) (lt_z_yes (rw e tt)) ⊞ known (x₁ ≺ x₂) (lt_z_yes (rw f tt)) ⊞ nat 1) tt).lt

    -- where m is not above q, and q below a, m is below a
    upper : lt_z q m ≡ false → lt_z q a ≡ true → lt_z m a ≡ true
    upper e f = truth (lt_z m a) (derive (m ∷ q ∷ a ∷ []) (x₀ ≺ x₂) (known (x₀ ≼ x₁) (not_below e) ⊞ known (x₁ ≺ x₂) (lt_z_yes (rw f tt))) tt).lt

    by : (t : Bool) → lt_z q m ≡ t → (lt_z q a || any_belowℤ a ps) ≡ lt_z (minimum_from q ps) a → (lt_z m a || any_belowℤ a ps) ≡ lt_z (minimum_from m ps) a →
        (lt_z m a || (lt_z q a || any_belowℤ a ps)) ≡ lt_z (cond t (minimum_from q ps) (minimum_from m ps)) a
    by true e h k = go (lt_z m a) refl ∙ h
      where
        go : (s : Bool) → lt_z m a ≡ s → (s || (lt_z q a || any_belowℤ a ps)) ≡ (lt_z q a || any_belowℤ a ps)
        go true f = rw (lower e f) refl
        go false f = refl
    by false e h k = go (lt_z m a) (lt_z q a) refl refl ∙ k
      where
        go : (s t : Bool) → lt_z m a ≡ s → lt_z q a ≡ t → (s || (t || any_belowℤ a ps)) ≡ (lt_z m a || any_belowℤ a ps)
        go true t f f' = rw f refl
        go false false f f' = rw f refl
        go false true f f' = rw (upper e f') refl

-- a number of the list is below a where the least is
pub any_below_minimum : (a : ℤ) (ps : List ℤ) → 1 ≤ length ps → any_belowℤ a ps ≡ lt_z (minimum ps) a
unfolding any_belowℤ minimum
any_below_minimum a [] h = absurd (omega arith)
any_below_minimum a (q ∷ ps) h = below_from a q ps

-- ---- Where to look

-- the first number is not above the least of all where no later one is below it
first_least : (a : ℤ) (bs : List ℤ) → le_z a (minimum (a ∷ bs)) ≡ not (any_belowℤ a bs)
unfolding any_belowℤ
first_least a bs = rw (le_not_lt a (minimum (a ∷ bs)), ← any_below_minimum a (a ∷ bs) (omega arith), itself (lt_z a a) refl)
  where
    itself : (t : Bool) → lt_z a a ≡ t → lt_z a a ≡ false
    itself true e = absurd (clash_ℤ (lt_z_yes {a = a} {b = a} (rw e tt)) (≤ℤ_refl a))
    itself false e = e

some_below : (a : ℤ) (bs : List ℤ) → any_belowℤ a bs ≡ true → 1 ≤ length bs
unfolding any_belowℤ
some_below a [] e = absurd (subst T (sym e) tt)
some_below a (b ∷ bs) e = omega arith

first_minimizer_at : (ps : List ℤ) → get_or ps (first_minimizerℤ ps) (pos 0) ≡ minimum ps
first_minimizer_at ps = rw (argmin_first ps) at (argmin_at ps)

-- no index before the lowest of the least number is found, and this one where it holds shares
active_split : (i : ℕ) (m : ℤ) (o : ℕ) (qs : List ℕ) (ps : List ℤ) → length ps ≤ length qs → 1 ≤ length ps → get_or ps (first_minimizerℤ ps) (pos 0) ≡ m →
    active_from i m o qs ps
    ≡ cond (ltb 0 (get_or qs (first_minimizerℤ ps) 0)) (i + first_minimizerℤ ps)
    (active_from (i + suc (first_minimizerℤ ps)) m o (drop (suc (first_minimizerℤ ps)) qs) (drop (suc (first_minimizerℤ ps)) ps))
unfolding active_from first_minimizerℤ
active_split i m o qs [] n h e = absurd (omega arith)
active_split i m o [] (a ∷ bs) n h e = absurd (omega arith)
active_split i m o (q ∷ qs) (a ∷ bs) n h e = rw least (by (any_belowℤ a bs) refl e (λ h' e'. active_split (suc i) m o qs bs (omega arith) h' e'))
  where
    k : ℕ
    k = first_minimizerℤ bs

    least : le_z a m ≡ not (any_belowℤ a bs)
    least = rw (← e, first_minimizer_at (a ∷ bs)) (first_least a bs)

    and_true : (s : Bool) → (s && true) ≡ s
    and_true true = refl
    and_true false = refl

    and_false : (s : Bool) → (s && false) ≡ false
    and_false true = refl
    and_false false = refl

    by : (t : Bool) → any_belowℤ a bs ≡ t → get_or (a ∷ bs) (cond t (suc k) 0) (pos 0) ≡ m →
        (1 ≤ length bs → get_or bs k (pos 0) ≡ m →
        active_from (suc i) m o qs bs ≡ cond (ltb 0 (get_or qs k 0)) (suc i + k) (active_from (suc i + suc k) m o (drop (suc k) qs) (drop (suc k) bs))) →
        cond (ltb 0 q && not t) i (active_from (suc i) m o qs bs)
        ≡ cond (ltb 0 (get_or (q ∷ qs) (cond t (suc k) 0) 0)) (i + cond t (suc k) 0)
        (active_from (i + suc (cond t (suc k) 0)) m o (drop (suc (cond t (suc k) 0)) (q ∷ qs)) (drop (suc (cond t (suc k) 0)) (a ∷ bs)))
    by true f g later =
        let z : suc i + k ≡ i + suc k = omega arith in
        let z' : suc i + suc k ≡ i + suc (suc k) = omega arith in
        rw (and_false (ltb 0 q), ← z, ← z') (later (some_below a bs f) g)
    by false f g later = let z : i + 1 ≡ suc i = omega arith in rw (and_true (ltb 0 q), add-zero i, z)

-- the lowest index of the least number, if it holds shares; else a later one may be found
pub active_later : (qs : List ℕ) (ps : List ℤ) → length ps ≤ length qs → 1 ≤ length ps →
    active_argmin qs ps
    ≡ cond (ltb 0 (get_or qs (argmin ps) 0)) (argmin ps) (active_from (suc (argmin ps)) (minimum ps) (argmin ps) (drop (suc (argmin ps)) qs) (drop (suc (argmin ps)) ps))
unfolding active_argmin
active_later qs ps n h = rw (argmin_first ps) (rw (zero-add, zero-add) at (active_split 0 (minimum ps) (first_minimizerℤ ps) qs ps n h (first_minimizer_at ps)))
