-- The boat found by a pass over the boats that hold shares, by any order of the scores, with its score. Assumes nothing.
use mathlib.Core.Path.{◌≡◌, refl}
use mathlib.Core.Bool.{Bool, true, false, ◌||◌, cond}
use mathlib.Core.List.{List}
use mathlib.Core.Logic.{◌⊎◌, inl, inr}
use Prim.Native.Nat.{ℕ, zero, suc, ◌-◌, ◌≤◌, ◌<◌}
use native.Mathlib.Omega.{arith}
use borrow.Author.Tests.{ltb-true, ltb-false, lt-ltb, eq-eqb, ne_eqb}
use lib.Dec.{eqb, ltb}
use lib.IntN.{ℤ, pos, negsuc, nat_abs}
use lib.ListN.{get_or, take}
use lib.Seq.{get_or-take}
use lib.Signed.{lt_z}
use Rattle.pairwise.specs.Moves.{better, foremost}
use Rattle.pairwise.proofs.Foremost.{foremost_inside}
use Rattle.pairwise_moves.specs.declared.Found.{Found}
use Rattle.pairwise_moves.specs.Passes.{ahead, Idle}

-- of the first i boats; where none of them holds shares the score is at the edge, which every score comes before
pub record Leading (before : ℤ → ℤ → Bool) (edge : ℤ) (qs : List ℕ) (ps : List ℤ) (i : ℕ) (f : Found) : Type 0 where
  pub boat_is : f.boat ≡ foremost before i qs ps
  pub score_is : (Idle qs 0 i × (f.score ≡ edge)) ⊎ ((1 ≤ get_or qs f.boat 0) × (f.score ≡ get_or ps f.boat (pos 0)))

-- the tests of the code
module _ (before : ℤ → ℤ → Bool) (f : Found) (i : ℕ) (x : ℤ) where
  pub ahead_yes : (y : ℤ) → y ≡ x → before x f.score ≡ true → ◌≡◌ {A = Found} (record { boat = i; score = y }) (ahead before f i x)
  unfolding ahead
  ahead_yes y e t = rw (e, t)

  pub ahead_no : before x f.score ≡ false → f ≡ ahead before f i x
  unfolding ahead
  ahead_no t = rw t

-- the first boat that holds shares goes before any
first_found : (qs : List ℕ) (i k : ℕ) → k ≤ i - 1 → Idle qs 0 i → (t : Bool) → i ≡ cond (eqb (get_or qs k 0) 0 || t) i k
first_found qs zero k h idle t = let e : k ≡ 0 = omega arith in rw e (same (eqb (get_or qs 0 0) 0 || t))
  where
    same : (x : Bool) → ◌≡◌ {A = ℕ} 0 (cond x 0 0)
    same true = refl
    same false = refl
first_found qs (suc i) k h idle t = rw (eq-eqb (get_or qs k 0) 0 (idle k (omega arith) (omega arith)))

module _ (before : ℤ → ℤ → Bool) (edge : ℤ) (qs : List ℕ) (ps : List ℤ) where
  pub leading_start : Leading before edge qs ps 0 (record { boat = 0; score = edge })
  unfolding foremost
  leading_start = record { boat_is = refl; score_is = inl ((λ x a b. absurd (omega arith)), refl) }

  module _ (i : ℕ) (f : Found) (d : Leading before edge qs ps i f) where
    pub leading_idle : get_or qs i 0 ≡ 0 → Leading before edge qs ps (suc i) f
    unfolding foremost better
    leading_idle e = record { boat_is = rw e d.boat_is; score_is = by d.score_is }
      where
        more : Idle qs 0 i → Idle qs 0 (suc i)
        more h x a b = at (ltb x i) refl
          where
            at : (t : Bool) → ltb x i ≡ t → get_or qs x 0 ≡ 0
            at true g = h x a (ltb-true x i g)
            at false g = let z : x ≡ i = omega (arith, ltb-false x i g) in rw z e

        by : (Idle qs 0 i × (f.score ≡ edge)) ⊎ ((1 ≤ get_or qs f.boat 0) × (f.score ≡ get_or ps f.boat (pos 0))) →
            (Idle qs 0 (suc i) × (f.score ≡ edge)) ⊎ ((1 ≤ get_or qs f.boat 0) × (f.score ≡ get_or ps f.boat (pos 0)))
        by (inl h) = inl (more h.0, h.1)
        by (inr h) = inr h

    module _ (some : 1 ≤ get_or qs i 0) (x : ℤ) (ex : x ≡ get_or ps i (pos 0)) (inside : before x edge ≡ true) where
      pub leading_held : Leading before edge qs ps (suc i) (ahead before f i x)
      unfolding foremost better ahead
      leading_held = by d.score_is
        where
          has : ltb 0 (get_or qs i 0) ≡ true
          has = lt-ltb 0 (get_or qs i 0) some

          by : (Idle qs 0 i × (f.score ≡ edge)) ⊎ ((1 ≤ get_or qs f.boat 0) × (f.score ≡ get_or ps f.boat (pos 0))) → Leading before edge qs ps (suc i) (ahead before f i x)
          by (inl h) =
              rw (h.1, inside)
              (record {
                boat_is = rw has (first_found qs i (foremost before i qs ps) (foremost_inside before i qs ps) h.0 (before (get_or ps i (pos 0)) (get_or ps (foremost before i qs ps) (pos 0))));
                score_is = inr (some, ex);
              })
          by (inr h) = at (before x f.score) refl
            where
              holds : eqb (get_or qs f.boat 0) 0 ≡ false
              holds = ne_eqb (get_or qs f.boat 0) 0 (λ z. omega (arith, z, h.0))

              at : (t : Bool) → before x f.score ≡ t → Leading before edge qs ps (suc i) (ahead before f i x)
              at true e =
                  let g : before (get_or ps i (pos 0)) (get_or ps f.boat (pos 0)) ≡ true = rw (ex, h.1) at e in
                  rw e (record { boat_is = rw (← d.boat_is, has, holds, g); score_is = inr (some, ex) })
              at false e =
                  let g : before (get_or ps i (pos 0)) (get_or ps f.boat (pos 0)) ≡ false = rw (ex, h.1) at e in
                  rw e (record { boat_is = rw (← d.boat_is, has, holds, g); score_is = inr h })

-- ---- The scores keep to the edges

pub above_edge : (p : ℤ) → nat_abs p ≤ 66539520000000 → lt_z (negsuc 999999999999999999) p ≡ true
above_edge (pos k) h = refl
above_edge (negsuc k) h = lt-ltb k 999999999999999999 (omega arith)

pub below_edge : (p : ℤ) → nat_abs p ≤ 66539520000000 → lt_z p (pos 1000000000000000000) ≡ true
below_edge (pos k) h = lt-ltb k 1000000000000000000 (omega arith)
below_edge (negsuc k) h = refl

-- a scan looks at the boats passed only
pub foremost_take : (before : ℤ → ℤ → Bool) (k n : ℕ) (qs : List ℕ) (ps : List ℤ) → k ≤ n → foremost before k (take n qs) ps ≡ foremost before k qs ps
unfolding foremost better
foremost_take before zero n qs ps h = refl
foremost_take before (suc k) n qs ps h =
    let l : foremost before k qs ps < n = omega (arith, foremost_inside before k qs ps) in
    rw (foremost_take before k n qs ps (omega arith), get_or-take n qs k 0 h, get_or-take n qs (foremost before k qs ps) 0 l)
