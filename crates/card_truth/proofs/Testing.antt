-- The tests of a card's total and numbers, as the code has them, are those of the definitions.
use mathlib.Core.Path.{◌≡◌, ◌∙◌}
use mathlib.Core.Bool.{Bool, false}
use mathlib.Core.List.{List}
use Prim.Native.Nat.{ℕ, ◌-◌, ◌≤◌, ◌<◌}
use borrow.Author.Tests.{eq-eqb, ne_eqb, le-leb, lt-leb}
use lib.Dec.{eqb}
use lib.ListN.{length}
use Rattle.frank_wolfe.specs.Vectors.{sum}
use Rattle.files.specs.Bytes.{number}
use Rattle.method.specs.declared.Answer.{Answer}
use Rattle.method.specs.Problem.{Schedule, weight}
use Rattle.method.specs.Answers.{verdict_number, stops}
use Rattle.card_format.specs.Format.{card_fields, pair_count}
use Rattle.card_format.specs.Checks.{shares_total, numbers_agree}
use Rattle.card_input.proofs.Reading.{verdict_at, distance_at, gap_at}

module _ (a : Schedule) (w qs : List ℕ) (t : ℕ) (et : t ≡ (card_fields w).steps) (k : ℕ) (ek : k ≡ pair_count w) where
  pub boats_many : t < k → false ≡ shares_total a (pair_count w) qs (card_fields w).steps
  unfolding shares_total
  boats_many h = simp (← et, ← ek, lt-leb _ _ h)

  pub total_tested : k ≤ t → (x : ℕ) → x ≡ sum qs → (n : ℕ) → n ≡ weight a t → eqb x n ≡ shares_total a (pair_count w) qs (card_fields w).steps
  unfolding shares_total
  total_tested h x ex n en = simp (← et, ← ek, le-leb _ _ h, ← ex, en)

module _ (steps : ℕ) (w : List ℕ) (a : Answer) (h : 36 ≤ length w) (x : ℕ) (ex : x ≡ number (length w - 24) 8 w) where
  pub distance_differs : (x ≡ a.distance → ⊥) → false ≡ numbers_agree steps w a
  unfolding numbers_agree
  distance_differs k = simp (distance_at w h, ← ex, ne_eqb _ _ k)

  module _ (kx : x ≡ a.distance) (y : ℕ) (ey : y ≡ number (length w - 16) 8 w) where
    pub gap_differs : (y ≡ a.gap → ⊥) → false ≡ numbers_agree steps w a
    unfolding numbers_agree
    gap_differs k = simp (distance_at w h, ← ex, eq-eqb _ _ kx, gap_at w h, ← ey, ne_eqb _ _ k)

    module _ (ky : y ≡ a.gap) (z : ℕ) (ez : z ≡ number (length w - 32) 2 w) (v : ℕ) (ev : v ≡ verdict_number a.verdict) where
      pub verdict_differs : (z ≡ v → ⊥) → false ≡ numbers_agree steps w a
      unfolding numbers_agree
      verdict_differs k = simp (distance_at w h, ← ex, eq-eqb _ _ kx, gap_at w h, ← ey, eq-eqb _ _ ky, verdict_at w h, ← ez, ← ev, ne_eqb _ _ k)

      pub numbers_tested : z ≡ v → (t : ℕ) → t ≡ (card_fields w).steps → (r : Bool) → r ≡ stops steps t a.verdict → r ≡ numbers_agree steps w a
      unfolding numbers_agree
      numbers_tested k t et r er =
          er ∙ simp (distance_at w h, ← ex, eq-eqb _ _ kx, gap_at w h, ← ey, eq-eqb _ _ ky, verdict_at w h, ← ez, ← ev, eq-eqb _ _ k, ← et)
