-- The needs of `first_answer`: E, the target's score and the least score that it finds are those of the iterate after the first step. Assumes nothing.
use mathlib.Core.Path.{◌≡◌, refl, sym, ap, ◌∙◌}
use mathlib.Core.Bool.{Bool, true, false, cond}
use mathlib.Core.List.{List, [], ◌∷◌}
use Prim.Native.Nat.{ℕ, ◌≤◌, ◌<◌}
use native.Mathlib.Nat.{zero-add}
use native.Mathlib.Omega.{arith}
use lib.IntN.{ℤ, pos, nat_abs, ◌*ℤ◌, +ℤ_idl}
use lib.Signed.{lt_z}
use lib.ListN.{length, get_or, replicate}
use mir.Syntax.{w32, w64}
use mir.Val.{SFits, to_z, of_z}
use mir.Facts.{to_z-of_z, to_z_pos}
use Rattle.integers.proofs.Order.{<→<ℤ}
use Rattle.integers.proofs.Bounds.{fits, read, abs_mul_le}
use Rattle.integers.proofs.Facts.{lt_scale}
use Rattle.files.specs.Book.{boats, columns, rows}
use Rattle.files.specs.Sheet.{sheet, files_refusal}
use Rattle.files.specs.Limits.{step_limit}
use Rattle.frank_wolfe.specs.Vectors.{scale, weighted, ones}
use Rattle.frank_wolfe.proofs.Vectors.{weighted_symmetric, weighted_zero}
use Rattle.method.specs.declared.Test.TheVariants.{Sharper}
use Rattle.method.specs.declared.Answer.{Answer}
use Rattle.method.specs.Problem.{Schedule, share, allowed_steps}
use Rattle.method.specs.Plain.{plain_problem}
use Rattle.method.specs.Iterates.{iterate, residual, row, natural, argmin}
use Rattle.method.specs.Answers.{answer_at}
use Rattle.method.specs.Minimum.{minimum_from, minimum}
use Rattle.method.proofs.Weights.{weight_zero, weight_suc}
use Rattle.method.proofs.Schedules.{ScheduleSized}
use Rattle.method.proofs.Argmin.{argmin_at, argmin_in}
use Rattle.method.proofs.Shares.{residual_start}
use Rattle.scoring.specs.Scores.{least_of, pick_of}
use Rattle.scoring.specs.declared.Least.{Least}
use Rattle.iteration.specs.declared.State.{State}
use Rattle.iteration.specs.States.{iterate_of, scores_of, pick_at, boat_products, target_product, Holds}
use Rattle.iteration.specs.Moves.{moved_distance, Moves, next_state}
use Rattle.iteration.specs.Measures.{answer_by, Answerable}
use Rattle.iteration.proofs.Measuring.{natural_pos}
use Rattle.iteration.proofs.States.{book_fits, sheet_fits, product_count, product_size, fresh_holds, best_below, steppable, next_holds, first_scores}
use Rattle.iteration.proofs.Answering.{answerable, answer_right}

-- the least of some numbers, each times k
minimum_from_scale : (k : ℕ) → 1 ≤ k → (p : ℤ) (ps : List ℤ) → minimum_from (pos k *ℤ p) (scale k ps) ≡ pos k *ℤ minimum_from p ps
unfolding minimum_from scale
minimum_from_scale k h p [] = refl
minimum_from_scale k h p (q ∷ ps) = rw (lt_scale (pos k) q p (<→<ℤ h)) (by (lt_z q p) (minimum_from q ps) (minimum_from p ps) (minimum_from_scale k h q ps) (minimum_from_scale k h p ps))
  where
    by : (t : Bool) (x' y' : ℤ) {x y : ℤ} → x ≡ pos k *ℤ x' → y ≡ pos k *ℤ y' → cond t x y ≡ pos k *ℤ cond t x' y'
    by true x' y' e f = e
    by false x' y' e f = f

minimum_scale : (k : ℕ) → 1 ≤ k → (ps : List ℤ) → 1 ≤ length ps → minimum (scale k ps) ≡ pos k *ℤ minimum ps
unfolding minimum scale
minimum_scale k h [] n = absurd (omega arith)
minimum_scale k h (p ∷ ps) n = minimum_from_scale k h p ps

-- a share times a product, as the machine has it
module _ {k : ℕ} (few : k ≤ step_limit) (x : ℤ) (h : nat_abs x ≤ 512000000) where
  times_is : to_z w64 k *ℤ to_z w64 (of_z w64 x) ≡ pos k *ℤ x
  times_is = rw (to_z_pos w64 {n = k} (omega arith), read w64 512000000 h tt)

  pub times_fits : SFits w64 (to_z w64 k *ℤ to_z w64 (of_z w64 x))
  times_fits = rw times_is (fits w64 184320000000 (abs_mul_le (pos k) x step_limit 512000000 few h) tt)

  pub times_read : to_z w64 (of_z w64 (to_z w64 k *ℤ to_z w64 (of_z w64 x))) ≡ pos k *ℤ x
  times_read = to_z-of_z times_fits ∙ times_is

module _ (b s : List ℕ) (ok : files_refusal b s ≡ 0) {a : Schedule} (S : ScheduleSized a) {i : ℕ} (h : i ≡ pick_at a b s 0) where
  abbrev first : Least
  first = least_of (boat_products b s 0)

  abbrev fresh : State
  fresh = record { steps = 0; weight = 0; distance = 0; target_score = pos 0; best = first.boat; least = first.score }

  fresh_held : Holds a b s 0 fresh
  fresh_held = fresh_holds b s ok a refl refl

  picks : first.boat ≡ i
  picks = fresh_held.best_is ∙ sym h

  pub pick_below : i < boats b
  pick_below = rw picks at (best_below b s ok S fresh_held)

  -- the first share
  pub first_gives : 0 < allowed_steps a step_limit
  first_gives = S.some_steps step_limit (omega arith)

  -- before the first step every score is 0
  no_score : pos 0 ≡ weighted (ones (columns b)) (residual (plain_problem a b s) 0 (iterate_of a b s 0)) (row (rows b) fresh.best)
  unfolding plain_problem iterate
  no_score =
      rw (residual_start (plain_problem a b s) (sheet_fits b s ok).target_length)
      (sym (weighted_symmetric (ones (columns b)) (replicate (columns b) (pos 0)) (row (rows b) fresh.best) ∙ weighted_zero (ones (columns b)) (row (rows b) fresh.best) (columns b)))

  -- the share, the product of the boat's own row and that of the target, as the machine has them
  module _ {k : ℕ} (ek : k ≡ share a 0) {own target : ℤ} (eo : own ≡ get_or (boat_products b s i) i (pos 0)) (et : target ≡ target_product b s i) where
    own_is : own ≡ get_or (boat_products b s fresh.best) fresh.best (pos 0)
    own_is = rw picks eo

    target_is : target ≡ target_product b s fresh.best
    target_is = rw picks et

    pub share_most : k ≤ step_limit
    share_most = rw ek (S.most_share 0 (omega arith))

    pub first_moves : Moves 0 k (pos 0) (pos 0) (to_z w32 (of_z w32 own)) (to_z w32 (of_z w32 target))
    first_moves = rw ek (steppable b s ok S fresh_held no_score own_is target_is (omega arith)).moves

    pub target_cast : SFits w64 (to_z w32 (of_z w32 target))
    target_cast = fits w64 512000000 first_moves.target_size tt

    -- the least product
    pub least_size : {p : Least} → p ≡ least_of (boat_products b s i) → nat_abs p.score ≤ 512000000
    unfolding least_of
    least_size ep =
        rw ep
        (product_size b s ok i pick_below (argmin (boat_products b s i)) (rw (product_count b s ok i) at (argmin_in (boat_products b s i) (omega (arith, product_count b s ok i, (book_fits b s ok).some_boats)))))

    -- E, the target's score and the least score
    module _ {e : ℕ} (ee : pos e ≡ moved_distance 0 k (pos 0) (pos 0) (to_z w32 (of_z w32 own)) (to_z w32 (of_z w32 target))) {c : ℤ} (ec : c ≡ pos k *ℤ to_z w32 (of_z w32 target))
        {p : Least} (ep : p ≡ least_of (boat_products b s i)) {z : ℤ} (ez : z ≡ pos k *ℤ p.score) where
      -- the state that the step leads to
      abbrev next : State
      next = next_state fresh (share a 0) (pos 0) (to_z w32 (of_z w32 own)) (to_z w32 (of_z w32 target)) (pick_of (iterate_of a b s 1).shares (scores_of a b s 1))

      held : Holds a b s 1 next
      held = next_holds b s ok S fresh_held no_score own_is target_is (omega arith) refl refl

      steps_is : next.steps ≡ 1
      unfolding next_state
      steps_is = refl

      weight_is : k ≡ next.weight
      unfolding next_state
      weight_is = ek ∙ sym (zero-add (share a 0))

      distance_is : e ≡ next.distance
      unfolding next_state
      distance_is = natural_pos ee ∙ rw ek

      target_score_is : c ≡ next.target_score
      unfolding next_state
      target_score_is = ec ∙ rw ek (sym (+ℤ_idl (pos (share a 0) *ℤ to_z w32 (of_z w32 target))))

      least_is : z ≡ next.least
      unfolding next_state least_of pick_of
      least_is =
          ez ∙ rw (ek, ep, argmin_at (boat_products b s i), ← first_scores b s ok S fresh_held, picks)
          (sym (minimum_scale (share a 0) S.fits.some_share (boat_products b s i) (omega (arith, product_count b s ok i, (book_fits b s ok).some_boats))))

      pub first_answerable : Answerable e k c z s
      first_answerable = rw (weight_is, distance_is, target_score_is, least_is) (answerable b s ok S held (omega arith))

      pub first_right : {x : Answer} → x ≡ answer_by Sharper 1 k (sheet s).tolerance e c z → x ≡ answer_at Sharper (plain_problem a b s) 1 (iterate_of a b s 1)
      first_right f = f ∙ rw (weight_is, distance_is, target_score_is, least_is) (rw steps_is at (answer_right b s ok S held (omega arith)))
