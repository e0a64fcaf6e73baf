-- A search for a boat that holds shares among those of least score: what is left decides as the whole does. Assumes nothing.
use mathlib.Core.Path.{◌≡◌, refl, sym, ap, ◌∙◌}
use mathlib.Core.Bool.{true, false, ◌&&◌, cond}
use mathlib.Core.List.{List}
use Prim.Native.Nat.{ℕ, suc, ◌+◌, ◌≤◌, ◌<◌}
use native.Mathlib.Omega.{arith}
use native.Mathlib.Numerals.{add-one}
use borrow.Author.Tests.{lt-ltb}
use lib.Dec.{ltb}
use lib.IntN.{ℤ, pos}
use lib.Signed.{le_z}
use lib.ListN.{length, get_or, take, drop}
use lib.Seq.{drop-cons, drop-length, length-take-le, get_or-take}
use mir.Syntax.{w64}
use mir.Val.{to_z, of_z}
use Rattle.integers.proofs.Bounds.{read}
use Rattle.method.specs.Iterates.{argmin, active_from, active_argmin}
use Rattle.method.specs.Minimum.{minimum}
use Rattle.method.proofs.Argmin.{argmin_in, argmin_at}
use Rattle.method.proofs.Picks.{active_later}
use Rattle.scoring.specs.declared.Least.{Least}
use Rattle.scoring.specs.Scores.{least_of, pick_of, Pickable}

-- the boats from i on decide
pub record Looking (scores : List ℤ) (shares : List ℕ) (n i : ℕ) : Type 0 where
  pub count : i ≤ n
  pub decides : active_from i (minimum (take n scores)) (argmin (take n scores)) (drop i (take n shares)) (drop i (take n scores))
      ≡ active_argmin (take n shares) (take n scores)

module _ {sc : List ℤ} {sh : List ℕ} {n : ℕ} (p : Pickable sc sh n) where
  abbrev ps : List ℤ
  ps = take n sc

  abbrev qs : List ℕ
  qs = take n sh

  scores_long : length ps ≡ n
  scores_long = length-take-le n sc p.score_sizes.long

  shares_long : length qs ≡ n
  shares_long = length-take-le n sh p.in_shares

  module _ {l : Least} (el : l ≡ least_of (take n sc)) where
    boat_is : l.boat ≡ argmin ps
    unfolding least_of
    boat_is = ap (λ (x : Least). x.boat) el

    score_is : l.score ≡ minimum ps
    unfolding least_of
    score_is = ap (λ (x : Least). x.score) el ∙ argmin_at ps

    pub boat_below : l.boat < n
    boat_below = rw boat_is (rw scores_long at (argmin_in ps (rw scores_long p.some_boats)))

    by_share : active_argmin qs ps ≡ cond (ltb 0 (get_or sh l.boat 0)) l.boat (active_from (suc l.boat) (minimum ps) (argmin ps) (drop (suc l.boat) qs) (drop (suc l.boat) ps))
    by_share =
        rw (← get_or-take n sh l.boat 0 boat_below, boat_is)
        (active_later qs ps (rw (scores_long, shares_long) (omega arith)) (rw scores_long p.some_boats))

    -- the boat picked, with a score that is the least
    picks : {i : ℕ} → active_argmin qs ps ≡ i → {z : ℤ} → z ≡ l.score → ◌≡◌ {A = Least} (record { boat = i; score = z }) (pick_of (take n sh) (take n sc))
    unfolding pick_of
    picks e f = rw (e, f, score_is)

    -- the lowest-numbered, where it holds shares
    pub picks_holding : (get_or sh l.boat 0 ≡ 0 → ⊥) → l ≡ pick_of (take n sh) (take n sc)
    picks_holding h = picks (by_share ∙ rw (lt-ltb 0 (get_or sh l.boat 0) (omega (arith, h)))) refl

    pub looking_start : get_or sh l.boat 0 ≡ 0 → Looking sc sh n (l.boat + 1)
    looking_start e = record { count = omega (arith, boat_below); decides = sym (by_share ∙ rw (e, add-one)) }

    module _ {i : ℕ} (s : Looking sc sh n i) where
      module _ (h : i < n) where
        opened : cond (ltb 0 (get_or sh i 0) && le_z (get_or sc i (pos 0)) (minimum ps)) i (active_from (suc i) (minimum ps) (argmin ps) (drop (suc i) qs) (drop (suc i) ps)) ≡ active_argmin qs ps
        unfolding active_from
        opened =
            rw (drop-cons qs i 0 (rw shares_long h), drop-cons ps i (pos 0) (rw scores_long h), get_or-take n sh i 0 h, get_or-take n sc i (pos 0) h) at s.decides

        pub looking_idle : get_or sh i 0 ≡ 0 → Looking sc sh n (i + 1)
        looking_idle e = record { count = omega arith; decides = rw add-one (rw e at opened) }

        module _ (f : get_or sh i 0 ≡ 0 → ⊥) where
          held : ltb 0 (get_or sh i 0) ≡ true
          held = lt-ltb 0 (get_or sh i 0) (omega (arith, f))

          pub looking_above : le_z (get_or sc i (pos 0)) l.score ≡ false → Looking sc sh n (i + 1)
          looking_above e = record { count = omega arith; decides = rw add-one (rw (held, (rw score_is at e)) at opened) }

          pub picks_found : le_z (get_or sc i (pos 0)) l.score ≡ true → {z : ℤ} → z ≡ l.score → ◌≡◌ {A = Least} (record { boat = i; score = z }) (pick_of (take n sh) (take n sc))
          picks_found e g = picks (sym (rw (held, (rw score_is at e)) at opened)) g

      pub picks_none : n ≤ i → l ≡ pick_of (take n sh) (take n sc)
      unfolding active_from
      picks_none h =
          let e : i ≡ length qs = rw shares_long (omega (arith, s.count)) in
          picks (sym (rw (e, drop-length qs) at s.decides) ∙ sym boat_is) refl

  -- a score as it is read from memory
  pub score_read : (i : ℕ) → i < n → to_z w64 (of_z w64 (get_or sc i (pos 0))) ≡ get_or sc i (pos 0)
  score_read i h = read w64 33269760000000 (p.score_sizes.each i h) tt
