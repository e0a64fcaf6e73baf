-- Shares tested one after the other for whether they rest on boats that may be used.
use mathlib.Core.Path.{◌≡◌, refl, sym, ap, ◌∙◌}
use mathlib.Core.Bool.{Bool, true, false, not, ◌&&◌, ◌||◌}
use mathlib.Core.List.{List, [], ◌∷◌}
use Prim.Native.Nat.{ℕ, suc, ◌+◌, ◌≤◌, ◌<◌}
use native.Mathlib.Omega.{arith}
use native.Mathlib.Numerals.{add-one}
use borrow.Author.Tests.{not-true, not-false}
use lib.Dec.{eqb}
use lib.ListN.{length, get_or, take, drop, drop_of_length-le}
use lib.Seq.{drop-cons, length-take-le, get_or-take}
use Rattle.method.specs.declared.Released.{Released}
use Rattle.method.specs.ReleasedBoats.{Usable, usable, may_use}
use Rattle.card_format.specs.Checks.{rests_from, rests}

rests_none : (u : Usable) (i : ℕ) → rests_from u i [] ≡ true
unfolding rests_from
rests_none u i = refl

rests_more : (u : Usable) (i q : ℕ) (qs : List ℕ) → rests_from u i (q ∷ qs) ≡ (may_use u i || eqb q 0) && rests_from u (suc i) qs
unfolding rests_from
rests_more u i q qs = refl

-- not limited to a set, every share may stand
pub unlimited_rests : (set : Released) (qs : List ℕ) → set.limited ≡ false → true ≡ rests (usable set) qs
unlimited_rests set qs e = rw e

-- the shares from boat i on decide as all do
pub record Resting (u : Usable) (qs : List ℕ) (i : ℕ) : Type 0 where
  pub within : i ≤ length qs
  pub same : rests_from u 0 qs ≡ rests_from u i (drop i qs)

module _ (set : Released) (shares : List ℕ) (n : ℕ) (most : n ≤ 256) (long : length shares ≡ 256) where
  abbrev u : Usable
  u = usable set

  abbrev qs : List ℕ
  qs = take n shares

  pub qs_long : length qs ≡ n
  qs_long = length-take-le n shares (omega arith)

  pub resting_start : Resting u qs 0
  resting_start = record { within = omega arith; same = refl }

  limited_rests : set.limited ≡ true → rests u qs ≡ rests_from u 0 qs
  limited_rests e = rw e

  module _ {i : ℕ} (d : Resting u qs i) where
    module _ (h : i < n) {r : Bool} (e : r ≡ may_use u i || eqb (get_or shares i 0) 0) where
      next : rests_from u i (drop i qs) ≡ r && rests_from u (suc i) (drop (suc i) qs)
      next =
          ap (rests_from u i) (drop-cons qs i 0 (omega (arith, qs_long))) ∙ rests_more u i (get_or qs i 0) (drop (suc i) qs)
          ∙ rw (get_or-take n shares i 0 h, e)

      pub resting_more : not r ≡ false → Resting u qs (i + 1)
      resting_more t =
          let k : r ≡ true = not-false r t in
          record { within = omega (arith, qs_long); same = d.same ∙ next ∙ rw (k, add-one i) }

      pub resting_fails : set.limited ≡ true → not r ≡ true → false ≡ rests u qs
      resting_fails limited t =
          let k : r ≡ false = not-true r t in
          sym (limited_rests limited ∙ d.same ∙ next ∙ rw k)

    pub resting_end : set.limited ≡ true → n ≤ i → true ≡ rests u qs
    resting_end limited h =
        let e : drop i qs ≡ [] = drop_of_length-le qs {i = i} (omega (arith, qs_long)) in
        sym (limited_rests limited ∙ d.same ∙ ap (rests_from u i) e ∙ rests_none u i)
