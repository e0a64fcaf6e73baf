-- What one turn of the code does is what specs/Rounds.antt says of it.
use mathlib.Core.Path.{◌≡◌, refl, sym, ◌∙◌}
use mathlib.Core.Bool.{Bool, true, false, not, ◌&&◌}
use mathlib.Core.Logic.{◌⊎◌, inl, inr, ⊎_elim}
use mathlib.Core.List.{List}
use Prim.Native.Nat.{ℕ, ◌+◌, ◌<◌}
use native.Mathlib.Omega.{arith}
use borrow.Author.Tests.{eqb-true, eqb-false, ltb-true, ltb-false, not-true}
use lib.Dec.{eqb, ltb}
use lib.ListN.{length, get_or, length-set}
use lib.Seq.{set-get_or, get_or-set_same, get_or-set_other}
use Rattle.queue_rounds.specs.declared.Rounds.{Rounds}
use Rattle.queue_rounds.specs.Counts.{Kept, Turned, turn_of, is_due, taken}
use Rattle.sheet_queue.proofs.Rounds.{turn_is}

pub same_or_other : (j i : ℕ) → (j ≡ i) ⊎ (j ≡ i → ⊥)
same_or_other j i = by (eqb j i) refl
  where
    by : (t : Bool) → eqb j i ≡ t → (j ≡ i) ⊎ (j ≡ i → ⊥)
    by true e = inl (eqb-true j i e)
    by false e = inr (eqb-false j i e)

both : (a b : Bool) → a && b ≡ true → (a ≡ true) × (b ≡ true)
both true b e = (refl, e)
both false b e = (e, absurd (let z : ◌≡◌ {A = ℕ} 0 1 = cc in omega arith))

module _ {ts : List ℕ} {q : Rounds} (k : Kept ts q) (i : ℕ) (h : i < length ts) where
  still : turn_of ts i q ≡ 0 → Turned ts i q q
  still e =
      let s : get_or q.used i 0 + turn_of ts i q ≡ get_or q.used i 0 = omega arith in
      record { kept = k; used_is = rw (s, set-get_or q.used i 0); left_is = omega arith }

  -- a sheet that is not due has no step to take, or none is left
  pub waits : is_due i q ≡ false → Turned ts i q q
  waits e = by (ltb 0 q.left) (get_or q.finished i false) refl refl e
    where
      by : (a b : Bool) → ltb 0 q.left ≡ a → get_or q.finished i false ≡ b → (a && not b) ≡ false → Turned ts i q q
      by true true d f e = still (omega (arith, turn_is q.left (get_or ts i 0) (get_or q.used i 0), eqb-true (get_or q.used i 0) (get_or ts i 0) (sym (k.finished_are i h) ∙ f)))
      by true false d f e = absurd (let z : ◌≡◌ {A = ℕ} 0 1 = cc in omega arith)
      by false true d f e = still (omega (arith, turn_is q.left (get_or ts i 0) (get_or q.used i 0), ltb-false 0 q.left d))
      by false false d f e = still (omega (arith, turn_is q.left (get_or ts i 0) (get_or q.used i 0), ltb-false 0 q.left d))

  module _ (e : is_due i q ≡ true) where
    pub left_is : 0 < q.left
    left_is = ltb-true 0 q.left (both (ltb 0 q.left) (not (get_or q.finished i false)) e).0

    pub more : get_or q.used i 0 < get_or ts i 0
    more =
        let going = not-true (get_or q.finished i false) (both (ltb 0 q.left) (not (get_or q.finished i false)) e).1 in
        omega (arith, eqb-false (get_or q.used i 0) (get_or ts i 0) (sym (k.finished_are i h) ∙ going), k.within_own i h)

    pub few : get_or q.used i 0 < 360
    few = omega (arith, more, k.sheets.most i h)

    in_used : i < length q.used
    in_used = omega (arith, k.used_long, k.sheets.few)

    in_finished : i < length q.finished
    in_finished = omega (arith, k.finished_long, k.sheets.few)

    pub moves : (b : Bool) → b ≡ eqb (get_or q.used i 0 + 1) (get_or ts i 0) → Turned ts i q (taken i b q)
    moves b f =
        let n = get_or q.used i 0 + 1 in
        let s : turn_of ts i q ≡ 1 = omega (arith, more, left_is, turn_is q.left (get_or ts i 0) (get_or q.used i 0)) in
        record {
          kept =
              record {
                sheets = k.sheets;
                used_long = length-set q.used i n ∙ k.used_long;
                finished_long = length-set q.finished i b ∙ k.finished_long;
                within_own = λ j l.
                    ⊎_elim (λ (d : j ≡ i). rw (d, get_or-set_same q.used i n 0 in_used) (omega (arith, more)))
                    (λ d. rw (get_or-set_other q.used i j n 0 d) (k.within_own j l))
                    (same_or_other j i);
                finished_are = λ j l.
                    ⊎_elim (λ (d : j ≡ i). rw (d, get_or-set_same q.used i n 0 in_used, get_or-set_same q.finished i b false in_finished) f)
                    (λ d. rw (get_or-set_other q.used i j n 0 d, get_or-set_other q.finished i j b false d) (k.finished_are j l))
                    (same_or_other j i);
              };
          used_is = rw s refl;
          left_is = rw s refl;
        }
