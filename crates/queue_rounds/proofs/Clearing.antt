-- The parts of a share list cleared one after the other.
use mathlib.Core.Path.{◌≡◌, refl, sym, ap, ◌∙◌}
use mathlib.Core.Logic.{⊎_elim}
use mathlib.Core.List.{List, [], ◌++◌}
use Prim.Native.Nat.{ℕ, ◌+◌, ◌*◌, ◌-◌, ◌≤◌, ◌<◌}
use native.Mathlib.Omega.{arith}
use lib.ListN.{length, take, drop, replicate, length-append, length-drop, length-replicate, get_or-replicate}
use lib.Seq.{drop-drop}
use borrow.Rule.Slice.PartMut.{mid_of, put_mid}
use Rattle.method.specs.Answers.{slots_after}
use Rattle.sheet_queue.specs.Queue.{filled}
use Rattle.sheet_queue.specs.Promise.{part}
use Rattle.sheet_queue.proofs.Parts.{put_at, put_length, put_same, put_other, put_rest, filled_by}
use Rattle.queue_rounds.proofs.Turns.{same_or_other}
use Rattle.queue_rounds.proofs.Works.{mid_is, put_is, mid_length, whole}

pub record Cleared (boats i : ℕ) (old new : List ℕ) : Type 0 where
  pub long : length new ≡ length old
  pub parts : (j : ℕ) → j < i → part j new ≡ slots_after 0 (replicate boats 0) (part j old)
  pub rest : drop (256 * i) new ≡ drop (256 * i) old

pub cleared_none : {boats : ℕ} {old : List ℕ} → Cleared boats 0 old old
cleared_none = record { long = refl; parts = λ j h. absurd (omega arith); rest = refl }

module _ {boats i : ℕ} {old new : List ℕ} (c : Cleared boats i old new) (few : boats ≤ 256) (room : 256 * i + 256 ≤ length old)
    {xs : List ℕ} (e : xs ≡ replicate boats 0 ++ drop boats (mid_of (256 * i) (256 * i + 256 - 256 * i) new)) where
  room' : 256 * i + 256 ≤ length new
  room' = omega (arith, c.long)

  here : part i new ≡ part i old
  here = ap (take 256) c.rest

  part_long : length (part i new) ≡ 256
  part_long = sym (ap length (mid_is i new)) ∙ mid_length i new room'

  e' : xs ≡ replicate boats 0 ++ drop boats (part i new)
  e' = e ∙ rw (mid_is i new)

  xs_long : length xs ≡ 256
  xs_long = ap length e' ∙ simp (length-append, length-drop, length-replicate, part_long) (omega arith)

  few_xs : length xs ≤ 256
  few_xs = omega (arith, xs_long)

  abbrev next : List ℕ
  next = put_mid (256 * i) (256 * i + 256 - 256 * i) new xs

  next_is : next ≡ put_at i xs new
  next_is = put_is i new xs xs_long

  mine : part i next ≡ slots_after 0 (replicate boats 0) (part i old)
  unfolding slots_after
  mine = ap (part i) next_is ∙ put_same i xs new few_xs room' ∙ whole xs (part i new) xs_long part_long ∙ e' ∙ rw (here, length-replicate {A = ℕ} boats 0)

  pub cleared_more : Cleared boats (i + 1) old next
  cleared_more =
      record {
        long = ap length next_is ∙ put_length i xs new few_xs room' ∙ c.long;
        parts = λ j h. ⊎_elim (λ (f : j ≡ i). rw f mine) (λ f. ap (part j) next_is ∙ put_other i xs new few_xs room' j f ∙ c.parts j (omega (arith, f))) (same_or_other j i);
        rest = ap (drop (256 * (i + 1))) next_is ∙ put_rest i xs new few_xs room' (i + 1) (omega arith) ∙ later new ∙ ap (drop 256) c.rest ∙ sym (later old);
      }
    where
      later : (l : List ℕ) → drop (256 * (i + 1)) l ≡ drop 256 (drop (256 * i) l)
      later l = let n : 256 * (i + 1) ≡ 256 * i + 256 = omega arith in ap (λ (m : ℕ). drop m l) n ∙ sym (drop-drop 256 (256 * i) l)

pub cleared_all : {boats i n : ℕ} {old new : List ℕ} → Cleared boats i old new → i ≤ n → n ≤ i → new ≡ filled (replicate n (replicate boats 0)) old
cleared_all {boats} {i} {n} {old} {new} c h l =
    let e : i ≡ n = omega arith in
    filled_by (replicate n (replicate boats 0)) old new
    (λ j f. c.parts j (omega (arith, length-replicate n (replicate {A = ℕ} boats 0))) ∙ rw (get_or-replicate n j (replicate {A = ℕ} boats 0) [] (omega (arith, length-replicate n (replicate {A = ℕ} boats 0)))))
    (rw (length-replicate n (replicate {A = ℕ} boats 0), ← e) c.rest)
