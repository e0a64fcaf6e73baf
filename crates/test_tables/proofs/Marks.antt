-- Laws of what stands before a mark in a text. Assumes nothing.
use mathlib.Core.Path.{◌≡◌, ◌∙◌}
use mathlib.Core.List.{List}
use Prim.Native.Nat.{ℕ, suc, ◌+◌, ◌-◌, ◌≤◌, ◌<◌}
use native.Mathlib.Numerals.{add-one}
use native.Mathlib.Omega.{arith}
use borrow.Author.Tests.{eq-eqb, ne_eqb, le-leb}
use lib.ListN.{length, get_or, drop, drop_of_length-le}
use lib.Seq.{drop-cons, take-nil}
use Rattle.test_buffers.specs.Buffers.{part}
use Rattle.test_tables.specs.Tables.{before, until, word}

module _ (l : List ℕ) (i mark : ℕ) where
  pub before_here : i < length l → get_or l i 0 ≡ mark → before mark (drop i l) ≡ 0
  unfolding before
  before_here h e = rw (drop-cons l i 0 h, eq-eqb _ _ e)

  pub before_later : i < length l → (get_or l i 0 ≡ mark → ⊥) → before mark (drop i l) ≡ suc (before mark (drop (i + 1) l))
  unfolding before
  before_later h e = rw (drop-cons l i 0 h, ne_eqb _ _ e, add-one)

  pub before_none : length l ≤ i → before mark (drop i l) ≡ 0
  unfolding before
  before_none h = rw (drop_of_length-le l {i = i} h)

  -- the part up to the first mark
  pub part_until : (end : ℕ) → end ≡ i + before mark (drop i l) → end ≤ length l → part i end l ≡ until mark (drop i l)
  unfolding part
  part_until end e h =
      let s : end - i ≡ before mark (drop i l) = omega arith in
      let p : i ≤ end = omega arith in
      rw (le-leb i end p, le-leb end (length l) h, s)

-- the word behind a letter, which is found at `at` or is not in the line
module _ (l : List ℕ) (letter at : ℕ) (found : at ≡ before letter l) where
  pub part_word : (end : ℕ) → end ≡ at + 1 + before 32 (drop (at + 1) l) → end ≤ length l → part (at + 1) end l ≡ word letter l
  part_word end e h =
      let s : at + 1 ≡ suc (before letter l) = omega arith in
      part_until l (at + 1) 32 end e h ∙ rw s

  pub part_none : length l ≤ at → at ≤ length l → part at at l ≡ word letter l
  unfolding part
  part_none h k =
      let z : at - at ≡ 0 = omega arith in
      let p : at ≤ at = omega arith in
      rw (le-leb at at p, le-leb at (length l) k, z, drop_of_length-le l {i = suc (before letter l)} (omega arith), take-nil)
