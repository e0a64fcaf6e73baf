-- A text put into a buffer, or a buffer too short for it, is as the definition says. Assumes nothing.
use mathlib.Core.Path.{◌≡◌, sym, ap, ◌∙◌}
use mathlib.Core.Bool.{true, false}
use mathlib.Core.List.{List}
use Prim.Native.Nat.{ℕ, ◌≤◌, ◌<◌}
use borrow.Author.Tests.{lt-ltb, le-ltb}
use lib.Dec.{ltb}
use lib.ListN.{length, take, length-take}
use native.Mathlib.Nat.{zero-add, min-le_right}
use native.Mathlib.Omega.{arith}
use Rattle.method.specs.Searched.{Searched}
use Rattle.method.specs.Searched.{Refused, Answered}
use Rattle.text.specs.declared.Text.{Text}
use Rattle.text.specs.Lines.{number_line, pair_line}
use Rattle.text.specs.Texts.{text_limit, Holds}
use Rattle.listing.specs.Lines.{head_lines, listing_of, outcome_listing}
use Rattle.search_listing.specs.Searches.{search_outcome, search_shares, search_listing}
use Rattle.buffers.specs.Placed.{placed}
use Rattle.exported_search.specs.Buffers.{bytes_after, bytes_put}

module _ {l : List ℕ} {t : Text} (h : Holds l t) where
  pub as_long : t.len ≡ length (take t.len t.bytes)
  as_long = h.length_is ∙ sym (ap length h.bytes_are)

  pub inside : t.len ≤ length t.bytes
  inside = omega (arith, as_long, length-take t.len t.bytes, min-le_right t.len (length t.bytes))

module _ {l : List ℕ} {t : Text} (h : Holds l t) (old : List ℕ) where
  -- what the count and the buffer's bytes afterwards must be
  abbrev pub Lists : (count : ℕ) → (new : List ℕ) → Type 0
  Lists n new = (n ≡ bytes_put l old) × (new ≡ bytes_after l old)

  pub most : length l ≤ text_limit
  most = rw h.length_is at h.fits

  pub left_alone : length old < t.len → Lists 0 old
  unfolding bytes_after bytes_put
  left_alone k =
      let e : ltb (length old) (length l) ≡ true = rw (← h.length_is) (lt-ltb (length old) t.len k) in
      (rw e, rw e)

  pub put : t.len ≤ length old → {new : List ℕ} → new ≡ placed old 0 (take t.len t.bytes) → Lists t.len new
  unfolding bytes_after bytes_put placed
  put k e =
      let f : ltb (length old) (length l) ≡ false = rw (← h.length_is) (le-ltb (length old) t.len k) in
      (rw f h.length_is, rw f (rw (h.bytes_are, zero-add) at e))

-- ---- No listing is empty: its first line starts with a word
not_empty : (b s : List ℕ) (r : Searched) (slots : List ℕ) → 1 ≤ length (outcome_listing b s r slots)
unfolding outcome_listing listing_of head_lines number_line pair_line
not_empty b s (Refused n) slots = omega arith
not_empty b s (Answered a) slots = omega arith

-- all that is promised of a listing that was to be put into a buffer
pub listed : (b s : List ℕ) {t : Text} (h : Holds (search_listing b s) t) (old : List ℕ) {n : ℕ} {new : List ℕ} → Lists h old n new → {R : Type 0} → R →
    ((n ≡ bytes_put (search_listing b s) old) × ((1 ≤ length (search_listing b s)) × (length (search_listing b s) ≤ text_limit))) × ((new ≡ bytes_after (search_listing b s) old) × R)
unfolding search_listing
listed b s h old g r = ((g.0, (not_empty b s (search_outcome b s) (search_shares b s), most h old)), (g.1, r))
