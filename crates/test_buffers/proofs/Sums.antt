-- A checksum, element by element. Assumes nothing.
use mathlib.Core.Path.{◌≡◌}
use mathlib.Core.List.{List}
use Prim.Native.Nat.{ℕ, ◌+◌, ◌*◌, ◌%◌, ◌≤◌, ◌<◌}
use native.Mathlib.Numerals.{add-one}
use lib.ListN.{length, get_or, drop, drop_of_length-le}
use lib.Seq.{drop-cons}
use Rattle.test_buffers.specs.Buffers.{checksum, checksum_after}

module _ (l : List ℕ) (i sum : ℕ) (summed : checksum_after sum (drop i l) ≡ checksum l) where
  pub sum_more : i < length l → {x : ℕ} → x ≡ get_or l i 0 → checksum_after ((257 * sum + x) % 1000003) (drop (i + 1) l) ≡ checksum l
  unfolding checksum_after
  sum_more h e = rw (e, add-one) (rw (drop-cons l i 0 h) at summed)

  pub sum_end : length l ≤ i → sum ≡ checksum l
  unfolding checksum_after
  sum_end h = rw (drop_of_length-le l {i = i} h) at summed
