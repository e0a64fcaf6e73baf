-- The loops that put drawn bytes and rows into a buffer, turn by turn. Assumes nothing.
use mathlib.Core.Path.{◌≡◌}
use mathlib.Core.List.{List, [], ◌∷◌}
use Prim.Native.Nat.{ℕ, suc, ◌+◌, ◌*◌, ◌-◌, ◌/◌, ◌%◌, ◌≤◌, ◌<◌}
use native.Mathlib.Omega.{arith}
use lib.ListN.{get_or}
use Rattle.files.specs.Bytes.{number_bytes}
use Rattle.test_buffers.specs.Buffers.{Puts}
use Rattle.test_buffers.proofs.Putting.{Putting, putting_more, putting_end}
use Rattle.test_samples.specs.Draws.{advance, advances, drawn, any_bytes}
use Rattle.test_samples.specs.Rows.{row, again, next_row, after_row, rows, after_rows, raised, middle}

-- a turn more of n
turn : (n i : ℕ) → i < n → n - i ≡ suc (n - (i + 1))
turn n i h = omega arith

-- none left
over : (n i : ℕ) → n ≤ i → n - i ≡ 0
over n i h = omega arith

-- ---- The state of the generator

module _ (n i s : ℕ) {last : ℕ} (p : advances (n - i) s ≡ last) where
  pub advances_more : i < n → advances (n - (i + 1)) (advance s) ≡ last
  unfolding advances
  advances_more h = rw (turn n i h) at p

  pub advances_end : n ≤ i → s ≡ last
  unfolding advances
  advances_end h = rw (over n i h) at p

module _ (n i columns s : ℕ) {last : ℕ} (p : after_rows (n - i) i columns s ≡ last) where
  pub states_more : i < n → after_rows (n - (i + 1)) (i + 1) columns (after_row i (drawn 4 s) columns (advance s)) ≡ last
  unfolding after_rows
  states_more h = rw (turn n i h) at p

  pub states_end : n ≤ i → s ≡ last
  unfolding after_rows
  states_end h = rw (over n i h) at p

-- ---- Bytes

module _ {old bytes new new' : List ℕ} {at next next' : ℕ} where
  pub any_more : (n i s : ℕ) → Putting old at bytes new next (any_bytes (n - i) s) → i < n → Puts new next (drawn 256 s ∷ []) new' next' →
      Putting old at bytes new' next' (any_bytes (n - (i + 1)) (advance s))
  unfolding any_bytes
  any_more n i s p h q = putting_more (rw (turn n i h) at p) q

  pub row_more : (n i scale s : ℕ) → Putting old at bytes new next (row (n - i) scale s) → i < n →
      Puts new next (number_bytes 2 (drawn (2 * (scale % 65536) + 1) s % 65536 + 65536 - scale % 65536)) new' next' →
      Putting old at bytes new' next' (row (n - (i + 1)) scale (advance s))
  unfolding row
  row_more n i scale s p h q = putting_more (rw (turn n i h) at p) q

  pub again_more : (n i : ℕ) → Putting old at bytes new next (again n (n - i) new next) → i < n → Puts new next (get_or new (next - n) 0 ∷ []) new' next' →
      Putting old at bytes new' next' (again n (n - (i + 1)) new' next')
  unfolding again
  again_more n i p h q = rw (q.bytes_are, q.reached) (putting_more (rw (turn n i h) at p) (rw (q.bytes_are, q.reached) at q))

  pub middle_more : (n i : ℕ) (from : List ℕ) (a b : ℕ) → Putting old at bytes new next (middle (n - i) i from a b) → i < n →
      Puts new next (number_bytes 2 ((raised from a i + raised from b i) / 2 + 63536)) new' next' → Putting old at bytes new' next' (middle (n - (i + 1)) (i + 1) from a b)
  unfolding middle
  middle_more n i from a b p h q = putting_more (rw (turn n i h) at p) q

  pub rows_more : (n i columns scale s : ℕ) → Putting old at bytes new next (rows (n - i) i columns scale new next s) → i < n →
      Puts new next (next_row i (drawn 4 s) columns scale new next (advance s)) new' next' →
      Putting old at bytes new' next' (rows (n - (i + 1)) (i + 1) columns scale new' next' (after_row i (drawn 4 s) columns (advance s)))
  unfolding rows
  rows_more n i columns scale s p h q = rw (q.bytes_are, q.reached) (putting_more (rw (turn n i h) at p) (rw (q.bytes_are, q.reached) at q))

module _ {old bytes new : List ℕ} {at next : ℕ} where
  pub any_end : (n i s : ℕ) → Putting old at bytes new next (any_bytes (n - i) s) → n ≤ i → Puts old at bytes new next
  unfolding any_bytes
  any_end n i s p h = putting_end (rw (over n i h) at p)

  pub row_end : (n i scale s : ℕ) → Putting old at bytes new next (row (n - i) scale s) → n ≤ i → Puts old at bytes new next
  unfolding row
  row_end n i scale s p h = putting_end (rw (over n i h) at p)

  pub again_end : (n i : ℕ) → Putting old at bytes new next (again n (n - i) new next) → n ≤ i → Puts old at bytes new next
  unfolding again
  again_end n i p h = putting_end (rw (over n i h) at p)

  pub middle_end : (n i : ℕ) (from : List ℕ) (a b : ℕ) → Putting old at bytes new next (middle (n - i) i from a b) → n ≤ i → Puts old at bytes new next
  unfolding middle
  middle_end n i from a b p h = putting_end (rw (over n i h) at p)

  pub rows_end : (n i columns scale s : ℕ) → Putting old at bytes new next (rows (n - i) i columns scale new next s) → n ≤ i → Puts old at bytes new next
  unfolding rows
  rows_end n i columns scale s p h = putting_end (rw (over n i h) at p)
