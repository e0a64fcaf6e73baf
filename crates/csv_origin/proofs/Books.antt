-- A book compared with the one that a CSV makes: a law for each return.
use mathlib.Core.Path.{◌≡◌, refl, subst, ◌∙◌}
use mathlib.Core.Bool.{Bool, true, false, cond}
use mathlib.Core.List.{List}
use Prim.Native.Nat.{ℕ, zero, suc, ◌≤◌}
use native.Mathlib.Omega.{arith}
use borrow.Author.Tests.{eq-eqb, ne_eqb}
use lib.Dec.{ltb}
use lib.ListN.{length, take}
use Rattle.files.specs.Bytes.{same}
use Rattle.files.specs.Limits.{file_limit}
use Rattle.buffers.proofs.Writing.{front_taken}
use Rattle.csv_fleet_reader.specs.Fleet.{last_table}
use Rattle.csv_book.specs.Books.{Made, csv_book, nothing_made, made_by, book_made, output_by}
use Rattle.csv_book.specs.Promise.{BookAccepted, BookRightBy, BookRight}
use Rattle.csv_origin.specs.Origin.{book_of}

-- the length of a book without fault
made_long : (room : ℕ) (csv : List ℕ) → (book_made room csv).fault ≡ 0 → (book_made room csv).len ≡ length (csv_book csv)
unfolding book_made made_by
made_long room csv z = by (ltb room file_limit) (ltb 200000 (length csv)) (last_table csv).fault z
  where
    by : (a b : Bool) (f : ℕ) → (cond a (nothing_made 11 0 0 0 0) (cond b (nothing_made 10 0 0 0 0) (made_by f csv))).fault ≡ 0 →
        (cond a (nothing_made 11 0 0 0 0) (cond b (nothing_made 10 0 0 0 0) (made_by f csv))).len ≡ length (csv_book csv)
    by true b f z = absurd (omega arith)
    by false true f z = absurd (omega arith)
    by false false zero z = refl
    by false false (suc f) z = absurd (omega arith)

module _ (csv : List ℕ) (r : Made) where
  pub book_short : r.fault ≡ 0 → (w : List ℕ) → BookRight csv r w → r.len ≤ file_limit
  unfolding BookRightBy
  book_short z w d = let a : BookAccepted csv r w = subst (λ (n : ℕ). BookRightBy n csv r w) z d.by_fault in a.most_bytes

  now_made : {room : ℕ} → r ≡ book_made room csv → room ≡ file_limit → r ≡ book_made file_limit csv
  now_made e l = rw l at e

  pub no_book : {room : ℕ} → r ≡ book_made room csv → room ≡ file_limit → (r.fault ≡ 0 → ⊥) → (b : List ℕ) → false ≡ book_of csv b
  unfolding book_of
  no_book e l n b = rw (← now_made e l, ne_eqb r.fault 0 n)

  module _ (out : List ℕ) (e : r ≡ book_made (length out) csv) (l : length out ≡ file_limit)
      (z : r.fault ≡ 0) {new : List ℕ} (en : new ≡ output_by r.fault csv out) (d : BookRight csv r (take r.len new)) where
    -- the book is the first part of the buffer
    taken : take r.len new ≡ csv_book csv
    unfolding output_by
    taken =
        let n : r.len ≡ length (csv_book csv) = rw e (made_long (length out) csv (rw e at z)) in
        front_taken out (csv_book csv) (rw z at en) n (omega (arith, book_short z (take r.len new) d))

    pub book_compared : (b : List ℕ) {g : Bool} → g ≡ same (take r.len new) b → g ≡ book_of csv b
    unfolding book_of
    book_compared b eg = eg ∙ rw (taken, ← now_made e l, eq-eqb r.fault 0 z)
