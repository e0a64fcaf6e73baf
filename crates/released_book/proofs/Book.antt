-- The book of the boats that may be used is accepted and reads back; with any sheet it sets the problem of those boats.
use mathlib.Core.Path.{◌≡◌, ap, ◌∙◌}
use mathlib.Core.List.{List}
use Prim.Native.Nat.{ℕ, ◌+◌, ◌≤◌}
use native.Mathlib.Omega.{arith}
use lib.ListN.{length, length-append}
use Rattle.files.specs.Book.{boats, columns, rows, book_refusal}
use Rattle.files.specs.Sheet.{files_refusal}
use Rattle.files.proofs.Accepted.{book_accepted}
use Rattle.buffers.specs.Placed.{placed}
use Rattle.buffers.proofs.Placing.{placed_next}
use Rattle.book_output.specs.Output.{rows_bytes, book_trailer, book_bytes}
use Rattle.book_output.specs.Back.{RowsFit, BookOf, BookReadsBack}
use Rattle.book_output.proofs.Back.{book_trailer_length, book_reads_back}
use Rattle.method.specs.ReleasedBoats.{Usable, used_from, set_refusal, kept}
use Rattle.method.proofs.ReleasedBoats.{length_kept, gather_kept, some_released}
use Rattle.released_set.proofs.Ranks.{rank_most}
use Rattle.released_book.specs.Book.{released_book, BookReleased}
use Rattle.released_book.proofs.Rows.{kept_every, kept_in_range, rows_long, rows_most}

module _ (u : Usable) (b : List ℕ) (ok : book_refusal b ≡ 0) where
  kept_count : length (kept u 0 (rows b)) ≡ length (used_from u 0 (boats b))
  kept_count = length_kept u 0 (rows b) ∙ ap (λ n. length (used_from u 0 n)) (book_accepted b ok).row_count

  rows_fit : 1 ≤ length (used_from u 0 (boats b)) → RowsFit (kept u 0 (rows b)) (columns b)
  rows_fit some =
      let f = book_accepted b ok in
      record {
        some_boats = rw kept_count some;
        most_boats = omega (arith, kept_count, rank_most u 0 (boats b), f.most_boats);
        some_columns = f.some_columns;
        most_columns = f.most_columns;
        row_length = kept_every (λ v. length v ≡ columns b) u 0 (rows b) (λ j h. f.row_length j (omega (arith, f.row_count)));
        in_range = kept_in_range u 0 (rows b) f.rows_in_range;
      }

  released_of : set_refusal (boats b) u ≡ 0 → BookOf (kept u 0 (rows b)) (columns b) (released_book u b)
  unfolding BookReadsBack released_book
  released_of e = book_reads_back (kept u 0 (rows b)) (columns b) (rows_fit (some_released (boats b) u (book_accepted b ok).some_boats e))

  -- as it is written
  pub book_put : (out : List ℕ) → 32780 ≤ length out → {back n c : ℕ} {now new : List ℕ} → back ≡ length (rows_bytes (kept u 0 (rows b))) → n ≡ length (used_from u 0 (boats b)) → c ≡ columns b →
      now ≡ placed out 0 (rows_bytes (kept u 0 (rows b))) → new ≡ placed now back (book_trailer back n c) → (back + 12 ≡ length (released_book u b)) × (new ≡ placed out 0 (released_book u b))
  unfolding released_book book_bytes
  book_put out room {back} {n} {c} eb en ec e f =
      let body = rows_bytes (kept u 0 (rows b)) in
      let foot = book_trailer (length body) (length (kept u 0 (rows b))) (columns b) in
      let z : book_trailer back n c ≡ foot = rw (eb, en, ec, kept_count) in (
        omega (arith, length-append body foot, book_trailer_length (length body) (length (kept u 0 (rows b))) (columns b)),
        placed_next out 0 body foot back e (rw z at f) (omega arith) (omega (arith, rows_long u b ok, rows_most u b ok)),
      )

pub book_released : BookReleased
unfolding BookReleased files_refusal
book_released u b ok e =
    let k = released_of u b ok e in
    record {
      book_fits = k.most_bytes;
      boats_are = k.boats_back ∙ kept_count u b ok;
      files_same = λ s. rw (k.accepted, k.columns_back, ok);
      problem_same = λ m s. rw (k.columns_back, k.rows_back, gather_kept u (rows b));
    }
