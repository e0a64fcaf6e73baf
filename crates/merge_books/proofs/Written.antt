-- The entry's results: each refusal, and the merged book written.
use mathlib.Core.Path.{◌≡◌, sym, ap, ◌∙◌}
use mathlib.Core.List.{List, ◌++◌}
use Prim.Native.Nat.{ℕ, ◌+◌, ◌*◌, ◌≤◌, ◌<◌}
use native.Mathlib.Omega.{arith}
use lib.ListN.{length, take, drop, length-take, length-replicate, replicate}
use lib.Seq.{take_all, length-take-le}
use Rattle.files.proofs.Accepted.{book_accepted}
use Rattle.derived_files.proofs.Rows.{cells_most}
use Rattle.files.specs.Book.{columns, book_refusal}
use Rattle.buffers.specs.Placed.{placed}
use Rattle.buffers.proofs.Placing.{placed_next}
use Rattle.buffers.proofs.Writing.{front_inside, front_taken}
use Rattle.book_output.specs.Output.{rows_bytes, book_trailer, book_bytes}
use Rattle.book_output.proofs.Rows.{length_rows_bytes}
use Rattle.refusals.specs.declared.Refusal.{Refusal}
use Rattle.refusals.specs.declared.Refusal.TheVariants.{MergedColumns, MergedBoats, MergedRoom}
use Rattle.refusals.specs.Numbers.{number}
use Rattle.refusals.proofs.Numbers.{positive}
use Rattle.std.specs.Prelude.{Result, Ok, Err}
use Rattle.std.specs.Result.{IsErr, IsErrAnd}
use Rattle.std.proofs.lemmas.Result.{err_from_is_err_and}
use Rattle.merged_book.specs.Merging.{merged_rows, merged_book, merge_refusal, as_merged}
use Rattle.merged_book.proofs.Book.{merged_fits, merged_of}
use Rattle.merged_book.proofs.Promise.{Given, by_first, by_second, by_columns, by_boats, by_room, by_none, given_refused, given_written}

front_placed : (out bs : List ℕ) → placed out 0 bs ≡ bs ++ drop (length bs) out
unfolding placed
front_placed out bs = let z : 0 + length bs ≡ length bs = omega arith in rw z

module _ (a b out : List ℕ) where
  given_by : (e : Refusal) → merge_refusal a b (length out) ≡ number e → Given a b out (as_merged (Err e)) out
  given_by e h = given_refused a b out (number e) (positive e) h

  -- what a `?` gives back
  given_passed : (r : Result ℕ Refusal) (e : Refusal) → IsErr r × IsErrAnd r (λ x. x ≡ e) → merge_refusal a b (length out) ≡ number e → Given a b out (as_merged r) out
  given_passed r e p h = let q = err_from_is_err_and r p.1 in rw (q.1, q.2) (given_by e h)

  pub first_refused : (r : Result ℕ Refusal) (e : Refusal) → IsErr r × IsErrAnd r (λ x. x ≡ e) → number e ≡ book_refusal a → Given a b out (as_merged r) out
  first_refused r e p h = given_passed r e p (by_first a b (length out) (λ z. positive e (h ∙ z)) ∙ sym h)

  module _ (first : book_refusal a ≡ 0) where
    pub second_refused : (r : Result ℕ Refusal) (e : Refusal) → IsErr r × IsErrAnd r (λ x. x ≡ e) → number e ≡ book_refusal b → Given a b out (as_merged r) out
    second_refused r e p h = given_passed r e p (by_second a b (length out) first (λ z. positive e (h ∙ z)) ∙ sym h)

    module _ (second : book_refusal b ≡ 0) where
      pub columns_refused : (columns a ≡ columns b → ⊥) → Given a b out (as_merged (Err MergedColumns)) out
      columns_refused h = given_by MergedColumns (by_columns a b (length out) first second h)

      module _ (same : columns a ≡ columns b) {n c : ℕ} (en : n ≡ length (take 257 (merged_rows a b))) (ec : c ≡ columns a) where
        pub boats_refused : 256 < n → Given a b out (as_merged (Err MergedBoats)) out
        boats_refused h = given_by MergedBoats (by_boats a b (length out) first second same (omega (arith, en, length-take 257 (merged_rows a b))))

        module _ (h : n ≤ 256) where
          few : length (merged_rows a b) ≤ 256
          few = omega (arith, en, length-take 257 (merged_rows a b))

          all_taken : take 257 (merged_rows a b) ≡ merged_rows a b
          all_taken = take_all 257 (merged_rows a b) (omega (arith, few))

          count : n ≡ length (merged_rows a b)
          count = en ∙ ap length all_taken

          -- how many bytes there are
          size : length (merged_book a b) ≡ 2 * (n * c) + 12
          size = (merged_of a b first second same few).size ∙ rw (count, ec)

          pub room_refused : length out < 2 * (n * c) + 12 → Given a b out (as_merged (Err MergedRoom)) out
          room_refused l = given_by MergedRoom (by_room a b (length out) first second same few (omega (arith, size)))

          rows_long : length (rows_bytes (merged_rows a b)) ≡ 2 * (n * c)
          rows_long = length_rows_bytes (columns a) (merged_rows a b) (merged_fits a b first second same few).row_length ∙ rw (count, ec)

          book_here : rows_bytes (merged_rows a b) ++ book_trailer (2 * (n * c)) n c ≡ merged_book a b
          unfolding merged_book book_bytes
          book_here = rw (rows_long, ← count, ← ec)

          module _ {rows : List ℕ} (er : rows ≡ placed (replicate 32896 0) 0 (rows_bytes (take 257 (merged_rows a b)))) where
            rows_here : rows ≡ placed (replicate 32896 0) 0 (rows_bytes (merged_rows a b))
            rows_here = er ∙ ap (λ vs. placed (replicate 32896 0) 0 (rows_bytes vs)) all_taken

            cells : n * c ≤ 16384
            cells = cells_most h (omega (arith, ec, (book_accepted a first).most_columns))

            pub part_inside : 2 * (n * c) ≤ length rows
            part_inside = front_inside (replicate 32896 0) (rows_bytes (merged_rows a b)) rows_here (sym rows_long) (omega (arith, rows_long, cells, length-replicate {A = ℕ} 32896 0))

            pub part_long : length (take (2 * (n * c)) rows) ≡ 2 * (n * c)
            part_long = length-take-le (2 * (n * c)) rows part_inside

            part_is : take (2 * (n * c)) rows ≡ rows_bytes (merged_rows a b)
            part_is = front_taken (replicate 32896 0) (rows_bytes (merged_rows a b)) rows_here (sym rows_long) (omega (arith, rows_long, cells, length-replicate {A = ℕ} 32896 0))

            pub book_written : 2 * (n * c) + 12 ≤ length out → {o₁ o₂ : List ℕ} → o₁ ≡ placed out 0 (take (2 * (n * c)) rows) →
                o₂ ≡ placed o₁ (2 * (n * c)) (book_trailer (2 * (n * c)) n c) → Given a b out (as_merged (Ok (2 * (n * c) + 12))) o₂
            book_written l e₁ e₂ =
                let e = placed_next out 0 (rows_bytes (merged_rows a b)) (book_trailer (2 * (n * c)) n c) (2 * (n * c)) (rw part_is at e₁) e₂ (omega (arith, rows_long)) (omega (arith, rows_long)) in
                rw (← size) (given_written a b out (by_none a b (length out) first second same few (omega (arith, size))) (rw book_here at e ∙ front_placed out (merged_book a b)))
