-- A fleet book that is written reads back.
use mathlib.Core.Path.{◌≡◌, refl, sym, ap, ◌∙◌}
use mathlib.Core.Bool.{true}
use mathlib.Core.List.{List, [], append-nil}
use Prim.Native.Nat.{ℕ, ◌+◌, ◌*◌, ◌≤◌}
use native.Mathlib.Nat.{mul-le-mul}
use native.Mathlib.Omega.{arith}
use lib.ListN.{length, drop}
use lib.IntN.{ℤ}
use Rattle.files.specs.Bytes.{number_bytes, little_endian, number, same, length_in_range, trailer, body_refusal}
use Rattle.files.specs.Book.{boats, columns, rows, rows_from, WBK1, book_refusal}
use Rattle.files.proofs.Rows.{rows_flat}
use Rattle.files.proofs.Bytes.{read_bytes}
use Rattle.files.proofs.Refusal.{between_said}
use Rattle.files.specs.Limits.{file_limit}
use Rattle.sheet_output.proofs.Back.{file_length, file_trailer, file_body, body_passed}
use Rattle.book_output.specs.Output.{rows_bytes, book_trailer, book_bytes}
use Rattle.book_output.specs.Back.{RowsFit, BookReadsBack}
use Rattle.book_output.proofs.Rows.{length_rows_bytes, rows_back}

module _ (back n c : ℕ) where
  pub book_trailer_length : length (book_trailer back n c) ≡ 12
  unfolding book_trailer number_bytes
  book_trailer_length = refl

  book_back_at : number 0 4 (book_trailer back n c) ≡ little_endian (number_bytes 4 back)
  unfolding number book_trailer number_bytes
  book_back_at = refl

  boats_at : number 4 2 (book_trailer back n c) ≡ little_endian (number_bytes 2 n)
  unfolding number book_trailer number_bytes
  boats_at = refl

  columns_at : number 6 2 (book_trailer back n c) ≡ little_endian (number_bytes 2 c)
  unfolding number book_trailer number_bytes
  columns_at = refl

  book_letters : same (drop 8 (book_trailer back n c)) WBK1 ≡ true
  unfolding book_trailer number_bytes same
  book_letters = refl

module _ (vs : List (List ℤ)) (c : ℕ) (f : RowsFit vs c) where
  cells : length vs * c ≤ 16384
  cells = mul-le-mul f.most_boats f.most_columns

  rows_long : length (rows_bytes vs) ≡ 2 * (length vs * c)
  rows_long = length_rows_bytes c vs f.row_length

  foot : List ℕ
  foot = book_trailer (length (rows_bytes vs)) (length vs) c

  foot_length : length foot ≡ 12
  unfolding foot
  foot_length = book_trailer_length (length (rows_bytes vs)) (length vs) c

  foot_letters : same (drop 8 foot) WBK1 ≡ true
  unfolding foot
  foot_letters = book_letters (length (rows_bytes vs)) (length vs) c

  own_trailer : trailer 12 (book_bytes vs c) ≡ foot
  unfolding book_bytes foot
  own_trailer = file_trailer (rows_bytes vs) foot 12 foot_length

  own_length : length (book_bytes vs c) ≡ 2 * (length vs * c) + 12
  unfolding book_bytes foot
  own_length = file_length (rows_bytes vs) foot 12 foot_length ∙ ap (λ k. k + 12) rows_long

  own_boats : boats (book_bytes vs c) ≡ length vs
  unfolding boats foot
  own_boats = rw own_trailer (boats_at _ (length vs) c ∙ read_bytes 2 (length vs) (omega (arith, f.most_boats)))

  own_columns : columns (book_bytes vs c) ≡ c
  unfolding columns foot
  own_columns = rw own_trailer (columns_at _ (length vs) c ∙ read_bytes 2 c (omega (arith, f.most_columns)))

  bare : rows_from (length vs) c (rows_bytes vs) ≡ vs
  bare = rw append-nil at (rows_back c vs [] f.row_length f.in_range)

  own_rows : rows (book_bytes vs c) ≡ vs
  unfolding rows book_bytes foot
  own_rows = rw (own_boats, own_columns, file_body (rows_bytes vs) foot 12 foot_length (2 * (length vs * c)) rows_long) bare

  own_body : body_refusal 12 (2 * (length vs * c)) (length vs * c) 5 6 (book_bytes vs c) ≡ 0
  unfolding book_bytes foot
  own_body =
      body_passed (rows_bytes vs) foot 12 foot_length (2 * (length vs * c)) (length vs * c) 5 6 rows_long
      (book_back_at _ (length vs) c ∙ read_bytes 4 _ (omega (arith, cells, rows_long)) ∙ rows_long)
      (sym (rows_flat (length vs) c (rows_bytes vs)) ∙ rw bare f.in_range)

  own_accepted : book_refusal (book_bytes vs c) ≡ 0
  unfolding book_refusal length_in_range
  own_accepted =
      simp (
        own_length,
        own_trailer,
        own_boats,
        own_columns,
        between_said {least = 12} {most = file_limit} {n = 2 * (length vs * c) + 12} (omega arith) (omega (arith, cells)),
        foot_letters,
        between_said {least = 1} {most = 256} {n = length vs} f.some_boats f.most_boats,
        between_said {least = 1} {most = 64} {n = c} f.some_columns f.most_columns,
        own_body,
      )

pub book_reads_back : BookReadsBack
unfolding BookReadsBack
book_reads_back vs c f =
    record {
      size = own_length vs c f;
      most_bytes = omega (arith, own_length vs c f, cells vs c f);
      boats_back = own_boats vs c f;
      columns_back = own_columns vs c f;
      rows_back = own_rows vs c f;
      accepted = own_accepted vs c f;
    }
