-- The rows of a CSV without fault are those of a book, whose body has its values.
use mathlib.Core.Path.{◌≡◌, refl, sym, ap, ◌∙◌}
use mathlib.Core.Bool.{Bool, true, false, ◌&&◌}
use mathlib.Core.List.{List, [], ◌∷◌, ◌++◌}
use Prim.Native.Nat.{ℕ, zero, suc, ◌*◌, ◌≤◌, ◌<◌}
use native.Mathlib.Nat.{suc-mul, zero-mul}
use native.Mathlib.Omega.{arith}
use lib.IntN.{ℤ}
use lib.ListN.{length, get_or, take, drop, length-drop, take-append-drop}
use lib.Seq.{length-take-le}
use Rattle.files.specs.Bytes.{in_range, all_in_range}
use Rattle.files.specs.Book.{all_rows_in_range}
use Rattle.sheet_output.specs.Output.{values_bytes}
use Rattle.sheet_output.proofs.Values.{values_bytes_append}
use Rattle.book_output.specs.Output.{rows_bytes, book_trailer, book_bytes}
use Rattle.book_output.specs.Back.{RowsFit, BookOf, BookReadsBack}
use Rattle.book_output.proofs.Back.{book_reads_back}
use Rattle.csv_fleet_reader.specs.Fleet.{fleet_values, last_table}
use Rattle.csv_fleet_rows.specs.Rows.{rows_of, fleet_rows, Whole}

pub rows_count : (n c : ℕ) (vs : List ℤ) → length (rows_of n c vs) ≡ n
unfolding rows_of
rows_count zero c vs = refl
rows_count (suc n) c vs = ap suc (rows_count n c (drop c vs))

empty : (vs : List ℤ) → length vs ≡ 0 → vs ≡ []
empty [] h = refl
empty (v ∷ vs) h = absurd (omega arith)

module _ (n c : ℕ) (vs : List ℤ) (h : length vs ≡ suc n * c) where
  first_inside : c ≤ length vs
  first_inside = omega (arith, h, suc-mul n c)

  later_long : length (drop c vs) ≡ n * c
  later_long = length-drop c vs ∙ (omega (arith, h, suc-mul n c))

row_length : (n c : ℕ) (vs : List ℤ) → length vs ≡ n * c → (i : ℕ) → i < n → length (get_or (rows_of n c vs) i []) ≡ c
unfolding rows_of
row_length zero c vs h i k = absurd (omega arith)
row_length (suc n) c vs h zero k = length-take-le c vs (first_inside n c vs h)
row_length (suc n) c vs h (suc i) k = row_length n c (drop c vs) (later_long n c vs h) i (omega arith)

rows_values : (n c : ℕ) (vs : List ℤ) → length vs ≡ n * c → rows_bytes (rows_of n c vs) ≡ values_bytes vs
unfolding rows_of rows_bytes values_bytes
rows_values zero c vs h = ap values_bytes (sym (empty vs (h ∙ zero-mul c)))
rows_values (suc n) c vs h =
    ap (λ bs. values_bytes (take c vs) ++ bs) (rows_values n c (drop c vs) (later_long n c vs h))
    ∙ sym (values_bytes_append (take c vs) (drop c vs))
    ∙ ap values_bytes (take-append-drop c vs)

and_parts : (a b c d : Bool) → (a && b) ≡ true → (b ≡ true → (c ≡ true) × (d ≡ true)) → ((a && c) ≡ true) × (d ≡ true)
and_parts true b c d p f = f p
and_parts false b c d p f = let z : ◌≡◌ {A = ℕ} 0 1 = cc in absurd (omega arith)

split_range : (c : ℕ) (vs : List ℤ) → all_in_range vs ≡ true → (all_in_range (take c vs) ≡ true) × (all_in_range (drop c vs) ≡ true)
unfolding all_in_range
split_range zero vs h = (refl, h)
split_range (suc c) [] h = (refl, refl)
split_range (suc c) (v ∷ vs) h = and_parts (in_range v) (all_in_range vs) _ _ h (split_range c vs)

rows_in_range : (n c : ℕ) (vs : List ℤ) → all_in_range vs ≡ true → all_rows_in_range (rows_of n c vs) ≡ true
unfolding rows_of all_rows_in_range
rows_in_range zero c vs h = refl
rows_in_range (suc n) c vs h = let p = split_range c vs h in rw (p.0, rows_in_range n c (drop c vs) p.1)

module _ (csv : List ℕ) (w : Whole csv) where
  abbrev n : ℕ
  n = (last_table csv).boats

  abbrev c : ℕ
  c = (last_table csv).columns

  pub boats_long : length (fleet_rows csv) ≡ n
  unfolding fleet_rows
  boats_long = rows_count n c (fleet_values csv)

  each_long : (i : ℕ) → i < n → length (get_or (fleet_rows csv) i []) ≡ c
  unfolding fleet_rows
  each_long = row_length n c (fleet_values csv) w.count

  all_in : all_rows_in_range (fleet_rows csv) ≡ true
  unfolding fleet_rows
  all_in = rows_in_range n c (fleet_values csv) w.in_range

  pub body_values : rows_bytes (fleet_rows csv) ≡ values_bytes (fleet_values csv)
  unfolding fleet_rows
  body_values = rows_values n c (fleet_values csv) w.count

  pub rows_fit : RowsFit (fleet_rows csv) c
  rows_fit =
      record {
        some_boats = rw boats_long w.some_boats;
        most_boats = rw boats_long w.most_boats;
        some_columns = w.some_columns;
        most_columns = w.most_columns;
        row_length = λ i h. each_long i (rw boats_long at h);
        in_range = all_in;
      }

  -- the book with this body
  pub bare_book : book_bytes (fleet_rows csv) c ≡ values_bytes (fleet_values csv) ++ book_trailer (length (values_bytes (fleet_values csv))) n c
  unfolding book_bytes
  bare_book = rw (body_values, boats_long)

  pub bare_back : BookOf (fleet_rows csv) c (book_bytes (fleet_rows csv) c)
  unfolding BookReadsBack
  bare_back = book_reads_back (fleet_rows csv) c rows_fit
