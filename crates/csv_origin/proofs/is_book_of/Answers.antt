-- `csv_origin::is_book_of` meets its contract: a law of `Books` for each return.
use borrow.Author.Rules.{rules}
use mathlib.Core.Path.{◌≡◌, refl, sym}
use Prim.Native.Nat.{ℕ, ◌≤◌}
use native.Mathlib.Omega.{arith}
use lib.ListN.{length, length-replicate}
use lib.Seq.{length-take-le}
use Rattle.csv_fleet_tokens.proofs.Faults.{positive}
use Rattle.csv_book.specs.Books.{made_of}
use Rattle.csv_origin.proofs.Books.{book_short, no_book, book_compared}
use Rattle.csv_origin.proofs.is_book_of.Goals as goal

pub slice_bounds-csv_book-end : goal.slice_bounds-csv_book-end
slice_bounds-csv_book-end c = sym (length-replicate {A = ℕ} 40000 0)

pub returns-in-Err : goal.returns-in-Err
returns-in-Err c = no_book _ _ c.in-Err.ensures.value (length-replicate {A = ℕ} 40000 0) (positive _) _

pub slice_bounds-output-end : goal.slice_bounds-output-end
slice_bounds-output-end c =
    let long : length c.csv_book.new.output ≡ 40000 = search rules in
    let short : c.in-Ok.made.len ≤ 40000 = book_short _ (made_of c.in-Ok.made) refl _ c.in-Ok.ensures.book_right in
    omega (arith, short, long)

pub slice_bounds-is_same-end : goal.slice_bounds-is_same-end
slice_bounds-is_same-end c =
    let long : length c.csv_book.new.output ≡ 40000 = search rules in
    let short : c.in-Ok.made.len ≤ 40000 = book_short _ (made_of c.in-Ok.made) refl _ c.in-Ok.ensures.book_right in
    sym (length-take-le _ c.csv_book.new.output (omega (arith, short, long)))

pub returns-in-Ok : goal.returns-in-Ok
returns-in-Ok c = book_compared _ (made_of c.in-Ok.made) _ c.in-Ok.ensures.value (length-replicate {A = ℕ} 40000 0) refl c.in-Ok.ensures.output_after c.in-Ok.ensures.book_right _ c.is_same.ensures
