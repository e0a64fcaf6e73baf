-- `released_book::put_book` meets its contract.
use mathlib.Core.Path.{◌≡◌, ap, ◌∙◌}
use Prim.Native.Nat.{◌-◌}
use lib.ListN.{length}
use native.Mathlib.Omega.{arith}
use Rattle.files.specs.Book.{boats}
use Rattle.files.proofs.Accepted.{book_accepted}
use Rattle.method.specs.ReleasedBoats.{usable, used_from}
use Rattle.released_book.proofs.Rows.{rows_long, rows_most}
use Rattle.released_book.proofs.Book.{book_put}
use Rattle.released_book.proofs.put_book.Goals as goal

pub boats-requires : goal.boats-requires
boats-requires c = (book_accepted _ c.requires.book_value).at_least

pub count-count-requires : goal.count-count-requires
count-count-requires c = (omega arith, omega (arith, c.boats.ensures, (book_accepted _ c.requires.book_value).most_boats))

pub columns-requires : goal.columns-requires
columns-requires c = (book_accepted _ c.requires.book_value).at_least

pub put_book_trailer-requires : goal.put_book_trailer-requires
put_book_trailer-requires c =
    let u = usable c.args.set in
    omega (arith, c.put_rows-back.ensures.value, rows_long u _ c.requires.book_value, rows_most u _ c.requires.book_value, c.put_rows-back.auto.output, c.requires.in_bounds)

pub overflow_add-result : goal.overflow_add-result
overflow_add-result c =
    let u = usable c.args.set in
    omega (arith, c.put_rows-back.ensures.value, rows_long u _ c.requires.book_value, rows_most u _ c.requires.book_value)

pub returns : goal.returns
returns c =
    let z : c.boats.result - 0 ≡ boats c.args.book.now = omega (arith, c.boats.ensures) in
    let q = book_put (usable c.args.set) _ c.requires.book_value _ c.requires.in_bounds c.put_rows-back.ensures.value (c.count-count.ensures ∙ ap (λ n. length (used_from (usable c.args.set) 0 n)) z)
    c.columns.ensures.value c.put_rows-back.ensures.output_after c.put_book_trailer.ensures in
    record { value = q.0; output_after = q.1 }
