-- `refusal_details::names_csv` meets its contract.
use mathlib.Core.Path.{sym, refl}
use Prim.Native.Nat.{◌≤◌}
use native.Mathlib.Nat.{le-mul_of_pos_right}
use native.Mathlib.Omega.{arith}
use lib.ListN.{length}
use Rattle.files.specs.Book.{boats}
use lib.Seq.{length-take-le}
use Rattle.refusal_details.proofs.Lines.{named, nameless}
use Rattle.refusal_details.proofs.names_csv.Goals as goal

pub slice_bounds-names_all-end : goal.slice_bounds-names_all-end
slice_bounds-names_all-end c =
    let front_inside : c.book_body-end.result ≤ length c.args.book.now = omega (arith, c.book_body-end.ensures) in
    sym (length-take-le _ _ front_inside)

pub names_all-requires : goal.names_all-requires
names_all-requires c =
    let front_inside : c.book_body-end.result ≤ length c.args.book.now = omega (arith, c.book_body-end.ensures) in
    let many = le-mul_of_pos_right (boats c.args.book.now) c.requires.bound in record { csv_len_bound = rw (length-take-le _ _ front_inside) (omega (arith, front_inside, c.requires.book_len_bound)); boats_bound = omega (arith, c.boats.ensures, many, c.requires.book_whole, c.requires.book_len_bound); columns_bound = c.columns.ensures.upper_bound }

pub slice_bounds-result-end : goal.slice_bounds-result-end
slice_bounds-result-end c =
    let front_inside : c.book_body-end.result ≤ length c.args.book.now = omega (arith, c.book_body-end.ensures) in
    sym (length-take-le _ _ front_inside)

pub returns-then-names_all : goal.returns-then-names_all
returns-then-names_all c = named _ c.book_body-end.ensures c.boats.ensures c.columns.ensures.value c.names_all.ensures c.if-names_all.true

pub returns : goal.returns
returns c = nameless _ c.book_body-end.ensures c.boats.ensures c.columns.ensures.value c.names_all.ensures c.if-names_all.false {k = 0} refl
