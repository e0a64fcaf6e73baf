-- `refusal_details::value_line` meets its contract.
use mathlib.Core.Path.{◌≡◌}
use Prim.Native.Nat.{◌≤◌, ◌<◌, ◌*◌, ◌/◌, ◌%◌}
use native.Mathlib.Nat.{div-le_self, mod-le}
use native.Mathlib.Omega.{arith}
use lib.ListN.{length}
use Rattle.files.specs.Book.{boats, columns}
use Rattle.refusal_details.specs.Details.{book_values}
use Rattle.refusal_details.proofs.Refused.{book_out, book_found}
use Rattle.refusal_details.proofs.Scan.{OutAt}
use Rattle.refusal_details.proofs.Lines.{few_names, value_told}
use borrow.Author.Rules.{rules}
use Rattle.refusal_details.proofs.value_line.Goals as goal

pub book_body-at-requires : goal.book_body-at-requires
book_body-at-requires c = (book_out _ c.requires).whole

pub columns-columns-requires : goal.columns-columns-requires
columns-columns-requires c = (book_out _ c.requires).at_least

pub names_csv-front-requires : goal.names_csv-front-requires
names_csv-front-requires c = let o = book_out _ c.requires in record { book_whole = o.whole; book_len_bound = o.at_most; bound = o.some_columns }

pub boats-requires : goal.boats-requires
boats-requires c = (book_out _ c.requires).at_least

pub overflow_mul-boats : goal.overflow_mul-boats
overflow_mul-boats c =
    let product : (let b = c.args.book.now in c.boats.result * c.columns-columns.result ≡ boats b * columns b) = rw (c.boats.ensures, c.columns-columns.ensures.value) in
    let o = book_out _ c.requires in
    omega (arith, product, o.whole, o.at_most)

pub first_out-k-requires : goal.first_out-k-requires
first_out-k-requires c =
    let product : (let b = c.args.book.now in c.boats.result * c.columns-columns.result ≡ boats b * columns b) = rw (c.boats.ensures, c.columns-columns.ensures.value) in
    let o = book_out _ c.requires in
    omega (arith, product, c.book_body-at.ensures, o.whole)

pub nonzero_div-i : goal.nonzero_div-i
nonzero_div-i c =
    let some_columns : 0 < c.columns-columns.result = omega (arith, c.columns-columns.ensures.value, (book_out _ c.requires).some_columns) in
    some_columns

pub nonzero_rem-j : goal.nonzero_rem-j
nonzero_rem-j c =
    let some_columns : 0 < c.columns-columns.result = omega (arith, c.columns-columns.ensures.value, (book_out _ c.requires).some_columns) in
    some_columns

pub first_boat-requires : goal.first_boat-requires
first_boat-requires c =
    let found : (let b = c.args.book.now in OutAt (book_values b) b c.book_body-at.result c.first_out-k.result) = book_found _ c.requires c.book_body-at.ensures c.boats.ensures c.columns-columns.ensures.value c.first_out-k.ensures in
    let front-few : length c.names_csv-front.result.now ≤ 200000 = rw c.names_csv-front.ensures (omega (arith, few_names c.args.book.now, found.few)) in
    front-few

pub overflow_add-row : goal.overflow_add-row
overflow_add-row c =
    let found : (let b = c.args.book.now in OutAt (book_values b) b c.book_body-at.result c.first_out-k.result) = book_found _ c.requires c.book_body-at.ensures c.boats.ensures c.columns-columns.ensures.value c.first_out-k.ensures in
    let small-boat : c.first_out-k.result / c.columns-columns.result < 65536 = let o = found in omega (arith, div-le_self c.first_out-k.result c.columns-columns.result, o.inside, o.few) in
    omega (arith, c.first_boat.ensures.upper_bound, small-boat)

pub with_called-boat-requires : goal.with_called-boat-requires
with_called-boat-requires c =
    let found : (let b = c.args.book.now in OutAt (book_values b) b c.book_body-at.result c.first_out-k.result) = book_found _ c.requires c.book_body-at.ensures c.boats.ensures c.columns-columns.ensures.value c.first_out-k.ensures in
    let front-few : length c.names_csv-front.result.now ≤ 200000 = rw c.names_csv-front.ensures (omega (arith, few_names c.args.book.now, found.few)) in
    let small-boat : c.first_out-k.result / c.columns-columns.result < 65536 = let o = found in omega (arith, div-le_self c.first_out-k.result c.columns-columns.result, o.inside, o.few) in
    record { len_bound = search rules; csv_len_bound = front-few; word_len_bound = omega arith; k_bound = small-boat }

pub overflow_add-j : goal.overflow_add-j
overflow_add-j c =
    let found : (let b = c.args.book.now in OutAt (book_values b) b c.book_body-at.result c.first_out-k.result) = book_found _ c.requires c.book_body-at.ensures c.boats.ensures c.columns-columns.ensures.value c.first_out-k.ensures in
    let small-column : c.first_out-k.result % c.columns-columns.result < 65536 = let o = found in omega (arith, mod-le c.first_out-k.result c.columns-columns.result, o.inside, o.few) in
    omega (arith, small-column)

pub with_called-column-requires : goal.with_called-column-requires
with_called-column-requires c =
    let found : (let b = c.args.book.now in OutAt (book_values b) b c.book_body-at.result c.first_out-k.result) = book_found _ c.requires c.book_body-at.ensures c.boats.ensures c.columns-columns.ensures.value c.first_out-k.ensures in
    let front-few : length c.names_csv-front.result.now ≤ 200000 = rw c.names_csv-front.ensures (omega (arith, few_names c.args.book.now, found.few)) in
    let small-column : c.first_out-k.result % c.columns-columns.result < 65536 = let o = found in omega (arith, mod-le c.first_out-k.result c.columns-columns.result, o.inside, o.few) in
    record { len_bound = omega (arith, c.with_called-boat.ensures.len_bound_2, c.with_bytes-begun.ensures.length_is, c.empty.ensures.length_is); csv_len_bound = front-few; word_len_bound = omega arith; k_bound = small-column }

pub overflow_mul-k : goal.overflow_mul-k
overflow_mul-k c =
    let found : (let b = c.args.book.now in OutAt (book_values b) b c.book_body-at.result c.first_out-k.result) = book_found _ c.requires c.book_body-at.ensures c.boats.ensures c.columns-columns.ensures.value c.first_out-k.ensures in
    let o = found in omega (arith, o.inside, o.few)

pub overflow_add-at : goal.overflow_add-at
overflow_add-at c =
    let found : (let b = c.args.book.now in OutAt (book_values b) b c.book_body-at.result c.first_out-k.result) = book_found _ c.requires c.book_body-at.ensures c.boats.ensures c.columns-columns.ensures.value c.first_out-k.ensures in
    let o = found in omega (arith, o.inside, o.few)

pub u16_at-requires : goal.u16_at-requires
u16_at-requires c =
    let found : (let b = c.args.book.now in OutAt (book_values b) b c.book_body-at.result c.first_out-k.result) = book_found _ c.requires c.book_body-at.ensures c.boats.ensures c.columns-columns.ensures.value c.first_out-k.ensures in
    omega (arith, found.inside)

pub returns : goal.returns
returns c =
    let found : (let b = c.args.book.now in OutAt (book_values b) b c.book_body-at.result c.first_out-k.result) = book_found _ c.requires c.book_body-at.ensures c.boats.ensures c.columns-columns.ensures.value c.first_out-k.ensures in
    value_told _ c.names_csv-front.ensures c.columns-columns.ensures.value found c.first_boat.ensures.value c.u16_at.ensures.value
    c.empty.ensures c.with_bytes-begun.ensures c.with_called-boat.ensures.adds c.with_called-column.ensures.adds c.with_out.ensures
