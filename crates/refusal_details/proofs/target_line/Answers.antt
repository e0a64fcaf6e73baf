-- `refusal_details::target_line` meets its contract.
use Prim.Native.Nat.{◌≤◌}
use native.Mathlib.Omega.{arith}
use lib.ListN.{length}
use Rattle.files.specs.Sheet.{sheet}
use Rattle.files.proofs.Accepted.{book_accepted}
use Rattle.refusal_details.proofs.Refused.{sheet_out, target_found}
use Rattle.refusal_details.proofs.Scan.{OutAt}
use Rattle.refusal_details.proofs.Lines.{few_names, target_told}
use borrow.Author.Rules.{rules}
use Rattle.refusal_details.proofs.target_line.Goals as goal

pub names_csv-front-requires : goal.names_csv-front-requires
names_csv-front-requires c = let o = book_accepted _ c.requires.book_value in record { book_whole = o.whole; book_len_bound = o.at_most; bound = o.some_columns }

pub sheet_body-at-requires : goal.sheet_body-at-requires
sheet_body-at-requires c = (sheet_out _ _ c.requires.sheet_value).whole

pub sheet_columns-requires : goal.sheet_columns-requires
sheet_columns-requires c = (sheet_out _ _ c.requires.sheet_value).long.at_least

pub first_out-k-requires : goal.first_out-k-requires
first_out-k-requires c =
    let o = sheet_out _ _ c.requires.sheet_value in
    omega (arith, c.sheet_columns.ensures.value, c.sheet_body-at.ensures, o.whole)

pub overflow_add-k : goal.overflow_add-k
overflow_add-k c =
    let found : (let s = c.args.sheet.now in OutAt (sheet s).target s c.sheet_body-at.result c.first_out-k.result) = target_found _ _ c.requires.sheet_value c.sheet_body-at.ensures c.sheet_columns.ensures.value c.first_out-k.ensures in
    let o = found in omega (arith, o.inside, o.few)

pub with_called-column-requires : goal.with_called-column-requires
with_called-column-requires c =
    let found : (let s = c.args.sheet.now in OutAt (sheet s).target s c.sheet_body-at.result c.first_out-k.result) = target_found _ _ c.requires.sheet_value c.sheet_body-at.ensures c.sheet_columns.ensures.value c.first_out-k.ensures in
    let front-few : length c.names_csv-front.result.now ≤ 200000 = rw c.names_csv-front.ensures (omega (arith, few_names c.args.book.now, (book_accepted _ c.requires.book_value).at_most)) in
    let o = found in
    record { len_bound = search rules; csv_len_bound = front-few; word_len_bound = omega arith; k_bound = omega (arith, o.inside, o.few) }

pub overflow_mul-k : goal.overflow_mul-k
overflow_mul-k c =
    let found : (let s = c.args.sheet.now in OutAt (sheet s).target s c.sheet_body-at.result c.first_out-k.result) = target_found _ _ c.requires.sheet_value c.sheet_body-at.ensures c.sheet_columns.ensures.value c.first_out-k.ensures in
    let o = found in omega (arith, o.inside, o.few)

pub overflow_add-at : goal.overflow_add-at
overflow_add-at c =
    let found : (let s = c.args.sheet.now in OutAt (sheet s).target s c.sheet_body-at.result c.first_out-k.result) = target_found _ _ c.requires.sheet_value c.sheet_body-at.ensures c.sheet_columns.ensures.value c.first_out-k.ensures in
    let o = found in omega (arith, o.inside, o.few)

pub u16_at-requires : goal.u16_at-requires
u16_at-requires c =
    let found : (let s = c.args.sheet.now in OutAt (sheet s).target s c.sheet_body-at.result c.first_out-k.result) = target_found _ _ c.requires.sheet_value c.sheet_body-at.ensures c.sheet_columns.ensures.value c.first_out-k.ensures in
    found.inside

pub returns : goal.returns
returns c =
    let found : (let s = c.args.sheet.now in OutAt (sheet s).target s c.sheet_body-at.result c.first_out-k.result) = target_found _ _ c.requires.sheet_value c.sheet_body-at.ensures c.sheet_columns.ensures.value c.first_out-k.ensures in
    target_told _ _ c.names_csv-front.ensures found c.u16_at.ensures.value
    c.empty.ensures c.with_bytes-begun.ensures c.with_called-column.ensures.adds c.with_out.ensures
