-- `csv_book::csv_book` meets its contract: a law of `Making` for each return.
use borrow.Author.Rules.{rules}
use mathlib.Core.List.{List}
use mathlib.Core.Path.{◌≡◌, refl, sym, ap, ◌∙◌}
use Prim.Native.Nat.{ℕ, ◌≤◌}
use native.Mathlib.Omega.{arith}
use lib.ListN.{length}
use lib.Seq.{length-take-le}
use Rattle.csv_fleet_tokens.specs.Faults.{option_number}
use Rattle.csv_fleet_tokens.proofs.Faults.{positive}
use Rattle.csv_fleet_tokens.specs.Table.{Table}
use Rattle.csv_fleet_reader.specs.Fleet.{last_table, fleet_values}
use Rattle.csv_book.proofs.Making.{few_values, bare_put, no_room, too_big, with_fault, with_book}
use Rattle.csv_book.proofs.csv_book.Goals as goal

-- past the tests
faultless : (csv : List ℕ) {t : Table} → t ≡ last_table csv → t.fault ≡ 0 → (last_table csv).fault ≡ 0
faultless csv e f = sym (ap (λ (t : Table). t.fault) e) ∙ f

few : (csv : List ℕ) {t : Table} {n : ℕ} → t ≡ last_table csv → t.fault ≡ 0 → n ≡ length (fleet_values csv) → n ≤ 16384
few csv e f v = omega (arith, few_values csv (faultless csv e f), v)

pub returns-then-output-lt40000 : goal.returns-then-output-lt40000
returns-then-output-lt40000 c =
    let q = no_room _ _ c.if-output-lt40000.true c.at_once.ensures in
    record { value = q.0; output_after = q.1.0; book_right = q.1.1 }

pub returns-then-csv-gt200000 : goal.returns-then-csv-gt200000
returns-then-csv-gt200000 c =
    let q = too_big _ _ c.if-output-lt40000.false c.if-csv-gt200000.true c.at_once-then-csv-gt200000.ensures in
    record { value = q.0; output_after = q.1.0; book_right = q.1.1 }

pub returns-in-Some : goal.returns-in-Some
returns-in-Some c =
    let q = with_fault _ _ c.if-output-lt40000.false c.if-csv-gt200000.false c.read_fleet-fleet.ensures.table_value (search (rules, positive)) c.read_fleet-fleet.ensures.line_value (rw c.in-Some.is refl) in
    record { value = q.0; output_after = q.1.0; book_right = q.1.1 }

pub overflow_mul-body : goal.overflow_mul-body
overflow_mul-body c = omega (arith, few _ c.read_fleet-fleet.ensures.table_value (ap option_number c.in_default.is) c.read_fleet-fleet.ensures.values_value)

pub put_book_trailer-requires : goal.put_book_trailer-requires
put_book_trailer-requires c =
    let long : length c.read_fleet-fleet.new.rows ≡ 32780 = search rules in
    omega (arith, few _ c.read_fleet-fleet.ensures.table_value (ap option_number c.in_default.is) c.read_fleet-fleet.ensures.values_value, long)

pub overflow_add-len : goal.overflow_add-len
overflow_add-len c = omega (arith, few _ c.read_fleet-fleet.ensures.table_value (ap option_number c.in_default.is) c.read_fleet-fleet.ensures.values_value)

pub slice_bounds-book-end : goal.slice_bounds-book-end
slice_bounds-book-end c =
    let long : length c.put_book_trailer.new.output ≡ 32780 = search rules in
    omega (arith, few _ c.read_fleet-fleet.ensures.table_value (ap option_number c.in_default.is) c.read_fleet-fleet.ensures.values_value, long)

-- the book, which is the first part of the buffer
pub slice_bounds-put_with_front-end : goal.slice_bounds-put_with_front-end
slice_bounds-put_with_front-end c =
    let long : length c.put_book_trailer.new.output ≡ 32780 = search rules in
    sym (length-take-le _ c.put_book_trailer.new.output (omega (arith, few _ c.read_fleet-fleet.ensures.table_value (ap option_number c.in_default.is) c.read_fleet-fleet.ensures.values_value, long)))

pub put_with_front-written-requires : goal.put_with_front-written-requires
put_with_front-written-requires c = record { csv_len_bound = c.if-csv-gt200000.false; file_len_bound = omega (arith, few _ c.read_fleet-fleet.ensures.table_value (ap option_number c.in_default.is) c.read_fleet-fleet.ensures.values_value, slice_bounds-put_with_front-end c); file_limit_in_bounds = c.if-output-lt40000.false }

pub returns : goal.returns
returns c =
    let n = ap (λ (t : Table). t.boats) c.read_fleet-fleet.ensures.table_value in
    let m = ap (λ (t : Table). t.columns) c.read_fleet-fleet.ensures.table_value in
    let q = with_book _ _ c.if-output-lt40000.false c.if-csv-gt200000.false c.read_fleet-fleet.ensures.table_value (ap option_number c.in_default.is)
    (bare_put _ (faultless _ c.read_fleet-fleet.ensures.table_value (ap option_number c.in_default.is)) _ c.read_fleet-fleet.ensures.rows_after c.read_fleet-fleet.ensures.values_value n m c.put_book_trailer.ensures (search rules)) c.put_with_front-written.ensures.value
    c.put_with_front-written.ensures.output_after in
    record { value = q.0; output_after = q.1.0; book_right = q.1.1 }
