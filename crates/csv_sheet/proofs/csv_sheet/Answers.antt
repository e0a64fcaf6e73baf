-- `csv_sheet::csv_sheet` meets its contract: a law of `Accepting` for each return.
use mathlib.Core.Path.{refl, sym, ap, ◌∙◌}
use Rattle.csv_fleet_tokens.specs.Table.{Table}
use Rattle.csv_sheet_rows.specs.Findings.{Found}
use Rattle.csv_fleet_tokens.proofs.Faults.{positive}
use Rattle.csv_sheet.proofs.Making.{refused_is, passed_on, some_number, none_number}
use Rattle.csv_sheet.proofs.Accepting.{no_room, too_big, fleet_big, fleet_faulty, rows_faulty, made}
use Rattle.csv_sheet.proofs.csv_sheet.Goals as goal

pub returns-then-output-lt40000 : goal.returns-then-output-lt40000
returns-then-output-lt40000 c =
    let q = no_room _ _ _ c.if-output-lt40000.true (refused_is _ c.without.ensures) in
    record { value = q.0; output_after = q.1.0; sheet_right = q.1.1 }

pub returns-then-csv-gt39000 : goal.returns-then-csv-gt39000
returns-then-csv-gt39000 c =
    let q = too_big _ _ _ c.if-output-lt40000.false c.if-csv-gt39000.true (refused_is _ c.without-then-csv-gt39000.ensures) in
    record { value = q.0; output_after = q.1.0; sheet_right = q.1.1 }

pub returns-then-fleet-gt200000 : goal.returns-then-fleet-gt200000
returns-then-fleet-gt200000 c =
    let q = fleet_big _ _ _ c.if-output-lt40000.false c.if-csv-gt39000.false c.if-fleet-gt200000.true (refused_is _ c.without-then-fleet-gt200000.ensures) in
    record { value = q.0; output_after = q.1.0; sheet_right = q.1.1 }

pub returns-then-is_some : goal.returns-then-is_some
returns-then-is_some c =
    let q = fleet_faulty _ _ _ c.if-output-lt40000.false c.if-csv-gt39000.false c.if-fleet-gt200000.false c.fleet_table-table.ensures (some_number _ c.is_some.ensures c.if-is_some.true) (refused_is _ c.without-then-is_some.ensures) in
    record { value = q.0; output_after = q.1.0; sheet_right = q.1.1 }

pub returns-in_err-rows_fault : goal.returns-in_err-rows_fault
returns-in_err-rows_fault c =
    let q = rows_faulty _ _ _ c.if-output-lt40000.false c.if-csv-gt39000.false c.if-fleet-gt200000.false c.fleet_table-table.ensures (none_number _ c.is_some.ensures c.if-is_some.false) c.in_err-rows_fault.ensures (positive _) (passed_on _ _ c.from_residual.ensures) in
    record { value = q.0; output_after = q.1.0; sheet_right = q.1.1 }

pub make_of_columns-requires : goal.make_of_columns-requires
make_of_columns-requires c = record { fleet_len_bound = c.if-fleet-gt200000.false; fleet_value = sym (ap (λ (t : Table). t.fault) c.fleet_table-table.ensures) ∙ none_number _ c.is_some.ensures c.if-is_some.false; columns_value = ap (λ (t : Table). t.columns) c.fleet_table-table.ensures; csv_len_bound = c.if-csv-gt39000.false; csv_value = sym (ap (λ (f : Found). f.fault) c.in_ok-rows_fault.ensures); file_limit_in_bounds = c.if-output-lt40000.false }

pub returns : goal.returns
returns c =
    let q = made _ _ _ c.if-output-lt40000.false c.if-csv-gt39000.false c.if-fleet-gt200000.false c.fleet_table-table.ensures (none_number _ c.is_some.ensures c.if-is_some.false) c.in_ok-rows_fault.ensures refl c.make_of_columns.ensures.value
    c.make_of_columns.ensures.output_after in
    record { value = q.0; output_after = q.1.0; sheet_right = q.1.1 }
