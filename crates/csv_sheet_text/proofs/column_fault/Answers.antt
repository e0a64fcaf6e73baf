-- `csv_sheet_text::column_fault` meets its contract.
use mathlib.Core.Bool.{true}
use mathlib.Core.Path.{ap}
use Rattle.csv_fleet_tokens.specs.Faults.{fault_number}
use Rattle.csv_sheet_text.proofs.Telling.{looked_inside, looked_is, looked_few, looked_count, of_sheet, of_fleet, not_unknown}
use Rattle.csv_sheet_text.proofs.column_fault.Goals as goal

pub slice_bounds-name-end : goal.slice_bounds-name-end
slice_bounds-name-end c = looked_inside true _ _ _ c.put_looked-n.ensures.value c.put_looked-n.ensures.output_after

pub slice_bounds-column_line-end : goal.slice_bounds-column_line-end
slice_bounds-column_line-end c = looked_count true _ _ _ c.put_looked-n.ensures.value c.put_looked-n.ensures.output_after

pub column_line-requires : goal.column_line-requires
column_line-requires c = looked_few true _ _ _ c.put_looked-n.ensures.value c.put_looked-n.ensures.output_after

pub returns-in-Unknown : goal.returns-in-Unknown
returns-in-Unknown c = of_sheet _ _ _ (ap fault_number c.in-Unknown.is) (looked_is true _ _ _ c.put_looked-n.ensures.value c.put_looked-n.ensures.output_after) c.column_line.ensures

pub slice_bounds-name-end-2 : goal.slice_bounds-name-end-2
slice_bounds-name-end-2 c = looked_inside true _ _ _ c.put_looked-n-2.ensures.value c.put_looked-n-2.ensures.output_after

pub slice_bounds-column_line-end-2 : goal.slice_bounds-column_line-end-2
slice_bounds-column_line-end-2 c = looked_count true _ _ _ c.put_looked-n-2.ensures.value c.put_looked-n-2.ensures.output_after

pub column_line-requires-2 : goal.column_line-requires-2
column_line-requires-2 c = looked_few true _ _ _ c.put_looked-n-2.ensures.value c.put_looked-n-2.ensures.output_after

pub returns : goal.returns
returns c = of_fleet _ _ _ (not_unknown _ c.in_default.not-Unknown) (looked_is true _ _ _ c.put_looked-n-2.ensures.value c.put_looked-n-2.ensures.output_after) c.column_line-2.ensures
