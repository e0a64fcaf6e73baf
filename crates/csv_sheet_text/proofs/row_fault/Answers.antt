-- `csv_sheet_text::row_fault` meets its contract.
use Rattle.csv_sheet_text.proofs.Telling.{looked_inside, looked_is, looked_few, looked_count, row_fault_told}
use Rattle.csv_sheet_text.proofs.row_fault.Goals as goal

pub slice_bounds-row-end : goal.slice_bounds-row-end
slice_bounds-row-end c = looked_inside _ _ _ _ c.put_looked-n.ensures.value c.put_looked-n.ensures.output_after

pub slice_bounds-kind_of-end : goal.slice_bounds-kind_of-end
slice_bounds-kind_of-end c = looked_count _ _ _ _ c.put_looked-n.ensures.value c.put_looked-n.ensures.output_after

pub slice_bounds-row-end-2 : goal.slice_bounds-row-end-2
slice_bounds-row-end-2 c = looked_inside _ _ _ _ c.put_looked-n.ensures.value c.put_looked-n.ensures.output_after

pub slice_bounds-row_line-end : goal.slice_bounds-row_line-end
slice_bounds-row_line-end c = looked_count _ _ _ _ c.put_looked-n.ensures.value c.put_looked-n.ensures.output_after

pub slice_bounds-column-end : goal.slice_bounds-column-end
slice_bounds-column-end c = looked_inside _ _ _ _ c.put_looked-m.ensures.value c.put_looked-m.ensures.output_after

pub slice_bounds-row_line-end-2 : goal.slice_bounds-row_line-end-2
slice_bounds-row_line-end-2 c = looked_count _ _ _ _ c.put_looked-m.ensures.value c.put_looked-m.ensures.output_after

pub slice_bounds-value-end : goal.slice_bounds-value-end
slice_bounds-value-end c = looked_inside _ _ _ _ c.put_looked-k.ensures.value c.put_looked-k.ensures.output_after

pub slice_bounds-row_line-end-3 : goal.slice_bounds-row_line-end-3
slice_bounds-row_line-end-3 c = looked_count _ _ _ _ c.put_looked-k.ensures.value c.put_looked-k.ensures.output_after

pub row_line-requires : goal.row_line-requires
row_line-requires c = record { row_len_bound = looked_few _ _ _ _ c.put_looked-n.ensures.value c.put_looked-n.ensures.output_after; column_len_bound = looked_few _ _ _ _ c.put_looked-m.ensures.value c.put_looked-m.ensures.output_after; value_len_bound = looked_few _ _ _ _ c.put_looked-k.ensures.value c.put_looked-k.ensures.output_after }

pub returns : goal.returns
returns c =
    row_fault_told _ _ c.wants_row.ensures (looked_is _ _ _ _ c.put_looked-n.ensures.value c.put_looked-n.ensures.output_after) c.kind_of-kind.ensures c.wants_column.ensures
    c.wants_value.ensures (looked_is _ _ _ _ c.put_looked-m.ensures.value c.put_looked-m.ensures.output_after) (looked_is _ _ _ _ c.put_looked-k.ensures.value c.put_looked-k.ensures.output_after) c.row_line.ensures
