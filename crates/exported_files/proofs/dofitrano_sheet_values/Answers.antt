-- `exported_files::dofitrano_sheet_values` meets its contract.
use Rattle.exported_files.proofs.Promises.{values_right}
use Rattle.exported_files.proofs.dofitrano_sheet_values.Goals as goal

pub returns-in-Ok : goal.returns-in-Ok
returns-in-Ok c =
    let q = values_right _ c.cells_of-cells.ensures (c.in-Ok.ensures.value, c.in-Ok.ensures.conversion_right) in
    record { value = q.0; conversion_right = q.1 }

pub returns-in-Err : goal.returns-in-Err
returns-in-Err c =
    let q = values_right _ c.cells_of-cells.ensures (c.in-Err.ensures.value, c.in-Err.ensures.conversion_right) in
    rw c.number.ensures (record { value = q.0; conversion_right = q.1 })
