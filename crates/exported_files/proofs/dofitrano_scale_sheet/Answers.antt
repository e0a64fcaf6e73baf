-- `exported_files::dofitrano_scale_sheet` meets its contract.
use Rattle.exported_files.proofs.Promises.{sheet_right}
use Rattle.exported_files.proofs.dofitrano_scale_sheet.Goals as goal

pub returns-in-Ok : goal.returns-in-Ok
returns-in-Ok c =
    let q = sheet_right _ _ _ c.cells_of-cells.ensures (c.in-Ok.ensures.value, c.in-Ok.ensures.sheet_right) in
    record { value = q.0; sheet_right = q.1 }

pub returns-in-Err : goal.returns-in-Err
returns-in-Err c =
    let q = sheet_right _ _ _ c.cells_of-cells.ensures (c.in-Err.ensures.value, c.in-Err.ensures.sheet_right) in
    rw c.number.ensures (record { value = q.0; sheet_right = q.1 })
