-- `test_card_cases::inputs::put_sheet` meets its contract.
use Rattle.test_buffers.proofs.Putting.{puts_then}
use Rattle.test_card_cases.proofs.inputs.put_sheet.Goals as goal

pub returns : goal.returns
returns c =
    puts_then
    (rw (c.field-columns.ensures, c.field-x.ensures, c.field-y.ensures) at c.put_number-at.ensures)
    (rw (c.field-columns.ensures, c.field.ensures, c.field-2.ensures) at c.put_sheet_trailer.ensures)
