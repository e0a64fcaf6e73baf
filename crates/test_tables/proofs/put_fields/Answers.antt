-- `test_tables::put_fields` meets its contract.
use borrow.Author.Rules.{rules}
use Rattle.test_buffers.proofs.Putting.{putting_start, putting_more, putting_end}
use Rattle.test_tables.proofs.Fields.{fields_more, fields_none}
use Rattle.test_tables.proofs.put_fields.Goals as goal

pub loop-i-init : goal.loop-i-init
loop-i-init c = putting_start

pub loop-i-preserved : goal.loop-i-preserved
loop-i-preserved c =
    let x = c.args in
    putting_more
    (rw (fields_more x.line.now x.others.now x.letters.now x.sizes.now c.loop-i.i (search rules)) at c.loop-i.invariant)
    (rw (c.wide-size.ensures.value, c.byte_at.ensures, c.field-x.ensures, c.field.ensures) at c.put_number-next.ensures)

pub returns : goal.returns
returns c =
    let x = c.args in
    putting_end (rw (fields_none x.line.now x.others.now x.letters.now x.sizes.now c.loop-i.i (search rules)) at c.loop-i.invariant)
