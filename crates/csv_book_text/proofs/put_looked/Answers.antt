-- `csv_book_text::put_looked` meets its contract.
use Rattle.csv_book_text.proofs.Lines.{not_looked, too_long, field_looked}
use Rattle.csv_book_text.proofs.put_looked.Goals as goal

pub returns-then-not-wanted : goal.returns-then-not-wanted
returns-then-not-wanted c =
    let q = not_looked _ _ _ _ _ c.if-not-wanted.true in
    record { value = q.0; output_after = q.1 }

pub returns-then-csv-gt200000 : goal.returns-then-csv-gt200000
returns-then-csv-gt200000 c =
    let q = too_long _ _ _ _ _ c.if-not-wanted.false c.if-csv-gt200000.true in
    record { value = q.0; output_after = q.1 }

pub returns : goal.returns
returns c =
    let q = field_looked _ _ _ _ _ c.if-not-wanted.false c.if-csv-gt200000.false c.put_field.ensures.value c.put_field.ensures.output_after in
    record { value = q.0; output_after = q.1 }
