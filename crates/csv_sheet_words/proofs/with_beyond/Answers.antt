-- `csv_sheet_words::with_beyond` meets its contract.
use Rattle.csv_sheet_words.proofs.Wording.{beyond_one, beyond_some}
use Rattle.csv_sheet_words.proofs.with_beyond.Goals as goal

pub returns-then-field-lt3 : goal.returns-then-field-lt3
returns-then-field-lt3 c =
    let q = beyond_one _ c.if-field-lt3.true c.with_bytes.ensures in
    record { adds = q.0; len_bound = q.1 }

pub returns : goal.returns
returns c =
    let q = beyond_some _ c.if-field-lt3.false (c.with_many.ensures.adds, c.with_many.ensures.len_bound) in
    record { adds = q.0; len_bound = q.1 }
