-- `csv_sheet_words::with_nameless` meets its contract.
use Rattle.csv_sheet_words.proofs.Wording.{nameless_hull, nameless_column}
use Rattle.csv_sheet_words.proofs.with_nameless.Goals as goal

pub returns-then-field-eq0 : goal.returns-then-field-eq0
returns-then-field-eq0 c =
    let q = nameless_hull _ c.if-field-eq0.true c.with_bytes.ensures in
    record { adds = q.0; len_bound = q.1 }

pub returns : goal.returns
returns c =
    let q = nameless_column _ c.if-field-eq0.false (c.with_unnamed.ensures.adds, c.with_unnamed.ensures.len_bound) in
    record { adds = q.0; len_bound = q.1 }
