-- `csv_sheet_parts::put_sheet` meets its contract: a law for each edition.
use Rattle.csv_sheet_parts.proofs.Editions.{plain_put, factored_put}
use Rattle.csv_sheet_parts.proofs.put_sheet.Goals as goal

pub returns-then-row_for-eq0 : goal.returns-then-row_for-eq0
returns-then-row_for-eq0 c =
    let q = plain_put _ _ _ _ _ c.row_for.ensures c.requires.ready.few _ c.requires.in_bounds c.put_target.ensures c.if-row_for-eq0.true c.put_sheet_trailer.ensures in
    record { value = q.0; upper_bound = q.1.0; output_after = q.1.1 }

pub returns : goal.returns
returns c =
    let q = factored_put _ _ _ _ _ c.row_for.ensures c.requires.ready.few _ c.requires.in_bounds c.put_target.ensures c.requires.factors_len c.if-row_for-eq0.false c.put_bytes.ensures
    c.put_factored_trailer.ensures in
    record { value = q.0; upper_bound = q.1.0; output_after = q.1.1 }
