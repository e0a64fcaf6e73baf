-- `csv_front_text::put_kept` meets its contract: a law for each return.
use Rattle.csv_front_text.proofs.Keeping.{put_nothing, put_there, put_past}
use Rattle.csv_front_text.proofs.put_kept.Goals as goal

pub returns-then-n-output : goal.returns-then-n-output
returns-then-n-output c =
    let q = put_there _ _ _ c.is_kept.ensures _ _ c.if-is_kept.true c.if-n-output.true in
    record { value = q.0; output_after = q.1 }

pub returns-then-is_kept : goal.returns-then-is_kept
returns-then-is_kept c =
    let q = put_past _ _ _ c.is_kept.ensures _ _ c.if-is_kept.true c.if-n-output.false in
    record { value = q.0; output_after = q.1 }

pub returns : goal.returns
returns c =
    let q = put_nothing _ _ _ c.is_kept.ensures _ _ c.if-is_kept.false in
    record { value = q.0; output_after = q.1 }
