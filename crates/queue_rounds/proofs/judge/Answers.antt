-- `queue_rounds::judge` meets its contract: a law for each return.
use mathlib.Core.Path.{refl}
use native.Mathlib.Omega.{arith}
use Rattle.std.proofs.lemmas.Result.{err_from_is_err_and}
use Rattle.files.proofs.Accepted.{book_accepted}
use Rattle.refusals.proofs.Numbers.{positive}
use Rattle.queue_rounds.proofs.Judging.{ahead_of, judged_ahead, judged_sheets, judged_room, judged_none}
use Rattle.queue_rounds.proofs.judge.Goals as goal

pub returns-in-Err : goal.returns-in-Err
returns-in-Err c =
    let q = judged_ahead _ _ _ _ _ c.in-Err.ensures _ (positive _) in
    record { refusal_value = q.0; accepted_value = q.1 }

pub columns-requires : goal.columns-requires
columns-requires c = (book_accepted _ (ahead_of _ _ _ _ _ c.in_default.ensures refl).book).at_least

pub judge_sheets-requires : goal.judge_sheets-requires
judge_sheets-requires c =
    let passed = ahead_of _ _ _ _ _ c.in_default.ensures refl in
    record { count_bound = passed.most; plan_value = passed.total }

pub returns-in_err-judge_sheets : goal.returns-in_err-judge_sheets
returns-in_err-judge_sheets c =
    let p = err_from_is_err_and c.from_residual.result c.from_residual.ensures.1 in
    let q = judged_sheets _ _ _ _ _ c.in_default.ensures _ refl c.columns.ensures.value c.in_err-judge_sheets.ensures.refusal_value c.in_err-judge_sheets.ensures.accepted_value (positive _) in
    rw (p.1, p.2) (record { refusal_value = q.0; accepted_value = q.1 })

pub overflow_mul-plan : goal.overflow_mul-plan
overflow_mul-plan c = record { fits = omega (arith, (ahead_of _ _ _ _ _ c.in_default.ensures refl).most) }

pub returns-then-slots-plan : goal.returns-then-slots-plan
returns-then-slots-plan c =
    let q = judged_room _ _ _ _ _ c.in_default.ensures _ refl c.columns.ensures.value c.in_ok-judge_sheets.ensures.refusal_value c.in_ok-judge_sheets.ensures.accepted_value refl c.if-slots-plan.true in
    record { refusal_value = q.0; accepted_value = q.1 }

pub returns : goal.returns
returns c =
    let q = judged_none _ _ _ _ _ c.in_default.ensures _ refl c.columns.ensures.value c.in_ok-judge_sheets.ensures.refusal_value c.in_ok-judge_sheets.ensures.accepted_value refl c.if-slots-plan.false in
    record { refusal_value = q.0; accepted_value = q.1 }
