-- `queue_rounds::judge_sheets` meets its contract. The loop keeps `Unrefused`: the first i sheets are accepted, and those that are left decide as all do.
-- A turn judges sheet i; a refusal ends the function.
use mathlib.Core.Path.{◌≡◌, refl, ◌∙◌}
use native.Mathlib.Omega.{arith}
use borrow.Author.Rules.{rules}
use lib.ListN.{length}
use Rattle.refusals.proofs.Numbers.{positive}
use Rattle.queue_rounds.proofs.Sheets.{sheet_count, unrefused_none, unrefused_more, refused_here, unrefused_all}
use Rattle.queue_rounds.proofs.judge_sheets.Goals as goal

pub loop-i-init : goal.loop-i-init
loop-i-init c = (omega arith, unrefused_none)

pub sheet_at-requires : goal.sheet_at-requires
sheet_at-requires c = record { i_lt_count = (c.loop-i-test.true, c.requires.count_bound); plan_value = c.requires.plan_value }

pub returns-in-Err : goal.returns-in-Err
returns-in-Err c =
    let long : length c.args.plan.lengths ≡ 16 = search rules in
    let n = sheet_count c.args.plan long c.requires.count_bound c.args.sheets.now in
    let q = refused_here c.loop-i.invariant.1 (omega (arith, n, c.loop-i-test.true)) (c.in-Err.ensures ∙ rw c.sheet_at.ensures) (positive _) in
    record { refusal_value = q.0; accepted_value = q.1 }

pub loop-i-preserved : goal.loop-i-preserved
loop-i-preserved c =
    let long : length c.args.plan.lengths ≡ 16 = search rules in
    let n = sheet_count c.args.plan long c.requires.count_bound c.args.sheets.now in
    (omega arith, unrefused_more c.loop-i.invariant.1 (omega (arith, n, c.loop-i-test.true)) (c.in_default.ensures ∙ rw c.sheet_at.ensures) refl)

pub returns : goal.returns
returns c =
    let long : length c.args.plan.lengths ≡ 16 = search rules in
    let q = unrefused_all c.loop-i.invariant.1 (sheet_count c.args.plan long c.requires.count_bound c.args.sheets.now) c.loop-i-test.false c.loop-i.invariant.0 in
    record { refusal_value = q.0; accepted_value = omega (arith, q.1, c.loop-i-test.false, c.loop-i.invariant.0) }
