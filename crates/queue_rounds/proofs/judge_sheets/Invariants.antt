-- `queue_rounds::judge_sheets` meets its contract. The loop keeps `Unrefused`: the first i sheets are accepted, and those that are left decide as all do.
-- A turn judges sheet i; a refusal ends the function.
use Prim.Native.Nat.{◌≤◌}
use Rattle.queue_rounds.specs.Plans.{plan_sheets}
use Rattle.queue_rounds.proofs.Sheets.{Unrefused}
use Rattle.queue_rounds.proofs.judge_sheets.Given as goal

abbrev pub invariant-loop-i : goal.invariant-loop-i
invariant-loop-i l = (l.i ≤ l.plan.count) × Unrefused l.columns (plan_sheets l.plan l.sheets) l.i
