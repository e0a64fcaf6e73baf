-- `queue_rounds::sheet_at` meets its contract.
use mathlib.Core.Path.{◌≡◌}
use native.Mathlib.Omega.{arith}
use borrow.Author.Rules.{rules}
use lib.ListN.{length}
use Rattle.queue_rounds.proofs.Sheets.{sheet_inside, sheet_here}
use Rattle.queue_rounds.proofs.sheet_at.Goals as goal

pub overflow_add-end : goal.overflow_add-end
overflow_add-end c = record { fits = omega (arith, c.total_of-start.ensures.upper_bound, c.wide.ensures.upper_bound, c.requires.i_lt_count) }

pub slice_bounds-result-end : goal.slice_bounds-result-end
slice_bounds-result-end c =
    let long : length c.args.plan.lengths ≡ 16 = search rules in
    sheet_inside _ long c.requires.i_lt_count.1 c.args.sheets.now c.requires.plan_value _ c.requires.i_lt_count.0 c.total_of-start.ensures.value c.wide.ensures.value

pub returns : goal.returns
returns c =
    let long : length c.args.plan.lengths ≡ 16 = search rules in
    sheet_here _ long c.requires.i_lt_count.1 c.args.sheets.now c.requires.plan_value _ c.requires.i_lt_count.0 c.total_of-start.ensures.value c.wide.ensures.value
