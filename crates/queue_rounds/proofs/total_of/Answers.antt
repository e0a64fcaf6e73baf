-- `queue_rounds::total_of` meets its contract.
use mathlib.Core.Path.{◌≡◌}
use native.Mathlib.Omega.{arith}
use borrow.Author.Rules.{rules}
use lib.ListN.{length}
use Rattle.queue_rounds.proofs.Sheets.{totalled_none, totalled_more, totalled_all}
use Rattle.queue_rounds.proofs.total_of.Goals as goal

pub loop-i-init : goal.loop-i-init
loop-i-init c = (omega arith, totalled_none _)

pub overflow_add-n : goal.overflow_add-n
overflow_add-n c = record { fits = omega (arith, c.loop-i.invariant.1.few, c.loop-i.invariant.0, c.requires, c.wide-n.ensures.upper_bound) }

pub loop-i-preserved : goal.loop-i-preserved
loop-i-preserved c =
    let long : length c.args.plan.lengths ≡ 16 = search rules in
    (omega arith, totalled_more c.loop-i.invariant.1 (omega (arith, long, c.loop-i-test.true, c.requires)) c.wide-n.ensures.value c.wide-n.ensures.upper_bound)

pub returns : goal.returns
returns c =
    let q = totalled_all c.loop-i.invariant.1 c.loop-i.invariant.0 c.loop-i-test.false in
    record { value = q.0; upper_bound = q.1 }
