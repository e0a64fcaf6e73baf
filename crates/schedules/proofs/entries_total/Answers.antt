-- `schedules::entries_total` meets its contract. The loop keeps `Totalling`: `total` is the sum of the first i entries, each below 65,536.
-- A turn adds entry i.
-- It ends: the entries that are left fall by one.
use mathlib.Core.Path.{◌≡◌}
use native.Mathlib.Omega.{arith}
use Rattle.schedules.proofs.Tables.{totalling_start, totalling_more}
use borrow.Author.Rules.{rules}
use Rattle.schedules.proofs.entries_total.Goals as goal

pub loop-i-init : goal.loop-i-init
loop-i-init c = (search rules, totalling_start)

pub overflow_add-total : goal.overflow_add-total
overflow_add-total c = omega (arith, c.loop-i.invariant.1.most, c.wide-total.ensures.1)

pub loop-i-preserved : goal.loop-i-preserved
loop-i-preserved c = (search rules, totalling_more c.loop-i.invariant.1 c.wide-total.ensures.0 c.wide-total.ensures.1)

pub returns : goal.returns
returns c = let e : c.loop-i.i ≡ c.args.count = omega (arith, c.loop-i.invariant.0, c.loop-i-test.false) in rw (← e) c.loop-i.invariant.1.is
