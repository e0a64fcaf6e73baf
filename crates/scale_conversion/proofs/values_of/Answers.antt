-- `scale_conversion::values_of` meets its contract. The loop keeps `Converting`: the first i cells are converted and none of them refuses, so the cells that are left decide.
-- A turn converts one cell: a refusal ends the loop, else its value is stored.
-- It ends: the cells that are left fall by one.
use mathlib.Core.Path.{refl}
use borrow.Author.Rules.{rules}
use Rattle.std.proofs.lemmas.Result.{err_from_is_err_and}
use Rattle.refusals.proofs.Numbers.{positive}
use Rattle.scale_conversion.proofs.Converting.{converting_start, converting_more, converting_refused, converting_end}
use Rattle.scale_conversion.proofs.values_of.Goals as goal

pub loop-i-init : goal.loop-i-init
loop-i-init c = (search rules, converting_start)

pub returns-in_err-values : goal.returns-in_err-values
returns-in_err-values c =
    let p = err_from_is_err_and c.from_residual.result c.from_residual.ensures.1 in
    rw (p.1, p.2) (converting_refused c.loop-i.invariant.1 (search rules) (search rules) c.loop-i-test.true c.in_err-values.ensures (positive _))

pub loop-i-preserved : goal.loop-i-preserved
loop-i-preserved c = (search rules, converting_more c.loop-i.invariant.1 (search rules) (search rules) c.loop-i-test.true c.in_ok-values.ensures refl)

pub returns : goal.returns
returns c = converting_end c.loop-i.invariant.1 (search rules) (search rules) c.loop-i-test.false
