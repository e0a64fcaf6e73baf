-- `released_set::scatter` meets its contract. The loop keeps `Scattering`: the first i slots are given out, and `next` of the boats before i may be used.
-- A turn gives slot i the next share where the boat may be used, else 0.
-- It ends: the boats that are left fall by one.
use mathlib.Core.Path.{sym, ◌∙◌}
use native.Mathlib.Omega.{arith}
use borrow.Author.Rules.{rules}
use Rattle.released_set.proofs.Ranks.{counted_used, counted_other, counted_few, scattering_start, scattering_long, scattering_more, scattering_end}
use Rattle.released_set.proofs.scatter.Goals as goal
use Rattle.released_set.proofs.scatter.Goals.{then-used, else-used}

pub loop-i-init : goal.loop-i-init
loop-i-init c = (search rules, scattering_start)

pub share_of-requires : goal.share_of-requires
share_of-requires c = omega (arith, counted_few c.loop-i.invariant.1.counted, c.loop-i-test.true, c.requires.boats_in_bounds.0)

pub bounds-slots-i : goal.bounds-slots-i
bounds-slots-i c = omega (arith, scattering_long c.loop-i.invariant.1 c.requires.boats_in_bounds.1, c.loop-i-test.true, c.requires.boats_in_bounds.1)

pub overflow_add-next : goal.overflow_add-next
overflow_add-next c = omega (arith, counted_few c.loop-i.invariant.1.counted)

pub loop-i-preserved : goal.loop-i-preserved
loop-i-preserved c =
    let inv = c.loop-i.invariant.1 in
    let more = scattering_more inv c.requires.boats_in_bounds.1 c.loop-i-test.true c.may_use-used.ensures c.share_of.ensures in (
      search rules,
      more (elim c.if-used.branch [ then-used w ↦ rw w.next-is (counted_used inv.counted (sym w.if-used.true ∙ c.may_use-used.ensures)) | else-used w ↦ rw w.next-is (counted_other inv.counted (sym w.if-used.false ∙ c.may_use-used.ensures)) ]),
    )

pub shape_of-slots : goal.shape_of-slots
shape_of-slots c = scattering_long c.loop-i.invariant.1 c.requires.boats_in_bounds.1

pub returns : goal.returns
returns c = scattering_end c.loop-i.invariant.1 c.requires.boats_in_bounds.1 c.loop-i-test.false
