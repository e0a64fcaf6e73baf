-- `released_set::gather` meets its contract. The loop keeps `Gathering`: the shares of the boats before i that may be used are in the first `next` slots, the later slots are 0.
-- A turn takes the share of boat i where the boat may be used.
-- It ends: the boats that are left fall by one.
use mathlib.Core.Path.{◌≡◌, sym, ◌∙◌}
use lib.ListN.{length}
use native.Mathlib.Omega.{arith}
use borrow.Author.Rules.{rules}
use Rattle.released_set.proofs.Ranks.{counted_few, gathering_start, gathering_used, gathering_other, gathering_end}
use Rattle.released_set.proofs.gather.Goals as goal
use Rattle.released_set.proofs.gather.Goals.{then-may_use, else-may_use}

pub loop-i-init : goal.loop-i-init
loop-i-init c = (search rules, gathering_start _ _ _ c.requires (search rules))

pub offset_bounds-own-next : goal.offset_bounds-own-next
offset_bounds-own-next c = omega (arith, counted_few c.loop-i.invariant.1.counted)

pub bounds-own-next : goal.bounds-own-next
bounds-own-next c = omega (arith, counted_few c.loop-i.invariant.1.counted)

pub overflow_add-next : goal.overflow_add-next
overflow_add-next c = omega (arith, counted_few c.loop-i.invariant.1.counted)

pub loop-i-preserved : goal.loop-i-preserved
loop-i-preserved c =
    let l : length c.args.shares ≡ 256 = search rules in
    let inv = c.loop-i.invariant.1 in (
      search rules,
      elim c.if-may_use.branch [ then-may_use w ↦ rw (w.own-is, w.next-is) (gathering_used _ _ _ c.requires l inv c.loop-i-test.true (sym w.if-may_use.true ∙ c.may_use.ensures)) | else-may_use w ↦ rw (w.own-is, w.next-is) (gathering_other _ _ _ c.requires l inv (sym w.if-may_use.false ∙ c.may_use.ensures)) ],
    )

pub returns : goal.returns
returns c =
    let l : length c.args.shares ≡ 256 = search rules in
    gathering_end _ _ _ c.requires l c.loop-i.invariant.1 (omega arith)
