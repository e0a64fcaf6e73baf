-- `released_set::count` meets its contract; `Inv-loop` is what its loop keeps.
use mathlib.Core.Path.{◌≡◌, sym, ◌∙◌}
use native.Mathlib.Omega.{arith}
use borrow.Author.Rules.{rules}
use Rattle.released_set.proofs.Ranks.{counted_start, counted_used, counted_other, counted_few}
use Rattle.released_set.proofs.count.Goals as goal
use Rattle.released_set.proofs.count.Goals.{then-may_use, else-may_use}

pub loop-i-init : goal.loop-i-init
loop-i-init c = (search rules, counted_start)

pub overflow_add-n : goal.overflow_add-n
overflow_add-n c = omega (arith, counted_few c.loop-i.invariant.1)

pub loop-i-preserved : goal.loop-i-preserved
loop-i-preserved c =
    let inv = c.loop-i.invariant.1 in (
      search rules,
      elim c.if-may_use.branch [ then-may_use w ↦ rw w.n-is (counted_used inv (sym w.if-may_use.true ∙ c.may_use.ensures)) | else-may_use w ↦ rw w.n-is (counted_other inv (sym w.if-may_use.false ∙ c.may_use.ensures)) ],
    )

pub returns : goal.returns
returns c =
    let i = c.loop-i.i in
    let e : i ≡ c.args.end = omega arith in
    rw (← e) c.loop-i.invariant.1.is
