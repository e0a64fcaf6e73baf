-- `test_samples::put_target` meets its contract.
use mathlib.Core.Path.{◌≡◌}
use mathlib.Core.Bool.{cond}
use borrow.Author.Tests.{eq-eqb, ne_eqb}
use lib.Dec.{eqb}
use Rattle.test_samples.specs.Draws.{advances}
use Rattle.test_samples.proofs.put_target.Goals as goal
use Rattle.test_samples.proofs.put_target.Goals.{then-kind-eq1, else-kind-eq1}

pub returns-then-kind-eq0 : goal.returns-then-kind-eq0
unfolding advances
returns-then-kind-eq0 c =
    rw
    (← c.draw-kind.ensures.value, eq-eqb _ _ c.if-kind-eq0.true)
    record { puts = rw (c.draw_row-b.ensures.seed_after, c.draw_row-a.ensures.seed_after, c.draw-kind.ensures.seed_after) at c.put_row.ensures.puts; seed_after = rw (c.draw_row-b.ensures.seed_after, c.draw_row-a.ensures.seed_after, c.draw-kind.ensures.seed_after) at c.put_row.ensures.seed_after }

pub returns-then-kind-eq3 : goal.returns-then-kind-eq3
unfolding advances
returns-then-kind-eq3 c =
    rw
    (← c.draw-kind.ensures.value, ne_eqb _ _ c.if-kind-eq0.false, eq-eqb _ _ c.if-kind-eq3.true)
    record { puts = rw (c.draw_row-b.ensures.seed_after, c.draw_row-a.ensures.seed_after, c.draw-kind.ensures.seed_after) at c.put_row-then-kind-eq3.ensures.puts; seed_after = rw (c.draw_row-b.ensures.seed_after, c.draw_row-a.ensures.seed_after, c.draw-kind.ensures.seed_after) at c.put_row-then-kind-eq3.ensures.seed_after }

pub returns : goal.returns
unfolding advances
returns c =
    let other : c.if-kind-eq1.other ≡ cond (eqb c.draw-kind.result 1) c.draw_row-a.result c.draw_row-b.result =
    elim c.if-kind-eq1.branch [ then-kind-eq1 p ↦ rw (eq-eqb _ _ p.if-kind-eq1.true) p.other-is | else-kind-eq1 p ↦ rw (ne_eqb _ _ p.if-kind-eq1.false) p.other-is ] in
    rw
    (← c.draw-kind.ensures.value, ne_eqb _ _ c.if-kind-eq0.false, ne_eqb _ _ c.if-kind-eq3.false)
    record {
      puts = rw (other, c.draw_row-a.ensures.value, c.draw_row-b.ensures.value, c.draw_row-a.ensures.seed_after, c.draw-kind.ensures.seed_after) at c.put_middle.ensures;
      seed_after = rw (c.draw_row-b.ensures.seed_after, c.draw_row-a.ensures.seed_after, c.draw-kind.ensures.seed_after);
    }
