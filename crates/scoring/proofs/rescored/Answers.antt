-- `scoring::rescored` meets its contract. The loop keeps `Rescored`: the first i scores are moved by k times their products, and the least of these and its boat are known.
-- A turn moves score i and keeps it where it is below the least so far.
-- It ends: the boats that are left fall by one.
use mir.Syntax.{w64}
use mir.Facts.{to_z-of_z}
use borrow.Author.Rules.{rules, sfits_of}
use native.Mathlib.Omega.{arith}
use Rattle.scoring.proofs.Rescores.{rescored_long, sized_at, read_sized, read_moved, rescored_start, rescored_better, rescored_same, rescored_end}
use Rattle.scoring.proofs.rescored.Goals.{then-score-least, else-score-least}
use Rattle.scoring.proofs.rescored.Goals as goal

pub moved_score-least-requires : goal.moved_score-least-requires
moved_score-least-requires c = read_sized (c.requires.each 0 c.requires.some_boats)

pub loop-i-init : goal.loop-i-init
loop-i-init c = rescored_start c.requires (read_moved (c.requires.each 0 c.requires.some_boats) c.moved_score-least.ensures) (to_z-of_z {w = w64} {z = c.moved_score-least.result} (sfits_of c.moved_score-least.type_inv))

pub slice_copy_out-moved_score-in-loop-i : goal.slice_copy_out-moved_score-in-loop-i
slice_copy_out-moved_score-in-loop-i c = omega (arith, c.loop-i-test.true, rescored_long c.requires c.loop-i.invariant, c.requires.in_scores)

pub bounds-products-i : goal.bounds-products-i
bounds-products-i c = omega (arith, c.loop-i-test.true, c.requires.in_products)

pub moved_score-score-requires : goal.moved_score-score-requires
moved_score-score-requires c = read_sized (sized_at c.requires c.loop-i.invariant.0 c.loop-i-test.true)

pub bounds-scores-i : goal.bounds-scores-i
bounds-scores-i c = omega (arith, c.loop-i-test.true, rescored_long c.requires c.loop-i.invariant, c.requires.in_scores)

pub loop-i-preserved : goal.loop-i-preserved
loop-i-preserved c =
    let d = c.loop-i.invariant in
    let h = c.loop-i-test.true in
    let e = read_moved (sized_at c.requires d.0 h) c.moved_score-score.ensures in
    let f = to_z-of_z {w = w64} {z = c.moved_score-score.result} (sfits_of c.moved_score-score.type_inv) in
    elim c.if-score-least.branch [
      | then-score-least w ↦ rw (w.boat-is, w.least-is) (rescored_better c.requires d h e f f (rw f at w.if-score-least.true))
      | else-score-least w ↦ rw (w.boat-is, w.least-is) (rescored_same c.requires d h e f (rw f at w.if-score-least.false))
    ]

pub shape_of-scores : goal.shape_of-scores
shape_of-scores c = search (rules, rescored_long c.requires c.loop-i.invariant)

pub returns : goal.returns
returns c =
    let q = rescored_end c.requires c.loop-i.invariant c.loop-i-test.false in
    record { value = q.0; scores_after = q.1 }
