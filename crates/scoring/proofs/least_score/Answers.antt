-- `scoring::least_score` meets its contract. The loop keeps `Passed`: row i starts at p, and the least score of the boats before i and its boat are known.
-- A turn makes the score of boat i and keeps it where it is below the least so far.
-- It ends: the boats that are left fall by one.
use borrow.Author.Rules.{sfits_of}
use mathlib.Core.Path.{refl}
use mir.Syntax.{w64}
use mir.Facts.{to_z-of_z}
use lib.Seq.{length-take-le}
use native.Mathlib.Omega.{arith}
use Rattle.scoring.proofs.Passes.{first_place, row_span, passed_start, passed_better, passed_same, passed_end}
use Rattle.scoring.proofs.least_score.Goals.{then-s-score, else-s-score}
use Rattle.scoring.proofs.least_score.Goals as goal

pub inner_at-score-requires : goal.inner_at-score-requires
inner_at-score-requires c = record { span = row_span c.requires.grid c.requires.grid.some_boats (first_place c.requires.grid); bounded = c.requires.bounded }

pub overflow_add-p : goal.overflow_add-p
overflow_add-p c = omega (arith, row_span c.requires.grid c.requires.grid.some_boats (first_place c.requires.grid))

pub loop-i-init : goal.loop-i-init
loop-i-init c = passed_start c.requires.grid (length-take-le _ _ c.requires.bounded.long) c.inner_at-score.ensures (to_z-of_z {w = w64} {z = c.inner_at-score.result} (sfits_of c.inner_at-score.type_inv))

pub inner_at-s-requires : goal.inner_at-s-requires
inner_at-s-requires c = record { span = row_span c.requires.grid c.loop-i-test.true c.loop-i.invariant.place; bounded = c.requires.bounded }

pub overflow_add-p-in-loop-i : goal.overflow_add-p-in-loop-i
overflow_add-p-in-loop-i c = omega (arith, row_span c.requires.grid c.loop-i-test.true c.loop-i.invariant.place)

pub loop-i-preserved : goal.loop-i-preserved
loop-i-preserved c =
    let g = c.requires.grid in
    let d = c.loop-i.invariant in
    let h = c.loop-i-test.true in
    let f = to_z-of_z {w = w64} {z = c.inner_at-s.result} (sfits_of c.inner_at-s.type_inv) in
    elim c.if-s-score.branch [
      | then-s-score w ↦ rw (w.boat-is, w.score-is) (passed_better g d h c.inner_at-s.ensures f (rw f at w.if-s-score.true))
      | else-s-score w ↦ rw (w.boat-is, w.score-is) (passed_same g d h c.inner_at-s.ensures (rw f at w.if-s-score.false))
    ]

pub returns : goal.returns
returns c = passed_end c.requires.grid c.loop-i.invariant c.loop-i-test.false refl
