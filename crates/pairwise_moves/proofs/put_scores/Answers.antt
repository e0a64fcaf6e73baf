-- `pairwise_moves::put_scores` meets its contract. The loop keeps `Stored`: the scores of the first i rows are in the first i slots, and `row` is where row i starts.
-- A turn stores the score of row i.
-- It ends: the boats that are left fall by one.
use borrow.Author.Rules.{sfits_of}
use lib.Seq.{length-take-le}
use native.Mathlib.Omega.{arith}
use mir.Facts.{to_z-of_z}
use Rattle.scoring.proofs.Passes.{row_span, stored_start, stored_more, stored_end, stored_long}
use mir.Syntax.{w64}
use Rattle.pairwise_moves.proofs.put_scores.Goals as goal

pub loop-i-init : goal.loop-i-init
loop-i-init c = stored_start c.requires.grid (length-take-le _ _ c.requires.bounded.long)

pub inner_at-requires : goal.inner_at-requires
inner_at-requires c = record { span = row_span c.requires.grid c.loop-i-test.true c.loop-i.invariant.place; bounded = c.requires.bounded }

pub bounds-to-i : goal.bounds-to-i
bounds-to-i c = omega (arith, c.loop-i-test.true, stored_long c.requires.grid c.loop-i.invariant c.requires.boats_in_bounds, c.requires.boats_in_bounds)

pub overflow_add-row : goal.overflow_add-row
overflow_add-row c = omega (arith, row_span c.requires.grid c.loop-i-test.true c.loop-i.invariant.place)

pub loop-i-preserved : goal.loop-i-preserved
loop-i-preserved c = stored_more c.requires.grid c.loop-i.invariant c.requires.boats_in_bounds c.loop-i-test.true c.inner_at.ensures (to_z-of_z {w = w64} (sfits_of c.inner_at.type_inv))

pub shape_of-to : goal.shape_of-to
shape_of-to c = stored_long c.requires.grid c.loop-i.invariant c.requires.boats_in_bounds

pub returns : goal.returns
returns c = stored_end c.requires.grid c.loop-i.invariant c.loop-i-test.false
