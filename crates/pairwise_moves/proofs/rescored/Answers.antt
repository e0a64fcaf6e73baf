-- `pairwise_moves::rescored` meets its contract. The loop keeps `Walking`: boat i is in slot j of the list, the boats before it are passed,
-- their scores moved where they hold shares, and the greatest and the least of these are known with their boats.
-- A turn passes boat i and the boats up to the next of the list, which hold none. It ends: the boats that are left fall.
use borrow.Author.Rules.{rules, sfits_of}
use mathlib.Core.Path.{◌∙◌}
use native.Mathlib.Omega.{arith}
use mir.Syntax.{w64}
use mir.Facts.{to_z-of_z}
use Rattle.scoring.proofs.Rescores.{read_sized, read_moved}
use Rattle.pairwise_moves.proofs.Rescoring.{passing_long, passing_idle, score_sized, passing_moved, walking_start, list_starts, list_goes_on, walking_later, walking_most, walking_next, walking_end}
use Rattle.pairwise_moves.proofs.rescored.Goals.{then-shares-i-ne0, else-shares-i-ne0}
use Rattle.pairwise_moves.proofs.rescored.Goals as goal

pub bounds-list-0 : goal.bounds-list-0
bounds-list-0 c = list_starts c.requires.movable_scores c.requires.listed

pub loop-i-init : goal.loop-i-init
loop-i-init c = walking_start c.requires.movable_scores c.requires.listed

pub bounds-shares-i : goal.bounds-shares-i
bounds-shares-i c = omega (arith, c.loop-i-test.true, c.requires.movable_scores.in_shares)

pub above-product-requires : goal.above-product-requires
above-product-requires c = c.requires.movable_scores.products _ c.loop-i-test.true

pub slice_copy_out-moved_score : goal.slice_copy_out-moved_score
slice_copy_out-moved_score c = omega (arith, c.loop-i-test.true, passing_long c.requires.movable_scores c.loop-i.invariant.passing, c.requires.movable_scores.score_sizes.long)

pub moved_score-score-requires : goal.moved_score-score-requires
moved_score-score-requires c = read_sized (score_sized c.requires.movable_scores c.loop-i.invariant.passing c.loop-i-test.true c.above-product.ensures)

pub bounds-scores-i : goal.bounds-scores-i
bounds-scores-i c = omega (arith, c.loop-i-test.true, passing_long c.requires.movable_scores c.loop-i.invariant.passing, c.requires.movable_scores.score_sizes.long)

pub higher-most-requires : goal.higher-most-requires
higher-most-requires c = tt

pub lower-least-requires : goal.lower-least-requires
lower-least-requires c = tt

pub overflow_add-j : goal.overflow_add-j
overflow_add-j c = search (rules, list_goes_on c.requires.movable_scores c.loop-i.invariant c.loop-i-test.true)

pub offset_bounds-list-j : goal.offset_bounds-list-j
offset_bounds-list-j c = search (rules, list_goes_on c.requires.movable_scores c.loop-i.invariant c.loop-i-test.true)

pub bounds-list-j : goal.bounds-list-j
bounds-list-j c = list_goes_on c.requires.movable_scores c.loop-i.invariant c.loop-i-test.true

pub loop-i-smaller : goal.loop-i-smaller
loop-i-smaller c = omega (arith, walking_later c.requires.movable_scores c.loop-i.invariant c.loop-i-test.true, walking_most c.requires.movable_scores c.loop-i.invariant c.loop-i-test.true)

pub loop-i-preserved : goal.loop-i-preserved
loop-i-preserved c =
    let d = c.loop-i.invariant in
    let h = c.loop-i-test.true in
    elim c.if-shares-i-ne0.branch [
      | then-shares-i-ne0 w ↦ walking_next c.requires.movable_scores d h (passing_moved c.requires.movable_scores d.passing h w.if-shares-i-ne0.true w.above-product.ensures
          (read_moved (score_sized c.requires.movable_scores d.passing h w.above-product.ensures) w.moved_score-score.ensures) (to_z-of_z {w = w64} {z = w.moved_score-score.result} (sfits_of w.moved_score-score.type_inv)) w.scores-is
          (w.most-is ∙ w.higher-most.ensures) (w.least-is ∙ w.lower-least.ensures))
      | else-shares-i-ne0 w ↦ rw (w.scores-is, w.most-is, w.least-is) (walking_next c.requires.movable_scores d h (passing_idle c.requires.movable_scores d.passing h w.if-shares-i-ne0.false))
    ]

pub shape_of-scores : goal.shape_of-scores
shape_of-scores c = passing_long c.requires.movable_scores c.loop-i.invariant.passing

pub returns : goal.returns
returns c =
    let q = walking_end c.requires.movable_scores c.loop-i.invariant c.loop-i-test.false in
    record { scores_after = q.0; value = q.1 }
