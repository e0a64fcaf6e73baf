-- The marked problems come out as their table says: each run and its moves are computed.
use mathlib.Core.Path.{refl}
use Rattle.files.specs.Bytes.{between}
use Rattle.frank_wolfe.specs.Vectors.{add, subtract, scale, weighted, weighted_norm, sum, combination}
use Rattle.method.specs.Problem.{share, weight}
use Rattle.method.specs.Minimum.{minimum_from, minimum}
use Rattle.method.specs.Iterates.{start, residual, row, direction, scores, argmin_from, argmin, active_from, active_argmin, pick, with_shares, step, iterate, distance, gaps, maximum_from, maximum, signed_gap, natural, gap}
use Rattle.method.specs.Answers.{is_beyond, verdict, stops, answer_at, steps_from, steps_used, run_iterate, run_answer}
use Rattle.pairwise.specs.Moves.{nearest_down, shares_residual, shares_scores, better, foremost, giver, taker, slope, apart, amount_of, amount, exchange, moved, moves, moves_made, spent_refusal, worked_shares, worked_answer}
use Rattle.pairwise.specs.Marked.{marked_moves, worked_out, AllMarked, marked_refusals, refused_by, AllRefused}

pub all_marked : AllMarked
unfolding add subtract scale weighted weighted_norm sum combination
    share weight start residual row direction scores argmin_from argmin minimum_from minimum active_from active_argmin pick with_shares step iterate distance gaps maximum_from maximum signed_gap natural gap
    is_beyond verdict stops answer_at steps_from steps_used run_iterate run_answer
    nearest_down shares_residual shares_scores better foremost giver taker slope apart amount_of amount exchange moved moves moves_made worked_shares worked_answer marked_moves worked_out AllMarked
all_marked = refl

pub all_refused : AllRefused
unfolding between spent_refusal marked_refusals refused_by AllRefused
all_refused = refl
