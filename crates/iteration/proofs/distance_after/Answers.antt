-- `iteration::distance_after` meets its contract.
use Rattle.iteration.proofs.Moves.{spread_fits, slope_fits, own_fits, target_fits, bend_fits, curve_fits, inside_fits, change_fits, moved_fits, moved_cast, moved_result}
use borrow.Author.Rules.{rules}
use Rattle.iteration.proofs.distance_after.Goals as goal

pub overflow_sub-slope : goal.overflow_sub-slope
overflow_sub-slope c = spread_fits c.requires.k_bound c.requires.moves

pub overflow_mul-slope : goal.overflow_mul-slope
overflow_mul-slope c = slope_fits c.requires.k_bound c.requires.moves

pub overflow_cast-curve : goal.overflow_cast-curve
overflow_cast-curve c = own_fits c.requires.k_bound c.requires.moves

pub overflow_cast-curve-2 : goal.overflow_cast-curve-2
overflow_cast-curve-2 c = target_fits c.requires.k_bound c.requires.moves

pub overflow_sub-curve : goal.overflow_sub-curve
overflow_sub-curve c = bend_fits c.requires.k_bound c.requires.moves

pub overflow_mul-curve : goal.overflow_mul-curve
overflow_mul-curve c = curve_fits c.requires.k_bound c.requires.moves

pub overflow_add-result : goal.overflow_add-result
overflow_add-result c = inside_fits c.requires.k_bound c.requires.moves

pub overflow_mul-result : goal.overflow_mul-result
overflow_mul-result c = change_fits c.requires.k_bound c.requires.moves

pub overflow_add-result-2 : goal.overflow_add-result-2
overflow_add-result-2 c = moved_fits c.requires.k_bound c.requires.moves

pub overflow_cast-result-2 : goal.overflow_cast-result-2
overflow_cast-result-2 c = moved_cast c.requires.k_bound c.requires.moves

pub returns : goal.returns
returns c = moved_result c.requires.k_bound c.requires.moves
