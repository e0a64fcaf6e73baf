-- `iteration::State::next` meets its contract.
use mathlib.Core.Path.{◌∙◌}
use mir.Syntax.{w64}
use mir.Facts.{to_z-of_z}
use Rattle.iteration.proofs.Moves.{target_fits, step_fits, target_moved_fits, target_moved_read, moved_kept, next_is}
use borrow.Author.Rules.{rules}
use Rattle.iteration.proofs.State.next.Goals as goal

pub overflow_cast-result-2 : goal.overflow_cast-result-2
overflow_cast-result-2 c = target_fits (search rules) c.requires.steppable.moves

pub overflow_mul-result : goal.overflow_mul-result
overflow_mul-result c = step_fits (search rules) c.requires.steppable.moves

pub overflow_add-result-3 : goal.overflow_add-result-3
overflow_add-result-3 c = target_moved_fits (search rules) c.requires.steppable.moves

pub returns : goal.returns
returns c = next_is c.args.self c.requires.steppable c.args.pick (c.distance_after-distance.ensures ∙ moved_kept (search rules) c.requires.steppable.moves) (target_moved_read (search rules) c.requires.steppable.moves) (to_z-of_z {w = w64} (search rules))
