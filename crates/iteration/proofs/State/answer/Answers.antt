-- `iteration::State::answer` meets its contract.
use mathlib.Core.Path.{◌∙◌}
use Rattle.iteration.proofs.Measuring.{target_score_kept, least_kept}
use borrow.Author.Rules.{rules}
use Rattle.iteration.proofs.State.answer.Goals as goal

pub returns : goal.returns
returns c = c.answered.ensures ∙ rw (target_score_kept c.requires, least_kept c.requires)
