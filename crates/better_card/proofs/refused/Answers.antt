-- `better_card::refused` meets its contract.
use mathlib.Core.Path.{refl}
use Rattle.better_card_promise.specs.Choices.{no_choice}
use Rattle.better_card.proofs.refused.Goals as goal

pub returns : goal.returns
unfolding no_choice
returns c = rw c.number.ensures refl
