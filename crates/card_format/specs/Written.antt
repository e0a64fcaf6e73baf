-- What the card writer comes to: the number that refuses its input, or the run's answer and how many bytes were written. Definitions only.
use Rattle.std.specs.Prelude.{ℕ, Result, Ok, Err}
use Rattle.refusals.specs.declared.Refusal.{Refusal}
use Rattle.refusals.specs.Numbers.{number}
use Rattle.method.specs.declared.Answer.{Answer}
use Rattle.card_format.specs.declared.FiledCard.{FiledCard}

pub data Written : Type 0 where
  Refused : (number : ℕ) → Written
  Filed : Answer → (size : ℕ) → Written

-- what the code gives back for it
abbrev pub written : Result FiledCard Refusal → Written
written (Ok f) = Filed f.answer f.size
written (Err r) = Refused (number r)

-- the same where any number may refuse
abbrev pub written_by : Result FiledCard ℕ → Written
written_by (Ok f) = Filed f.answer f.size
written_by (Err n) = Refused n
