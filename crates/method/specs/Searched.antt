-- What a search or a card check comes to: the number that refuses its input, or the answer. Definitions only.
use Rattle.std.specs.Prelude.{ℕ, Result, Ok, Err}
use Rattle.refusals.specs.declared.Refusal.{Refusal}
use Rattle.refusals.specs.Numbers.{number}
use Rattle.method.specs.declared.Answer.{Answer}

pub data Searched : Type 0 where
  Refused : (number : ℕ) → Searched
  Answered : Answer → Searched

-- what the code gives back for it
abbrev pub searched : Result Answer Refusal → Searched
searched (Ok a) = Answered a
searched (Err r) = Refused (number r)

-- the same where any number may refuse
abbrev pub searched_by : Result Answer ℕ → Searched
searched_by (Ok a) = Answered a
searched_by (Err n) = Refused n
