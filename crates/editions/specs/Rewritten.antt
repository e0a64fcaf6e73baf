-- What a conversion comes to: the number that refuses it, or the edition that was written and how many bytes. Definitions only.
use Rattle.std.specs.Prelude.{ℕ, Result, Ok, Err}
use Rattle.refusals.specs.declared.Refusal.{Refusal}
use Rattle.refusals.specs.Numbers.{number}
use Rattle.editions.specs.declared.Edition.{Edition}

pub data Rewritten : Type 0 where
  Refused : (number : ℕ) → Rewritten
  Wrote : (edition size : ℕ) → Rewritten

-- what the code gives back for it
abbrev pub rewritten : Result Edition Refusal → Rewritten
rewritten (Ok e) = Wrote e.number e.size
rewritten (Err r) = Refused (number r)

-- the same where any number may refuse
abbrev pub rewritten_by : Result Edition ℕ → Rewritten
rewritten_by (Ok e) = Wrote e.number e.size
rewritten_by (Err n) = Refused n
