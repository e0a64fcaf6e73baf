-- The number of a result is what is told of its reason.
use mathlib.Core.Path.{◌≡◌, refl}
use Rattle.std.specs.Prelude.{Result, Ok, Err}
use Rattle.refusals.specs.declared.Refusal.{Refusal}
use Rattle.refusals.specs.Numbers.{number, refusal_number}
use Rattle.file_parts.specs.Reasons.{told}

pub numbered : {value : Type 0} (r : Result value Refusal) → refusal_number r ≡ told number r
numbered (Ok x) = refl
numbered (Err e) = refl
