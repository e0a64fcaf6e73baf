-- What a test gives back as a number, whatever its reasons are. Definitions only.
use Rattle.std.specs.Prelude.{ℕ, Result, Ok, Err}

-- the number that is said of a reason, 0 where there is none
abbrev pub told : {value reason : Type 0} → (said : reason → ℕ) → Result value reason → ℕ
told said (Ok x) = 0
told said (Err r) = said r
