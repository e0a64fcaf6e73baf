-- The bytes of a sheet of either edition, without front text. Definitions only.
use Rattle.std.specs.Prelude.{Bool, cond, List, [], ◌∷◌, ◌++◌, ℕ, ◌-◌, length, ℤ, pos, negsuc}
use Rattle.files.specs.Bytes.{number_bytes}
use Rattle.files.specs.Sheet.{Sheet, WSH1, WSH2}

-- the 16 bits of a value, in two's complement
unfoldable pub bits : ℤ → ℕ
bits (pos n) = n
bits (negsuc n) = 65535 - n

-- values one after the other, 2 bytes each
unfoldable pub values_bytes : List ℤ → List ℕ
values_bytes [] = []
values_bytes (x ∷ xs) = number_bytes 2 (bits x) ++ values_bytes xs

-- after a body of `back` bytes; the letters say the edition
unfoldable pub sheet_trailer : (letters : List ℕ) → (back columns steps tolerance : ℕ) → List ℕ
sheet_trailer letters back c steps tolerance = number_bytes 4 back ++ (number_bytes 2 c ++ (number_bytes 2 steps ++ (number_bytes 4 tolerance ++ letters)))

-- a sheet of the edition WSH1 that asks for this, with every factor 1
unfoldable pub sheet_bytes : Sheet → List ℕ
sheet_bytes s = values_bytes s.target ++ sheet_trailer WSH1 (length (values_bytes s.target)) (length s.target) s.steps s.tolerance

-- the body of a sheet of the edition WSH2: the target, then 1 byte a factor
unfoldable pub factored_body : Sheet → List ℕ
factored_body s = values_bytes s.target ++ s.factors

-- a sheet of the edition WSH2 that asks for this
unfoldable pub factored_bytes : Sheet → List ℕ
factored_bytes s = factored_body s ++ sheet_trailer WSH2 (length (factored_body s)) (length s.target) s.steps s.tolerance

-- WSH2 where it is to have factors, else WSH1
unfoldable pub edition_bytes : (factored : Bool) → Sheet → List ℕ
edition_bytes factored s = cond factored (factored_bytes s) (sheet_bytes s)
