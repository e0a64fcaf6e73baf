-- Numbers that stand for no fault. Definitions only.
use Rattle.std.specs.Prelude.{◌≡◌, ℕ}
use Rattle.csv_fleet_tokens.specs.declared.Fault.{Fault}
use Rattle.csv_fleet_tokens.specs.Faults.{fault_number}

-- no fault has this number
abbrev pub NoFault : (number : ℕ) → Type 0
NoFault n = (f : Fault) → fault_number f ≡ n → ⊥
