-- The number of each fault of a CSV, and of a result or a value that may be none: 0 where there is no fault. Definitions only.
use Rattle.std.specs.Prelude.{ℕ, Option, None, Some, Result, Ok, Err}
use Rattle.csv_fleet_tokens.specs.declared.Fault.{Fault}
use Rattle.csv_fleet_tokens.specs.declared.Fault.TheVariants.{Long, Nameless, Columnless, Many, NoValue, NotWhole, OutOfRange, Boats, Boatless, Big, Room, Fleet, Rows, Again, NoHull, NoSteps, NoTolerance, Missing, Twice, Unknown, FleetTwice, FactorTotal, LargeTolerance, ManyValues, Stray, Open}

abbrev pub fault_number : Fault → ℕ
fault_number Long = 1
fault_number Nameless = 2
fault_number Columnless = 3
fault_number Many = 4
fault_number NoValue = 5
fault_number NotWhole = 6
fault_number OutOfRange = 7
fault_number Boats = 8
fault_number Boatless = 9
fault_number Big = 10
fault_number Room = 11
fault_number Fleet = 12
fault_number Rows = 13
fault_number Again = 14
fault_number NoHull = 15
fault_number NoSteps = 16
fault_number NoTolerance = 17
fault_number Missing = 18
fault_number Twice = 19
fault_number Unknown = 20
fault_number FleetTwice = 21
fault_number FactorTotal = 22
fault_number LargeTolerance = 23
fault_number ManyValues = 24
fault_number Stray = 260
fault_number Open = 261

abbrev pub option_number : Option Fault → ℕ
option_number None = 0
option_number (Some f) = fault_number f

abbrev pub result_number : {value : Type 0} → Result value Fault → ℕ
result_number (Ok x) = 0
result_number (Err f) = fault_number f
