-- The number of each reason why a call is refused, and of a result: 0 where it is no refusal. Definitions only.
use Rattle.std.specs.Prelude.{ℕ, Result, Ok, Err}
use Rattle.refusals.specs.declared.Refusal.{Refusal}
use Rattle.refusals.specs.declared.Refusal.TheVariants.{BookLength, BookLetters, BookBoats, BookColumns, BookBack, BookValue, SheetLength, SheetLetters, SheetColumns, SheetSteps, SheetTolerance, SheetBack, SheetValue, ShareSlots, CardRoom, CardLength, CardLetters, CardCounts, CardVerdict, CardBack, CardBoats, CardShares, CardDistance, CardTolerance, CellUnweighed, CellReading, CellUnit, QueueSheets, QueueAllowance, SheetFactors, EditionFactors, EditionRoom, TableLength, TableShare, TableTotal, ReleasedBoats, VerdictNotSpent, MovesAllowed, MergedColumns, MergedBoats, MergedRoom, ReportCards}

abbrev pub number : Refusal → ℕ
number BookLength = 1
number BookLetters = 2
number BookBoats = 3
number BookColumns = 4
number BookBack = 5
number BookValue = 6
number SheetLength = 11
number SheetLetters = 12
number SheetColumns = 13
number SheetSteps = 14
number SheetTolerance = 15
number SheetBack = 16
number SheetValue = 17
number ShareSlots = 21
number CardRoom = 22
number CardLength = 31
number CardLetters = 32
number CardCounts = 33
number CardVerdict = 34
number CardBack = 35
number CardBoats = 36
number CardShares = 37
number CardDistance = 38
number CardTolerance = 39
number CellUnweighed = 41
number CellReading = 42
number CellUnit = 43
number QueueSheets = 44
number QueueAllowance = 45
number SheetFactors = 46
number EditionFactors = 47
number EditionRoom = 48
number TableLength = 49
number TableShare = 50
number TableTotal = 51
number ReleasedBoats = 52
number VerdictNotSpent = 53
number MovesAllowed = 54
number MergedColumns = 55
number MergedBoats = 56
number MergedRoom = 57
number ReportCards = 58

-- of a result: that of its reason, 0 where there is none
abbrev pub refusal_number : {value : Type 0} → Result value Refusal → ℕ
refusal_number (Ok x) = 0
refusal_number (Err r) = number r
