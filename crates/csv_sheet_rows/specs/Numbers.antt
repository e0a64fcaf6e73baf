-- The number that stands for each kind of row. Definitions only.
use Rattle.std.specs.Prelude.{ℕ}
use Rattle.csv_sheet_rows.specs.declared.Kind.{Kind}
use Rattle.csv_sheet_rows.specs.declared.Kind.TheVariants.{Hull, Units, Factors, Steps, Tolerance, Each, Displacement, Length, Blank}

abbrev pub kind_number : Kind → ℕ
kind_number Hull = 0
kind_number Units = 1
kind_number Factors = 2
kind_number Steps = 3
kind_number Tolerance = 4
kind_number Each = 5
kind_number Displacement = 6
kind_number Length = 7
kind_number Blank = 8
