-- The limits of files and of numbers, by name. Definitions only. Assumes nothing.
use Rattle.std.specs.Prelude.{ℕ}

-- bytes of a file
abbrev pub file_limit : ℕ
file_limit = 40000

-- steps of a sheet
abbrev pub step_limit : ℕ
step_limit = 360

-- the total of the shares after so many steps: 360 × 361 / 2
abbrev pub total_limit : ℕ
total_limit = 64980

-- an entry of a residual, in absolute value: 4,000 times the total, rounded up
abbrev pub entry_limit : ℕ
entry_limit = 260000000

-- E, G and tolerance × W² are below it: 2^62
abbrev pub sum_limit : ℕ
sum_limit = 4611686018427387904
