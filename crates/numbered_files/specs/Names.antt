-- The names of numbered files. Definitions only. Assumes nothing.
use Rattle.std.specs.Prelude.{List, ◌++◌, ℕ, suc}
use Rattle.text.specs.Decimal.{decimal}

-- the name of the file behind `before` others: they are counted from 1
unfoldable pub numbered_name : (word : List ℕ) → (before : ℕ) → (ending : List ℕ) → List ℕ
numbered_name word k ending = word ++ (decimal (suc k) ++ ending)

-- the most files that are counted
abbrev pub most_files : ℕ
most_files = 999
