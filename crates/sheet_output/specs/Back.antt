-- What is written reads back: a sheet, of either edition, of what it can ask for is accepted and asks for it.
use Rattle.std.specs.Prelude.{◌≡◌, Bool, true, false, List, ℕ, ◌+◌, ◌*◌, ◌≤◌, length}
use Rattle.frank_wolfe.specs.Vectors.{ones, sum}
use Rattle.files.specs.Bytes.{all_bytes, all_in_range}
use Rattle.files.specs.Sheet.{Sheet, WSH2, sheet, sheet_columns, sheet_lettered, sheet_refusal}
use Rattle.files.specs.Limits.{step_limit}
use Rattle.sheet_output.specs.Output.{sheet_bytes, factored_bytes, edition_bytes}

-- what a sheet of the edition WSH1 can ask for: every factor is 1
pub record SheetFit (s : Sheet) : Type 0 where
  pub plain : s.factors ≡ ones (length s.target)
  pub some_columns : 1 ≤ length s.target
  pub most_columns : length s.target ≤ 64
  pub in_range : all_in_range s.target ≡ true
  pub some_steps : 1 ≤ s.steps
  pub most_steps : s.steps ≤ step_limit
  pub most_tolerance : s.tolerance ≤ 1024000000

-- t is a sheet that is not refused and asks for this
pub record SheetOf (s : Sheet) (t : List ℕ) : Type 0 where
  pub size : length t ≡ 2 * length s.target + 16
  pub most_bytes : length t ≤ 144
  pub columns_back : sheet_columns t ≡ length s.target
  pub sheet_back : sheet t ≡ s
  pub accepted : sheet_refusal (length s.target) t ≡ 0

unfoldable pub SheetReadsBack : Type 0
SheetReadsBack = (s : Sheet) → SheetFit s → SheetOf s (sheet_bytes s)

-- what a sheet of the edition WSH2 can ask for: a factor a column, of total 1 to 64
pub record FactoredFit (s : Sheet) : Type 0 where
  pub each_column : length s.factors ≡ length s.target
  pub some_columns : 1 ≤ length s.target
  pub most_columns : length s.target ≤ 64
  pub in_range : all_in_range s.target ≡ true
  pub some_factor : 1 ≤ sum s.factors
  pub few_factors : sum s.factors ≤ 64
  pub some_steps : 1 ≤ s.steps
  pub most_steps : s.steps ≤ step_limit
  pub most_tolerance : s.tolerance ≤ 1024000000

-- t is a sheet with factors that is not refused and asks for this
pub record FactoredOf (s : Sheet) (t : List ℕ) : Type 0 where
  pub each_byte : all_bytes t ≡ true
  pub size : length t ≡ 3 * length s.target + 16
  pub most_bytes : length t ≤ 208
  pub columns_back : sheet_columns t ≡ length s.target
  pub sheet_back : sheet t ≡ s
  pub accepted : sheet_refusal (length s.target) t ≡ 0

unfoldable pub FactoredReadsBack : Type 0
FactoredReadsBack = (s : Sheet) → FactoredFit s → FactoredOf s (factored_bytes s)

-- t is a sheet, with factors or without as is asked, that is not refused and asks for s
pub record EditionOf (factored : Bool) (s : Sheet) (t : List ℕ) : Type 0 where
  pub edition : sheet_lettered WSH2 t ≡ factored
  pub most_bytes : length t ≤ 208
  pub columns_back : sheet_columns t ≡ length s.target
  pub sheet_back : sheet t ≡ s
  pub accepted : sheet_refusal (length s.target) t ≡ 0

-- without factors every factor must be 1
unfoldable pub EditionReadsBack : Type 0
EditionReadsBack = (factored : Bool) (s : Sheet) → FactoredFit s → (factored ≡ false → s.factors ≡ ones (length s.target)) → EditionOf factored s (edition_bytes factored s)
