-- What the helpers of this crate ask and write. Definitions only.
use Rattle.std.specs.Prelude.{◌≡◌, true, cond, List, ◌++◌, ℕ, ◌*◌, eqb}
use Rattle.frank_wolfe.specs.Vectors.{ones}
use Rattle.files.specs.Sheet.{WSH1, WSH2, sheet, sheet_refusal_in}
use Rattle.factors.specs.Factors.{all_ones}
use Rattle.sheet_output.specs.Output.{sheet_trailer}

-- a sheet that is not refused, with every factor 1
abbrev pub Convertible : List ℕ → Type 0
Convertible s = (sheet_refusal_in 1 64 s ≡ 0) × (all_ones (sheet s).factors ≡ true)

-- what follows the target in an edition: nothing but the trailer in 1, every factor 1 and the trailer in 2
unfoldable pub ending : (edition columns steps tolerance : ℕ) → List ℕ
ending n c k t = cond (eqb n 1) (sheet_trailer WSH1 (2 * c) c k t) (ones c ++ sheet_trailer WSH2 (3 * c) c k t)
