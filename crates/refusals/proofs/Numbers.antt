-- No reason has the number 0, which stands for no refusal.
use mathlib.Core.Path.{◌≡◌, ap, ◌∙◌}
use native.Mathlib.Omega.{arith}
use Prim.Native.Nat.{ℕ, zero}
use Rattle.refusals.specs.declared.Refusal.{Refusal}
use Rattle.refusals.specs.declared.Refusal.TheVariants.{BookLength, BookLetters, BookBoats, BookColumns, BookBack, BookValue, SheetLength, SheetLetters, SheetColumns, SheetSteps, SheetTolerance, SheetBack, SheetValue, ShareSlots, CardRoom, CardLength, CardLetters, CardCounts, CardVerdict, CardBack, CardBoats, CardShares, CardDistance, CardTolerance, CellUnweighed, CellReading, CellUnit, QueueSheets, QueueAllowance, SheetFactors, EditionFactors, EditionRoom, TableLength, TableShare, TableTotal, ReleasedBoats, VerdictNotSpent, MovesAllowed, MergedColumns, MergedBoats, MergedRoom, ReportCards}
use Rattle.std.specs.Prelude.{Result, Ok, Err}
use Rattle.std.specs.Result.{IsErr, IsErrAnd}
use Rattle.refusals.specs.Numbers.{number, refusal_number}

pub positive : (r : Refusal) → number r ≡ 0 → ⊥
positive BookLength e = omega (arith, e)
positive BookLetters e = omega (arith, e)
positive BookBoats e = omega (arith, e)
positive BookColumns e = omega (arith, e)
positive BookBack e = omega (arith, e)
positive BookValue e = omega (arith, e)
positive SheetLength e = omega (arith, e)
positive SheetLetters e = omega (arith, e)
positive SheetColumns e = omega (arith, e)
positive SheetSteps e = omega (arith, e)
positive SheetTolerance e = omega (arith, e)
positive SheetBack e = omega (arith, e)
positive SheetValue e = omega (arith, e)
positive ShareSlots e = omega (arith, e)
positive CardRoom e = omega (arith, e)
positive CardLength e = omega (arith, e)
positive CardLetters e = omega (arith, e)
positive CardCounts e = omega (arith, e)
positive CardVerdict e = omega (arith, e)
positive CardBack e = omega (arith, e)
positive CardBoats e = omega (arith, e)
positive CardShares e = omega (arith, e)
positive CardDistance e = omega (arith, e)
positive CardTolerance e = omega (arith, e)
positive CellUnweighed e = omega (arith, e)
positive CellReading e = omega (arith, e)
positive CellUnit e = omega (arith, e)
positive QueueSheets e = omega (arith, e)
positive QueueAllowance e = omega (arith, e)
positive SheetFactors e = omega (arith, e)
positive EditionFactors e = omega (arith, e)
positive EditionRoom e = omega (arith, e)
positive TableLength e = omega (arith, e)
positive TableShare e = omega (arith, e)
positive TableTotal e = omega (arith, e)
positive ReleasedBoats e = omega (arith, e)
positive VerdictNotSpent e = omega (arith, e)
positive MovesAllowed e = omega (arith, e)
positive MergedColumns e = omega (arith, e)
positive MergedBoats e = omega (arith, e)
positive MergedRoom e = omega (arith, e)
positive ReportCards e = omega (arith, e)

-- what a `?` gives back has the number of the reason that it was given
pub passed_on : {value : Type 0} (r : Result value Refusal) (e : Refusal) {n : ℕ} → IsErr r × IsErrAnd r (λ x. x ≡ e) → number e ≡ n →
    refusal_number r ≡ n
passed_on (Ok x) e h q = elim h.1 [ ]
passed_on (Err x) e h q = ap number h.1 ∙ q
