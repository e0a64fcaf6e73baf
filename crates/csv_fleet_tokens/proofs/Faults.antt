-- No fault has the number 0, which stands for no fault.
use mathlib.Core.Path.{◌≡◌, ap, ◌∙◌}
use native.Mathlib.Omega.{arith}
use Prim.Native.Nat.{ℕ}
use Rattle.std.specs.Prelude.{Result, Ok, Err}
use Rattle.std.specs.Result.{IsErr, IsErrAnd}
use Rattle.csv_fleet_tokens.specs.declared.Fault.{Fault}
use Rattle.csv_fleet_tokens.specs.declared.Fault.TheVariants.{Long, Nameless, Columnless, Many, NoValue, NotWhole, OutOfRange, Boats, Boatless, Big, Room, Fleet, Rows, Again, NoHull, NoSteps, NoTolerance, Missing, Twice, Unknown, FleetTwice, FactorTotal, LargeTolerance, ManyValues, Stray, Open}
use Rattle.csv_fleet_tokens.specs.Faults.{fault_number, result_number}

pub positive : (f : Fault) → fault_number f ≡ 0 → ⊥
positive Long e = omega (arith, e)
positive Nameless e = omega (arith, e)
positive Columnless e = omega (arith, e)
positive Many e = omega (arith, e)
positive NoValue e = omega (arith, e)
positive NotWhole e = omega (arith, e)
positive OutOfRange e = omega (arith, e)
positive Boats e = omega (arith, e)
positive Boatless e = omega (arith, e)
positive Big e = omega (arith, e)
positive Room e = omega (arith, e)
positive Fleet e = omega (arith, e)
positive Rows e = omega (arith, e)
positive Again e = omega (arith, e)
positive NoHull e = omega (arith, e)
positive NoSteps e = omega (arith, e)
positive NoTolerance e = omega (arith, e)
positive Missing e = omega (arith, e)
positive Twice e = omega (arith, e)
positive Unknown e = omega (arith, e)
positive FleetTwice e = omega (arith, e)
positive FactorTotal e = omega (arith, e)
positive LargeTolerance e = omega (arith, e)
positive ManyValues e = omega (arith, e)
positive Stray e = omega (arith, e)
positive Open e = omega (arith, e)

-- what a `?` gives back has the number of the fault that it was given
pub passed_on : {value : Type 0} (r : Result value Fault) (e : Fault) {n : ℕ} → IsErr r × IsErrAnd r (λ x. x ≡ e) → fault_number e ≡ n →
    result_number r ≡ n
passed_on (Ok x) e h q = elim h.1 [ ]
passed_on (Err x) e h q = ap fault_number h.1 ∙ q
