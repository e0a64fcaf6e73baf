-- `test_card_cases::flips::flips` meets its contract.
use mathlib.Core.Path.{◌≡◌}
use Prim.Native.Nat.{◌-◌}
use Rattle.test_card_cases.proofs.flips.flips.Given as goal

abbrev pub invariant-loop-at : goal.invariant-loop-at
invariant-loop-at l = (l.filed ≡ l.initial.filed)
