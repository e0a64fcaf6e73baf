-- `test_tables::number` meets its contract.
use mathlib.Core.Path.{◌≡◌}
use lib.ListN.{drop}
use Rattle.test_tables.specs.Tables.{digits_after}
use Rattle.test_tables.proofs.number.Given as goal

abbrev pub invariant-loop-digit : goal.invariant-loop-digit
invariant-loop-digit l = (digits_after l.sum (drop l.digit-index l.digits) ≡ digits_after 0 l.digits)
