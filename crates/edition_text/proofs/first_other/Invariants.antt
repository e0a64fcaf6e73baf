-- `edition_text::first_other` meets its contract: `PassedOnes` is the loop's invariant.
use Rattle.edition_text.proofs.Telling.{PassedOnes}
use Rattle.edition_text.proofs.first_other.Given as goal

abbrev pub invariant-loop-i : goal.invariant-loop-i
invariant-loop-i l = PassedOnes l.list l.i
