-- `text::figures_of` meets its contract.
use Rattle.text.proofs.Texts.{Written}
use Rattle.text.proofs.figures_of.Given as goal

abbrev pub invariant-loop-rest : goal.invariant-loop-rest
invariant-loop-rest l = Written l.n l.bytes l.rest l.at

abbrev pub decreases-loop-rest : goal.decreases-loop-rest
decreases-loop-rest l = l.rest
