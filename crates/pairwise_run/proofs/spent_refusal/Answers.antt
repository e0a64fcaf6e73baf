-- `pairwise_run::spent_refusal` meets its contract.
use borrow.Author.Tests.{eq-eqb, ne_eqb, le-leb, lt-leb}
use Rattle.files.specs.Bytes.{between}
use Rattle.pairwise.specs.Moves.{spent_refusal}
use Rattle.pairwise_run.proofs.spent_refusal.Goals as goal

pub returns-then-verdict-ne3 : goal.returns-then-verdict-ne3
unfolding spent_refusal
returns-then-verdict-ne3 c = simp (ne_eqb _ _ c.if-verdict-ne3.true)

pub returns-then-allowed-lt1 : goal.returns-then-allowed-lt1
unfolding spent_refusal between
returns-then-allowed-lt1 c = simp (eq-eqb _ _ c.if-verdict-ne3.false, lt-leb _ _ c.if-allowed-lt1.true)

pub returns-then-allowed-gt-MOST_MOVES : goal.returns-then-allowed-gt-MOST_MOVES
unfolding spent_refusal between
returns-then-allowed-gt-MOST_MOVES c = simp (eq-eqb _ _ c.if-verdict-ne3.false, le-leb _ _ c.if-allowed-lt1.false, lt-leb _ _ c.if-allowed-gt-MOST_MOVES.true)

pub returns : goal.returns
unfolding spent_refusal between
returns c = simp (eq-eqb _ _ c.if-verdict-ne3.false, le-leb _ _ c.if-allowed-lt1.false, le-leb _ _ c.if-allowed-gt-MOST_MOVES.false)
