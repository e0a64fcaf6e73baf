-- `verdicts::judge` meets its contract.
use mathlib.Core.Path.{sym, ap, ◌∙◌}
use Prim.Native.Nat.{◌*◌}
use native.Mathlib.Omega.{arith}
use borrow.Author.Tests.{le-leb, lt-leb}
use borrow.Author.Rules.{rules}
use Rattle.method.specs.declared.Verdict.TheVariants.{Beyond}
use Rattle.method.specs.Answers.{verdict}
use Rattle.verdicts.proofs.Floor.{square_fits, floor_fits, floor_read}
use Rattle.verdicts.proofs.judge.Goals as goal

pub overflow_mul-limit : goal.overflow_mul-limit
overflow_mul-limit c = square_fits c.args.w (search rules)

pub returns-then-e-limit : goal.returns-then-e-limit
unfolding verdict
returns-then-e-limit c = simp (le-leb _ _ c.if-e-limit.true)

pub overflow_sub-result : goal.overflow_sub-result
overflow_sub-result c = floor_fits c.args.e (2 * c.args.g) (omega arith) (omega arith)

pub returns-then-is_beyond : goal.returns-then-is_beyond
unfolding verdict
returns-then-is_beyond c =
    ap Beyond (floor_read c.args.e (2 * c.args.g) (omega arith) (omega arith))
    ∙ simp (lt-leb _ _ c.if-e-limit.false, sym c.is_beyond.ensures ∙ c.if-is_beyond.true)

pub returns : goal.returns
unfolding verdict
returns c = simp (lt-leb _ _ c.if-e-limit.false, sym c.is_beyond.ensures ∙ c.if-is_beyond.false)
