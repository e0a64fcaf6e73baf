-- `test_tables::find` meets its contract.
use borrow.Author.Rules.{rules}
use native.Mathlib.Omega.{arith}
use Rattle.test_tables.proofs.Marks.{before_here, before_later, before_none}
use Rattle.test_tables.proofs.find.Goals as goal

pub returns-then-text-i : goal.returns-then-text-i
returns-then-text-i c =
    let x = c.args in
    omega (arith, before_here x.text.now c.loop-i.i x.mark (search rules) c.if-text-i.true)

pub loop-i-preserved : goal.loop-i-preserved
loop-i-preserved c =
    let x = c.args in
    omega (arith, before_later x.text.now c.loop-i.i x.mark (search rules) c.if-text-i.false)

pub returns : goal.returns
returns c =
    let x = c.args in
    omega (arith, before_none x.text.now c.loop-i.i x.mark (search rules))
