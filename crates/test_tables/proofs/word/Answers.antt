-- `test_tables::word` meets its contract.
use mathlib.Core.Path.{◌∙◌}
use native.Mathlib.Omega.{arith}
use Rattle.test_tables.proofs.Marks.{part_word, part_none}
use Rattle.test_tables.proofs.word.Goals as goal

pub returns-then-at-line : goal.returns-then-at-line
returns-then-at-line c =
    let x = c.args in
    c.between.ensures
    ∙ part_word x.line.now x.letter c.find-at.result (omega (arith, c.find-at.ensures.value)) _ c.find.ensures.value c.find.ensures.lower_bound.1

pub returns : goal.returns
returns c =
    let x = c.args in
    c.between-2.ensures
    ∙ part_none x.line.now x.letter c.find-at.result (omega (arith, c.find-at.ensures.value)) c.if-at-line.false c.find-at.ensures.lower_bound.1
