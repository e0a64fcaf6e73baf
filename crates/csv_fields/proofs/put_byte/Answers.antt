-- `csv_fields::put_byte` meets its contract.
use borrow.Author.Tests.{lt-ltb, le-ltb}
use native.Mathlib.Omega.{arith}
use mathlib.Core.Path.{sym}
use Rattle.buffers.proofs.Placing.{placed_nil, placed_set}
use Rattle.csv_fields.proofs.put_byte.Goals as goal

pub returns-then-n-ge200-clause-output_after : goal.returns-then-n-ge200-clause-output_after
returns-then-n-ge200-clause-output_after c = rw (le-ltb _ 200 c.if-n-ge200.true) (sym (placed_nil _ _))

pub returns-in-Some-clause-output_after : goal.returns-in-Some-clause-output_after
returns-in-Some-clause-output_after c = rw (c.in-Some.is, lt-ltb _ 200 c.if-n-ge200.false) (placed_set _ _ _ (omega arith))

pub returns-in-None-clause-output_after : goal.returns-in-None-clause-output_after
returns-in-None-clause-output_after c = rw (c.in-None.is, lt-ltb _ 200 c.if-n-ge200.false) (sym (placed_nil _ _))
