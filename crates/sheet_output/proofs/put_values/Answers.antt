-- `sheet_output::put_values` meets its contract. The loop keeps `ValuesWritten`: the first i values are written, two bytes each.
-- A turn writes one value more.
-- It ends: the values that are left fall by one.
use borrow.Author.Rules.{rules}
use Prim.Native.Nat.{◌-◌}
use Rattle.sheet_output.proofs.Writing.{values_start, values_room, values_more, values_end, values_long}
use Rattle.sheet_output.proofs.put_values.Goals as goal

pub loop-i-init : goal.loop-i-init
loop-i-init c = values_start

pub put-requires : goal.put-requires
put-requires c = values_room c.loop-i.invariant (search rules) (search rules) c.loop-i-test.true

pub loop-i-preserved : goal.loop-i-preserved
loop-i-preserved c = values_more c.loop-i.invariant (search rules) (search rules) c.requires.values_value c.loop-i-test.true c.bits_of.ensures c.put.ensures

pub shape_of-output : goal.shape_of-output
shape_of-output c = values_long c.loop-i.invariant (search rules) (search rules)

pub returns : goal.returns
returns c = values_end c.loop-i.invariant (search rules) (search rules) c.loop-i-test.false
