-- `csv_front_text::put_names` meets its contract: `Naming` is the loop's invariant.
use borrow.Author.Rules.{rules}
use native.Mathlib.Omega.{arith}
use Rattle.csv_front_text.proofs.Keeping.{naming_start, naming_more, naming_end}
use Rattle.csv_front_text.proofs.put_names.Goals as goal

pub loop-i-init : goal.loop-i-init
loop-i-init c = search (rules, naming_start)

pub put_kept-n-requires : goal.put_kept-n-requires
put_kept-n-requires c = omega (arith, c.loop-i.invariant.counting.few, c.loop-i.invariant.counting.within)

pub after-table-requires : goal.after-table-requires
after-table-requires c = omega (arith, c.loop-i.invariant.counting.few_boats, c.loop-i.invariant.counting.within)

pub loop-i-preserved : goal.loop-i-preserved
loop-i-preserved c =
    naming_more c.loop-i.invariant c.loop-i-test.true c.read_byte-step.ensures c.put_kept-n.ensures.value c.put_kept-n.ensures.output_after c.after-table.ensures

pub shape_of-output : goal.shape_of-output
shape_of-output c = c.loop-i.invariant.long

pub returns : goal.returns
returns c =
    let q = naming_end c.loop-i.invariant c.loop-i-test.false in
    record { value = q.0; output_after = q.1 }
