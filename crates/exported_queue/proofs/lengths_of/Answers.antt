-- `exported_queue::lengths_of` meets its contract.
use mathlib.Core.Path.{◌∙◌, ap₂}
use native.Mathlib.Omega.{arith}
use Rattle.std.proofs.Common.{add-one}
use Rattle.std.proofs.lemmas.List.{get_or_default}
use Rattle.sheet_queue.specs.declared.SheetRecord.{SheetRecord}
use Rattle.sheet_queue.specs.Queue.{blank}
use Rattle.exported_queue.specs.declared.Lengths.{Lengths}
use Rattle.exported_queue.specs.Lists.{with_length, lengths_to}
use Rattle.exported_queue.proofs.lengths_of.Goals as goal

pub loop-i-init : goal.loop-i-init
unfolding lengths_to
loop-i-init c = (omega arith, c.no_lengths-lengths.ensures)

pub loop-i-preserved : goal.loop-i-preserved
unfolding lengths_to
loop-i-preserved c = (
  omega (arith, c.loop-i-test.true),
  rw (add-one c.loop-i.i) (c.with_length-lengths.ensures
      ∙ ap₂ (λ (l : Lengths) (r : SheetRecord). with_length l c.loop-i.i r) c.loop-i.invariant.1 (get_or_default c.args.queue.now c.loop-i.i _ blank c.loop-i-test.true)),
)
