-- `exported_queue::store` meets its contract.
use mathlib.Core.Path.{refl, ap₂}
use mathlib.Core.List.{List}
use lib.ListN.{set}
use native.Mathlib.Omega.{arith}
use Rattle.std.proofs.Common.{add-one}
use Rattle.sheet_queue.specs.declared.SheetRecord.{SheetRecord}
use Rattle.exported_queue.specs.Lists.{stored}
use Rattle.exported_queue.proofs.store.Goals as goal

pub loop-i-init : goal.loop-i-init
unfolding stored
loop-i-init c = (omega arith, refl)

pub loop-i-preserved : goal.loop-i-preserved
unfolding stored
loop-i-preserved c =
    (omega (arith, c.loop-i-test.true), rw (add-one c.loop-i.i) (ap₂ (λ (rs : List SheetRecord) (r : SheetRecord). set rs c.loop-i.i r) c.loop-i.invariant.1 c.record_at.ensures))
