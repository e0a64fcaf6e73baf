-- `exported_queue::dofitrano_run_queue` meets its contract: what the calls leave is what the definition of the queue says.
use mathlib.Core.Path.{refl}
use Rattle.exported_queue.specs.Lists.{stored}
use Rattle.exported_queue.proofs.Done.{count_within, queue_done}
use Rattle.exported_queue.proofs.dofitrano_run_queue.Goals as goal

pub store-requires : goal.store-requires
store-requires c = count_within c.args.queue.now (rw c.lengths_of-lengths.ensures at c.in-Ok.ensures)

pub returns-in-Ok : goal.returns-in-Ok
returns-in-Ok c = queue_done c.args.queue.now (rw c.lengths_of-lengths.ensures at c.in-Ok.ensures) c.store.ensures

pub returns-in-Err : goal.returns-in-Err
unfolding stored
returns-in-Err c = rw c.number.ensures (queue_done c.args.queue.now (rw c.lengths_of-lengths.ensures at c.in-Err.ensures) refl)
