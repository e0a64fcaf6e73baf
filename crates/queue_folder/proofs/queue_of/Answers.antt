-- `queue_folder::queue_of` meets its contract: the array has room for the sheets.
use mathlib.Core.Path.{sym}
use Prim.Native.Nat.{ℕ}
use lib.ListN.{length-replicate}
use Rattle.queue_folder.proofs.Reading.{all_room}
use Rattle.queue_folder.proofs.queue_of.Goals as goal

pub slice_bounds-queue_in-end : goal.slice_bounds-queue_in-end
slice_bounds-queue_in-end c = sym (length-replicate {A = ℕ} 680017 0)

pub queue_in-requires : goal.queue_in-requires
queue_in-requires c = (c.requires, all_room 680017)

pub returns : goal.returns
returns c = c.queue_in.ensures
