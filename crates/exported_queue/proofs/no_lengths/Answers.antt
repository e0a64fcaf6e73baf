-- `exported_queue::no_lengths` meets its contract.
use mathlib.Core.Path.{refl}
use Rattle.exported_queue.specs.Lists.{no_lengths}
use Rattle.exported_queue.proofs.no_lengths.Goals as goal

pub returns : goal.returns
unfolding no_lengths
returns c = refl
