-- `test_search::checksum` meets its contract.
use mathlib.Core.Path.{◌≡◌}
use Prim.Native.Nat.{◌<◌}
use lib.ListN.{drop}
use Rattle.test_buffers.specs.Buffers.{checksum, checksum_after}
use Rattle.test_search.proofs.checksum.Given as goal

abbrev pub invariant-loop-slot : goal.invariant-loop-slot
invariant-loop-slot l = (l.sum < 1000003) × (checksum_after l.sum (drop l.slot-index l.slots) ≡ checksum l.slots)
