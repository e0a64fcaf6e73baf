-- `test_buffers::checksum` meets its contract.
use mathlib.Core.Path.{◌≡◌}
use Prim.Native.Nat.{◌<◌}
use lib.ListN.{drop}
use Rattle.test_buffers.specs.Buffers.{checksum, checksum_after}
use Rattle.test_buffers.proofs.checksum.Given as goal

abbrev pub invariant-loop-byte : goal.invariant-loop-byte
invariant-loop-byte l = (l.sum < 1000003) × (checksum_after l.sum (drop l.byte-index l.bytes) ≡ checksum l.bytes)
