-- `queue_folder::read_sheets` meets its contract. The loop keeps `Going`: k sheets stand back to back in the first bytes of the buffer, and their lengths are in the list; the buffer has the length it came with.
-- A turn reads sheet k behind them and puts its length.
-- It ends: the sheets that are left fall by one.
use mathlib.Core.Path.{◌≡◌}
use Prim.Native.Nat.{◌-◌}
use native.Mathlib.Omega.{arith}
use lib.ListN.{length}
use Rattle.queue_folder.proofs.Reading.{Going}
use borrow.Author.Rules.{rules}
use Rattle.queue_folder.proofs.read_sheets.Given as goal

abbrev pub invariant-loop-k : goal.invariant-loop-k
invariant-loop-k l = Going l.count l.lengths l.buffer l.at l.k × (length l.buffer ≡ length l.initial.buffer)
