-- `lean_folder::check_pairs` meets its contract. The loop keeps `Going`: k pairs were read and checked and none was refused; the slots have the length they came with.
-- A turn checks pair k; a refusal ends the function.
-- It ends: the pairs that are left fall by one.
use mathlib.Core.Path.{◌≡◌}
use Prim.Native.Nat.{◌-◌}
use lib.ListN.{length}
use Rattle.lean_folder.proofs.Folding.{Going}
use borrow.Author.Rules.{rules}
use Rattle.lean_folder.proofs.check_pairs.Given as goal

abbrev pub invariant-loop-k : goal.invariant-loop-k
invariant-loop-k l = Going l.book l.cards l.slots l.k × (length l.slots ≡ length l.initial.slots)
