-- `test_worked::main` meets its contract: only it sees the size of the buffer.
use mathlib.Core.Path.{sym}
use Prim.Native.Nat.{ℕ}
use lib.ListN.{length-replicate}
use borrow.Author.Rules.{rules}
use Rattle.test_worked.proofs.main.Goals as goal

pub slice_bounds-all-end : goal.slice_bounds-all-end
slice_bounds-all-end c = sym (length-replicate {A = ℕ} 112000 0)
