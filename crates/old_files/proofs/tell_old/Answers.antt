-- `old_files::tell_old` meets its contract: only it sees the sizes of the buffers.
use mathlib.Core.Path.{sym}
use Prim.Native.Nat.{ℕ}
use lib.ListN.{length-replicate}
use borrow.Author.Rules.{rules}
use Rattle.old_files.proofs.tell_old.Goals as goal

pub slice_bounds-tell_both_in-end : goal.slice_bounds-tell_both_in-end
slice_bounds-tell_both_in-end c = sym (length-replicate {A = ℕ} 200001 0)

pub slice_bounds-tell_both_in-end-2 : goal.slice_bounds-tell_both_in-end-2
slice_bounds-tell_both_in-end-2 c = sym (length-replicate {A = ℕ} 39001 0)
