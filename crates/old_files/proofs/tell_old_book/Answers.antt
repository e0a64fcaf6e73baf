-- `old_files::tell_old_book` meets its contract: only it sees the size of the buffer.
use mathlib.Core.Path.{sym}
use Prim.Native.Nat.{ℕ}
use lib.ListN.{length-replicate}
use borrow.Author.Rules.{rules}
use Rattle.old_files.proofs.tell_old_book.Goals as goal

pub slice_bounds-tell_book_in-end : goal.slice_bounds-tell_book_in-end
slice_bounds-tell_book_in-end c = sym (length-replicate {A = ℕ} 200001 0)
