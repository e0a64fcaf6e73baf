-- `book_folder::file_book` meets its contract: only it sees the sizes of the buffers.
use mathlib.Core.Path.{sym}
use Prim.Native.Nat.{ℕ}
use lib.ListN.{length-replicate}
use Rattle.book_folder.proofs.file_book.Goals as goal

pub slice_bounds-file_read-end : goal.slice_bounds-file_read-end
slice_bounds-file_read-end c = sym (length-replicate {A = ℕ} 200001 0)

pub slice_bounds-file_read-end-2 : goal.slice_bounds-file_read-end-2
slice_bounds-file_read-end-2 c = sym (length-replicate {A = ℕ} 40000 0)
