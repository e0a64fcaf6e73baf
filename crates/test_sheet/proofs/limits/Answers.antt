-- `test_sheet::limits` meets its contract: only it sees the size of the buffer.
use mathlib.Core.Path.{sym}
use Prim.Native.Nat.{ℕ}
use lib.ListN.{length-replicate}
use borrow.Author.Rules.{rules}
use Rattle.test_sheet.proofs.limits.Goals as goal

pub slice_bounds-long_csvs-end : goal.slice_bounds-long_csvs-end
slice_bounds-long_csvs-end c = sym (length-replicate {A = ℕ} 200001 0)
