-- The line of one book from two. Definitions only.
use Rattle.std.specs.Prelude.{List, ℕ, zero, suc}
use Rattle.files.specs.Book.{boats, columns}
use Rattle.text.specs.Lines.{pair_line}
use Rattle.listing.specs.Lines.{fleet_word, refused_line}

-- boats and columns of the merged book, or the number that refuses
unfoldable pub merge_line : (refusal : ℕ) → (merged : List ℕ) → List ℕ
merge_line zero b = pair_line fleet_word (boats b) (columns b)
merge_line (suc n) b = refused_line (suc n)
