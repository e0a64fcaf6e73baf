-- What is put behind rows that stand in a buffer, for the contracts of the functions inside. Definitions only.
use Rattle.std.specs.Prelude.{cond, List, [], ℕ, ℤ}
use Rattle.files.specs.Bytes.{values}
use Rattle.merged_book.specs.Merging.{is_among}

-- the bytes of a row that equals none of these, else nothing
unfoldable pub new_bytes : (before : List (List ℤ)) → (columns : ℕ) → (row : List ℕ) → List ℕ
new_bytes vs c row = cond (is_among vs (values c row)) [] row
