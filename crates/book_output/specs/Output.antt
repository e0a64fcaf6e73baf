-- The bytes of a fleet book, without front text. Definitions only.
use Rattle.std.specs.Prelude.{List, [], ◌∷◌, ◌++◌, ℕ, length, ℤ}
use Rattle.files.specs.Bytes.{number_bytes}
use Rattle.files.specs.Book.{WBK1}
use Rattle.sheet_output.specs.Output.{values_bytes}

-- rows one after the other
unfoldable pub rows_bytes : List (List ℤ) → List ℕ
rows_bytes [] = []
rows_bytes (v ∷ vs) = values_bytes v ++ rows_bytes vs

-- after a body of `back` bytes
unfoldable pub book_trailer : (back boats columns : ℕ) → List ℕ
book_trailer back n c = number_bytes 4 back ++ (number_bytes 2 n ++ (number_bytes 2 c ++ WBK1))

-- a fleet book of these rows
unfoldable pub book_bytes : (rows : List (List ℤ)) → (columns : ℕ) → List ℕ
book_bytes vs c = rows_bytes vs ++ book_trailer (length (rows_bytes vs)) (length vs) c
