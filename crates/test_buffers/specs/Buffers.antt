-- What the helpers of the test programs put into a buffer and give back. Bytes are put one after the other (`sets` of lib.Seq),
-- and what falls past the end of the buffer is left out. Definitions only.
use Rattle.std.specs.Prelude.{◌≡◌, ◌&&◌, cond, List, [], ◌∷◌, ◌++◌, ℕ, ◌+◌, ◌*◌, ◌-◌, ◌%◌, min, max, leb, length, take, drop}
use Rattle.std.proofs.lemmas.List.Edits.{sets}
use Rattle.files.specs.Bytes.{number_bytes}
use Rattle.files.specs.Book.{WBK1}
use Rattle.files.specs.Sheet.{WSH1}

-- the offset after so many bytes from `at` in a buffer of so many bytes
unfoldable pub after : (size at count : ℕ) → ℕ
after size at count = max at (min size (at + count))

-- `new` is `old` with these bytes from `at` on, and `next` is the offset after them
pub record Puts (old : List ℕ) (at : ℕ) (bytes : List ℕ) (new : List ℕ) (next : ℕ) : Type 0 where
  pub bytes_are : new ≡ sets old at bytes
  pub reached : next ≡ after (length old) at (length bytes)

-- the bytes from `start` to `end`, or all of them where there is no such part
unfoldable pub part : (start end : ℕ) → List ℕ → List ℕ
part start end l = cond (leb start end && leb end (length l)) (take (end - start) (drop start l)) l

-- a number that depends on every element and its place; `sum` is that of the elements before
unfoldable pub checksum_after : (sum : ℕ) → List ℕ → ℕ
checksum_after sum [] = sum
checksum_after sum (x ∷ xs) = checksum_after ((257 * sum + x) % 1000003) xs

abbrev pub checksum : List ℕ → ℕ
checksum l = checksum_after 0 l

-- the trailer of a fleet book whose body has `back` bytes
abbrev pub book_trailer : (back boats columns : ℕ) → List ℕ
book_trailer back boats columns = number_bytes 4 back ++ (number_bytes 2 boats ++ (number_bytes 2 columns ++ WBK1))

-- the trailer of a sheet
abbrev pub sheet_trailer : (columns steps tolerance : ℕ) → List ℕ
sheet_trailer columns steps tolerance =
    number_bytes 4 (2 * (columns % 65536)) ++ (number_bytes 2 columns ++ (number_bytes 2 steps ++ (number_bytes 4 tolerance ++ WSH1)))
