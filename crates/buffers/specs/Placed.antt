-- Bytes put into a buffer. Definitions only.
use Rattle.std.specs.Prelude.{List, ◌++◌, ℕ, ◌+◌, length, take, drop}

-- a buffer with bs from `at` on; the bytes before and after them are as they were
unfoldable pub placed : (buffer : List ℕ) → (at : ℕ) → (bs : List ℕ) → List ℕ
placed out at bs = take at out ++ (bs ++ drop (at + length bs) out)
