-- A buffer that a text was to be put into, and how many bytes were put. Definitions only. Assumes nothing.
use Rattle.std.specs.Prelude.{cond, List, ◌++◌, ℕ, ltb, length, drop}

-- a buffer after some text was to be put into its first bytes: as it was where it is shorter than the text
unfoldable pub bytes_after : (text buffer : List ℕ) → List ℕ
bytes_after text buffer = cond (ltb (length buffer) (length text)) buffer (text ++ drop (length text) buffer)

-- how many bytes were put: none where the buffer is shorter than the text
unfoldable pub bytes_put : (text buffer : List ℕ) → ℕ
bytes_put text buffer = cond (ltb (length buffer) (length text)) 0 (length text)
