-- What the work of a queue in a folder gives, whatever the system reads there. Definitions only.
use Rattle.std.specs.Prelude.{◌≡◌, List, [], ◌∷◌, ◌++◌, map, ℕ, ◌+◌, ◌≤◌, length, take}
use Rattle.text.specs.declared.Text.{Text}
use Rattle.text.specs.Texts.{Holds}
use Rattle.sheet_queue.specs.Queue.{sheets_of}
use Rattle.queue_listing.specs.Lines.{queue_listing, ListedRight}
use Rattle.queue_folder.specs.declared.Sheets.{Sheets}

-- the bytes that are read of a sheet: one more than it may have
abbrev pub sheet_bytes : ℕ
sheet_bytes = 40001

-- the most sheets that are read: one more than a queue may have
abbrev pub most_read : ℕ
most_read = 17

-- sheets back to back
unfoldable pub joined : List (List ℕ) → List ℕ
joined [] = []
joined (s ∷ ss) = s ++ joined ss

-- a file was read behind the first bytes of a buffer, which stay
pub record ReadBehind (at : ℕ) (old : List ℕ) (n : ℕ) (new : List ℕ) : Type 0 where
  pub most : n ≤ sheet_bytes
  pub before : take at new ≡ take at old
  pub long : length new ≡ length old

-- some sheets, so many of them, were read back to back
pub record SomeSheets (count : ℕ) (r : Sheets) (buffer : List ℕ) : Type 0 where
  pub sheets : List (List ℕ)
  pub number : length sheets ≡ count
  pub fits : r.len ≤ length buffer
  pub long : length r.lengths ≡ most_read
  pub lengths_are : take count r.lengths ≡ map length sheets
  pub bytes_are : take r.len buffer ≡ joined sheets

-- a text is the listing of the book and of some sheets, so many of them, on an allowance, and what it lists is right
pub record SomeQueue (b : List ℕ) (count a : ℕ) (t : Text) : Type 0 where
  pub sheets : List (List ℕ)
  pub number : length sheets ≡ count
  -- their lengths tell them apart
  pub apart : sheets_of (map length sheets) (joined sheets) ≡ sheets
  pub text : Holds (queue_listing b (map length sheets) (joined sheets) a) t
  pub right : ListedRight b (map length sheets) (joined sheets) a
