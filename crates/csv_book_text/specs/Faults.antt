-- The lines about a fleet's CSV: that of its fault, with file, line, boat, column and what is wrong there, or those of its book. Definitions only.
use Rattle.std.specs.Prelude.{Bool, cond, List, [], ◌∷◌, ◌++◌, ℕ, ltb, length}
use Rattle.text.specs.Lines.{pair_line}
use Rattle.csv_fields.specs.Fields.{field_text}
use Rattle.csv_book.specs.Books.{Made}
use Rattle.csv_book_words.specs.Words.{wants_boat, wants_column, wants_value, fault_line, front_line}

-- ---- the line

-- what stands in a field, where it is wanted and the CSV is not too long to be read
unfoldable pub looked : (wanted : Bool) → (line field : ℕ) → List ℕ → List ℕ
looked w l f csv = cond w (cond (ltb 200000 (length csv)) [] (field_text l f csv)) []

unfoldable pub fleet_fault : (csv : List ℕ) → Made → List ℕ
fleet_fault csv m =
    fault_line m (looked (wants_boat m.fault m.field m.columns) m.line 0 csv)
    (looked (wants_column m.fault m.field m.columns) 0 m.field csv) (looked (wants_value m.fault) m.line m.field csv)

-- ---- the lines of a book

-- "fleet "
abbrev pub FLEET : List ℕ
FLEET = 102 ∷ 108 ∷ 101 ∷ 101 ∷ 116 ∷ 32 ∷ []

-- how many boats and columns, and what of the CSV stands in front of the book
unfoldable pub book_lines : Made → List ℕ
book_lines m = pair_line FLEET m.boats m.columns ++ front_line m.front
