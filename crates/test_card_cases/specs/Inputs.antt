-- The fleet books and the sheet of a case, as bytes. Definitions only.
use Rattle.std.specs.Prelude.{cond, List, [], ◌∷◌, ◌++◌, ℕ, ◌+◌, ◌*◌, ◌%◌, eqb}
use Rattle.files.specs.Bytes.{number_bytes}
use Rattle.test_buffers.specs.Buffers.{book_trailer, sheet_trailer}
use Rattle.test_tables.specs.Tables.{field}

-- numbers of 2 bytes each, side by side
unfoldable pub pairs_of_bytes : List ℕ → List ℕ
pairs_of_bytes [] = []
pairs_of_bytes (x ∷ xs) = number_bytes 2 x ++ pairs_of_bytes xs

-- the book of so many boats, of so many columns and of these values
abbrev pub book : (boats columns : ℕ) → List ℕ → List ℕ
book boats columns values = pairs_of_bytes values ++ book_trailer (2 * (boats * columns)) boats columns

-- the fleet behind F: (0,0), (4,0) and (0,4); or (0,0) once; or (0,0) twice; or -2000 and 2000
abbrev pub fleet : (line : List ℕ) → List ℕ
fleet line =
    cond (eqb (field line 70 0) 0) (book 3 2 (0 ∷ 0 ∷ 4 ∷ 0 ∷ 0 ∷ 4 ∷ []))
    (cond (eqb (field line 70 0) 1) (book 1 2 (0 ∷ 0 ∷ []))
    (cond (eqb (field line 70 0) 2) (book 2 2 (0 ∷ 0 ∷ 0 ∷ 0 ∷ [])) (book 2 1 (63536 ∷ 2000 ∷ []))))

-- the sheet of H columns, 2 where H is left out: of the target X and Y, of M steps and of the tolerance D
abbrev pub sheet : (line : List ℕ) → List ℕ
sheet line =
    number_bytes (2 * (field line 72 2 % 3)) (field line 88 1 % 65536 + 65536 * (field line 89 1 % 65536))
    ++ sheet_trailer (field line 72 2) (field line 77 9) (field line 68 1)
