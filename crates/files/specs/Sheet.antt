-- Sheets: what is asked of a search. A target with one value a column, a factor for each column, how many steps it may take,
-- and the tolerance, the squared distance to the target that is near enough.
-- Body: the target, 2 bytes a value; in the edition WSH2 the factors after it, 1 byte each. WSH1 has none: every factor is 1.
-- Trailer, 16 bytes: back count (4), columns (2), steps (2), tolerance (4), the letters.
use Rattle.std.specs.Prelude.{Bool, ◌||◌, not, cond, List, [], ◌∷◌, ℕ, ◌+◌, ◌*◌, ◌≤◌, ltb, eqb, length, drop, ℤ}
use Rattle.frank_wolfe.specs.Vectors.{ones, sum}
use Rattle.files.specs.Bytes.{number, values, same, between, length_in_range, trailer, body_offset, body, body_refusal}
use Rattle.files.specs.Book.{columns, book_refusal}
use Rattle.files.specs.Limits.{step_limit}

pub record Sheet : Type 0 where
  pub target : List ℤ
  -- one a column: squared distances take a column as many times as its factor says
  pub factors : List ℕ
  pub steps : ℕ
  pub tolerance : ℕ

unfoldable pub sheet_columns : List ℕ → ℕ
sheet_columns s = number 4 2 (trailer 16 s)

abbrev pub WSH1 : List ℕ
WSH1 = 87 ∷ 83 ∷ 72 ∷ 49 ∷ []

abbrev pub WSH2 : List ℕ
WSH2 = 87 ∷ 83 ∷ 72 ∷ 50 ∷ []

-- whether a sheet has these letters
unfoldable pub sheet_lettered : (letters : List ℕ) → List ℕ → Bool
sheet_lettered ls s = same (drop 12 (trailer 16 s)) ls

-- how many bytes of factors a sheet has: one a column in WSH2
unfoldable pub factor_bytes : List ℕ → ℕ
factor_bytes s = cond (sheet_lettered WSH2 s) (sheet_columns s) 0

-- how many bytes the body has: 2 × columns in WSH1, 3 × columns in WSH2
abbrev pub sheet_back : List ℕ → ℕ
sheet_back s = 2 * sheet_columns s + factor_bytes s

-- that the file holds as many bytes as its columns ask
abbrev pub SheetWhole : List ℕ → Type 0
SheetWhole s = sheet_back s + 16 ≤ length s

-- the offset of the target
abbrev pub target_offset : List ℕ → ℕ
target_offset s = body_offset 16 (sheet_back s) s

unfoldable pub sheet : List ℕ → Sheet
sheet s =
    let body = body 16 (sheet_back s) s in
    record {
      target = values (sheet_columns s) body;
      factors = cond (sheet_lettered WSH2 s) (drop (2 * sheet_columns s) body) (ones (sheet_columns s));
      steps = number 6 2 (trailer 16 s);
      tolerance = number 8 4 (trailer 16 s);
    }

-- the first refusal, 11 to 17 and then 46, that applies to a sheet that is to have `least` to `most` columns; 0 if none does
unfoldable pub sheet_refusal_in : (least most : ℕ) → List ℕ → ℕ
sheet_refusal_in least most s =
    let in_Body = body_refusal 16 (sheet_back s) (sheet_columns s) 16 17 s in
    cond (not (length_in_range 16 s)) 11
    (cond (not (sheet_lettered WSH1 s || sheet_lettered WSH2 s)) 12
    (cond (not (between least most (sheet_columns s))) 13
    (cond (not (between 1 step_limit (sheet s).steps)) 14
    (cond (ltb 1024000000 (sheet s).tolerance) 15
    (cond (not (eqb in_Body 0)) in_Body (cond (between 1 64 (sum (sheet s).factors)) 0 46))))))

-- of a sheet for a book of so many columns
abbrev pub sheet_refusal : (columns : ℕ) → List ℕ → ℕ
sheet_refusal c s = sheet_refusal_in c c s

-- of a book and a sheet: the book's refusal, else the sheet's
unfoldable pub files_refusal : (book sheet : List ℕ) → ℕ
files_refusal b s = cond (eqb (book_refusal b) 0) (sheet_refusal (columns b) s) (book_refusal b)
