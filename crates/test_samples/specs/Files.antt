-- Drawn fleet books and sheets, and damage to them. Definitions only.
use Rattle.std.specs.Prelude.{cond, List, [], ◌∷◌, ◌++◌, ℕ, ◌+◌, ◌*◌, ◌-◌, ◌%◌, eqb, ltb, length, get_or}
use Rattle.std.proofs.lemmas.List.Edits.{sets}
use Rattle.files.specs.Bytes.{number_bytes}
use Rattle.test_buffers.specs.Buffers.{after, book_trailer, sheet_trailer}
use Rattle.test_samples.specs.Draws.{advances, drawn, any_bytes}
use Rattle.test_samples.specs.Rows.{row, rows, after_rows, middle}
use Rattle.test_samples.specs.declared.Plan.{Plan}
use Rattle.test_samples.specs.declared.Part.{Part}

-- the sizes of a small case, from five draws
abbrev pub small_plan : ℕ → Plan
small_plan s =
    record {
      boats = drawn 8 s + 1;
      columns = drawn 5 (advances 1 s) + 1;
      scale = get_or (1 ∷ 2 ∷ 10 ∷ 200 ∷ 2000 ∷ []) (drawn 5 (advances 2 s)) 0;
      steps = drawn 12 (advances 3 s) + 1;
      front = drawn 4 (advances 4 s);
    }

-- ---- A fleet book from the buffer's first byte on, and the state after it

abbrev pub rows_start : (size : ℕ) → Plan → (s : ℕ) → ℕ
rows_start size p s = after size 0 (length (any_bytes p.front s))

abbrev pub book_rows : (buffer : List ℕ) → Plan → (s : ℕ) → List ℕ
book_rows buffer p s = rows p.boats 0 p.columns p.scale (sets buffer 0 (any_bytes p.front s)) (rows_start (length buffer) p s) (advances p.front s)

abbrev pub book : (buffer : List ℕ) → Plan → (s : ℕ) → List ℕ
book buffer p s = any_bytes p.front s ++ (book_rows buffer p s ++ book_trailer (2 * ((p.boats % 65536) * (p.columns % 65536))) p.boats p.columns)

abbrev pub after_book : Plan → (s : ℕ) → ℕ
after_book p s = after_rows p.boats 0 p.columns (advances p.front s)

-- ---- A sheet for a book whose rows start at `start`, and the state after it

-- the offset of a drawn boat's row
abbrev pub row_offset : (start : ℕ) → Plan → (s : ℕ) → ℕ
row_offset start p s = start % 65536 + 2 * ((drawn p.boats s % 65536) * (p.columns % 65536))

-- a drawn target, one boat's row, half way between two boats, or one that may lie far outside
abbrev pub target : (file : List ℕ) → (start : ℕ) → Plan → (s : ℕ) → List ℕ
target file start p s =
    let kind = drawn 4 s in
    let a = row_offset start p (advances 1 s) in
    let b = row_offset start p (advances 2 s) in
    cond (eqb kind 0) (row p.columns p.scale (advances 3 s))
    (cond (eqb kind 3) (row p.columns 2000 (advances 3 s)) (middle p.columns 0 file a (cond (eqb kind 1) a b)))

abbrev pub after_target : Plan → (s : ℕ) → ℕ
after_target p s = cond (eqb (drawn 4 s) 0) (advances p.columns (advances 3 s)) (cond (eqb (drawn 4 s) 3) (advances p.columns (advances 3 s)) (advances 3 s))

abbrev pub sheet : (file : List ℕ) → (start tolerance : ℕ) → Plan → (s : ℕ) → List ℕ
sheet file start tolerance p s = any_bytes p.front s ++ (target file start p (advances p.front s) ++ sheet_trailer p.columns p.steps tolerance)

abbrev pub after_sheet : Plan → (s : ℕ) → ℕ
after_sheet p s = after_target p (advances p.front s)

-- ---- Damage to a file that ends at `end`

-- numbers at and beside the limits of the files' fields, and the bits of the values at and just past the limits
abbrev pub special : List ℕ
special = 0 ∷ 1 ∷ 2 ∷ 3 ∷ 5 ∷ 8 ∷ 10 ∷ 64 ∷ 65 ∷ 256 ∷ 360 ∷ 361 ∷ []

abbrev pub limits : List ℕ
limits = 2000 ∷ 2001 ∷ 63536 ∷ 63535 ∷ []

-- where a change goes: near the end, or at `place`
abbrev pub changed_place : (end place near kind : ℕ) → ℕ
changed_place end place near kind = cond (eqb kind 1) (end - (near % 16 + 1)) (cond (eqb kind 2) (end - (2 * (near % 16) + 4)) place)

-- the number that a change puts there, and its bytes
abbrev pub changed_number : (kind x : ℕ) → ℕ
changed_number kind x = cond (eqb kind 2) (get_or special (x % 12) 0) (cond (eqb kind 3) (get_or limits (x % 4) 0) x)

abbrev pub changed_bytes : (kind x : ℕ) → List ℕ
changed_bytes kind x = number_bytes (cond (ltb kind 2) 1 2) (changed_number kind x)

-- what is left of the file, and the buffer, after damage from four draws: a cut at either side, or a change
abbrev pub damaged_part : (end s : ℕ) → Part
damaged_part end s =
    let place = drawn end (advances 1 s) in
    cond (eqb (drawn 6 s) 4) (record { start = 0; end = place }) (cond (eqb (drawn 6 s) 5) (record { start = place; end = end }) (record { start = 0; end = end }))

abbrev pub damaged : (buffer : List ℕ) → (end s : ℕ) → List ℕ
damaged buffer end s =
    let kind = drawn 6 s in
    let place = changed_place end (drawn end (advances 1 s)) (drawn 16 (advances 2 s)) kind in
    cond (eqb kind 4) buffer (cond (eqb kind 5) buffer (sets buffer place (changed_bytes kind (drawn 65536 (advances 3 s)))))
