-- A sheet in the other edition: its bytes, and what refuses a conversion. Definitions only.
use Rattle.std.specs.Prelude.{◌||◌, not, cond, List, ◌++◌, ℕ, zero, suc, eqb, ltb, length, take}
use Rattle.files.specs.Sheet.{WSH2, sheet_lettered, target_offset, sheet, sheet_refusal_in}
use Rattle.files.specs.Limits.{file_limit}
use Rattle.factors.specs.Factors.{all_ones}
use Rattle.sheet_output.specs.Output.{edition_bytes}
use Rattle.editions.specs.Rewritten.{Rewritten, Refused, Wrote}

-- the front text of a sheet: what stands before its body
unfoldable pub sheet_front : List ℕ → List ℕ
sheet_front s = take (target_offset s) s

-- the edition that a sheet is converted into, by its letters: 1 of WSH2, else 2
unfoldable pub other_number : List ℕ → ℕ
other_number s = cond (sheet_lettered WSH2 s) 1 2

-- the same front text, and behind it a sheet of that edition that asks for the same
unfoldable pub other_edition : List ℕ → List ℕ
other_edition s = sheet_front s ++ edition_bytes (not (sheet_lettered WSH2 s)) (sheet s)

-- the sheet's own refusal, 13 for columns that are not 1 to 64; then 47, a factor other than 1, which WSH2 alone can have; then 48, an
-- output that is shorter than the result, or a result of more than 40,000 bytes; 0 if none applies
unfoldable pub edition_refusal : (sheet : List ℕ) → (room : ℕ) → ℕ
edition_refusal s room =
    let own = sheet_refusal_in 1 64 s in
    let size = length (other_edition s) in
    cond (eqb own 0) (cond (not (all_ones (sheet s).factors)) 47 (cond (ltb room size || ltb file_limit size) 48 0)) own

-- a refusal where there is a number, else the edition and the bytes that were written
unfoldable pub rewriting : (refusal edition size : ℕ) → Rewritten
rewriting zero edition size = Wrote edition size
rewriting (suc n) edition size = Refused (suc n)

-- the number that refuses, 0 where a sheet was written
unfoldable pub rewriting_number : Rewritten → ℕ
rewriting_number (Refused n) = n
rewriting_number (Wrote edition size) = 0
