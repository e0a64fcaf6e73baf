-- Sets on both sides of each test, the order of the refusals, and a small run under a set: theorems by computing. Assumes nothing.
use mathlib.Core.Path.{◌≡◌, refl}
use mathlib.Core.List.{List, [], ◌∷◌, ◌++◌}
use Prim.Native.Nat.{ℕ, ◌-◌}
use lib.IntN.{pos}
use lib.ListN.{replicate}
use Rattle.frank_wolfe.specs.Vectors.{add, scale, subtract, weighted, weighted_norm}
use Rattle.files.specs.Bytes.{between, length_in_range, trailer, body, body_offset, body_refusal, number, little_endian, same, reaches, all_in_range, values, value, in_range}
use Rattle.files.specs.Book.{boats, columns, rows, rows_from, book_refusal}
use Rattle.files.specs.Sheet.{sheet_refusal, sheet_refusal_in, files_refusal}
use Rattle.method.specs.declared.Verdict.TheVariants.{Spent}
use Rattle.method.specs.Minimum.{minimum_from, minimum}
use Rattle.method.specs.ReleasedBoats.{Usable, only, may_use, used_from, set_refusal, kept, gather, scatter_from, scatter}
use Rattle.method.specs.Calls.{released_refusal}
use Rattle.method.specs.Problem.{fixed, Problem, share, weight, on_released}
use Rattle.method.specs.Iterates.{start, residual, row, direction, scores, argmin_from, argmin, active_from, active_argmin, pick, with_shares, step, iterate, distance, gaps, maximum_from, maximum, signed_gap, natural, gap, farthest, row_diameter, diameter}
use Rattle.method.specs.Answers.{is_beyond, verdict, stops, answer_at, steps_from, steps_used, run_iterate, run_answer}

-- ---- Sets on both sides of each test

-- byte k, and 0 in the others
one_byte : (k byte : ℕ) → Usable
one_byte k v = only (replicate k 0 ++ (v ∷ replicate (31 - k) 0))

-- 32 times a byte
all_bytes : (byte : ℕ) → Usable
all_bytes v = only (replicate 32 v)

-- bit 0 of byte 0, bit 7 of byte 0, bit 0 of byte 1, bit 7 of byte 31; bits 0 and 2 of byte 0
bit_order :
    (used_from (one_byte 0 1) 0 256 ≡ 0 ∷ []) × (used_from (one_byte 0 128) 0 256 ≡ 7 ∷ []) × (used_from (one_byte 1 1) 0 256 ≡ 8 ∷ []) × (used_from (one_byte 31 128) 0 256 ≡ 255 ∷ [])
    × (used_from (one_byte 0 5) 0 256 ≡ 0 ∷ 2 ∷ [])
unfolding used_from may_use one_byte
bit_order = (refl, refl, refl, refl, refl)

-- no boat; boat 7 of 8 boats, and of 7; boat 8 of 8 boats; boat 255 of 256 boats, and of 255; all of 256 boats, and of 255
set_refusals :
    (set_refusal 8 (all_bytes 0) ≡ 52) × (set_refusal 8 (one_byte 0 128) ≡ 0) × (set_refusal 7 (one_byte 0 128) ≡ 52) × (set_refusal 8 (one_byte 1 1) ≡ 52)
    × (set_refusal 256 (one_byte 31 128) ≡ 0) × (set_refusal 255 (one_byte 31 128) ≡ 52) × (set_refusal 256 (all_bytes 255) ≡ 0) × (set_refusal 255 (all_bytes 255) ≡ 52)
unfolding set_refusal used_from may_use one_byte all_bytes
set_refusals = (refl, refl, refl, refl, refl, refl, refl, refl)

-- boats 0 and 2 of three
slots_example : (gather {A = ℕ} (one_byte 0 5) (10 ∷ 20 ∷ 30 ∷ []) ≡ 10 ∷ 30 ∷ []) × (scatter (one_byte 0 5) 3 (7 ∷ 8 ∷ []) ≡ 7 ∷ 0 ∷ 8 ∷ [])
unfolding kept scatter_from may_use one_byte
slots_example = (refl, refl)

-- boats (0, 0), (4, 0), (0, 4) and target (1, 1), as in the marked sheet c
fleet : Problem
fleet =
    record {
      columns = 2;
      vertices = (pos 0 ∷ pos 0 ∷ []) ∷ (pos 4 ∷ pos 0 ∷ []) ∷ (pos 0 ∷ pos 4 ∷ []) ∷ [];
      target = pos 1 ∷ pos 1 ∷ [];
      factors = 1 ∷ 1 ∷ [];
      schedule = fixed;
      tolerance = 1;
      steps = 2;
    }

-- boats 1 and 2: the search starts at boat 1, and G is 32, which over all boats is 44
run_example : (run_answer (on_released (one_byte 0 6) fleet) ≡ record { steps = 2; weight = 3; distance = 26; gap = 32; verdict = Spent 17 }) × (scatter (one_byte 0 6) 3 (run_iterate (on_released (one_byte 0 6) fleet)).shares ≡ 0 ∷ 2 ∷ 1 ∷ [])
unfolding add subtract scale weighted weighted_norm share weight start residual row direction scores argmin_from argmin minimum_from minimum active_from active_argmin
    pick with_shares step iterate distance gaps maximum_from maximum signed_gap natural gap is_beyond verdict stops answer_at steps_from steps_used run_iterate run_answer
    kept scatter_from may_use one_byte fleet
run_example = (refl, refl)

-- boats 0 and 1: D² is 16, over all boats 32
diameter_example : (diameter (on_released (one_byte 0 3) fleet) ≡ 16) × (diameter fleet ≡ 32)
unfolding subtract weighted_norm farthest row_diameter kept may_use one_byte fleet
diameter_example = (refl, refl)

-- ---- The order of the refusals, of an empty book, set and sheet: the book's 1, then the set's 52, then the sheet's

-- a fleet book of one boat and one column, value 0
small_book : List ℕ
small_book = 0 ∷ 0 ∷ 2 ∷ 0 ∷ 0 ∷ 0 ∷ 1 ∷ 0 ∷ 1 ∷ 0 ∷ 87 ∷ 66 ∷ 75 ∷ 49 ∷ []

order_refusals :
    (released_refusal (all_bytes 0) [] [] ≡ 1) × (released_refusal (all_bytes 0) small_book [] ≡ 52) × (released_refusal (one_byte 0 1) small_book [] ≡ 11)
unfolding same little_endian number value values between in_range all_in_range length_in_range trailer body reaches body_refusal boats columns book_refusal
    sheet_refusal_in files_refusal set_refusal used_from may_use one_byte all_bytes small_book
order_refusals = (refl, refl, refl)
