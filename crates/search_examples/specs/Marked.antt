-- The ten marked sheets: one table, from the bytes of the files to the whole outcome of a search, and one claim about it. Definitions only.
use Rattle.std.specs.Prelude.{◌≡◌, ℕ, ◌+◌, ◌*◌, ◌-◌, length, replicate, ℤ, pos, negsuc}
use mathlib.Core.List.{List, [], ◌∷◌, ◌++◌, Memᴰ}
use Rattle.files.specs.Book.{WBK1}
use Rattle.files.specs.Sheet.{WSH1}
use Rattle.method.specs.declared.Verdict.TheVariants.{Within, Beyond, Spent}
use Rattle.files.specs.Bytes.{number_bytes}
use Rattle.method.specs.Searched.{Searched}
use Rattle.method.specs.Searched.{Refused, Answered}
use Rattle.method.specs.Problem.{problem}
use Rattle.method.specs.Answers.{outcome, run_iterate, run_answer, search_refusal, slots_after}

-- ---- Files

-- 2 bytes, in two's complement
unfoldable pub value_bytes : ℤ → List ℕ
value_bytes (pos n) = number_bytes 2 n
value_bytes (negsuc n) = number_bytes 2 (65535 - n)

unfoldable pub body_bytes : List ℤ → List ℕ
body_bytes [] = []
body_bytes (a ∷ v) = value_bytes a ++ body_bytes v

-- a fleet book by its values, boat by boat
unfoldable pub book_bytes : (boats columns : ℕ) → (values : List ℤ) → List ℕ
book_bytes n c vs = body_bytes vs ++ number_bytes 4 (2 * (n * c)) ++ number_bytes 2 n ++ number_bytes 2 c ++ WBK1

unfoldable pub sheet_bytes : (target : List ℤ) → (tolerance steps : ℕ) → List ℕ
sheet_bytes u d n = body_bytes u ++ number_bytes 4 (2 * length u) ++ number_bytes 2 (length u) ++ number_bytes 2 n ++ number_bytes 4 d ++ WSH1

-- fleet P: (0, 0), (4, 0), (0, 4)
unfoldable pub fleet_p : List ℕ
fleet_p = book_bytes 3 2 (pos 0 ∷ pos 0 ∷ pos 4 ∷ pos 0 ∷ pos 0 ∷ pos 4 ∷ [])

-- one boat at (0, 0)
unfoldable pub fleet_origin : List ℕ
fleet_origin = book_bytes 1 2 (pos 0 ∷ pos 0 ∷ [])

-- and two
unfoldable pub fleet_origin_twice : List ℕ
fleet_origin_twice = book_bytes 2 2 (pos 0 ∷ pos 0 ∷ pos 0 ∷ pos 0 ∷ [])

-- one column: -2,000 and 2,000
unfoldable pub fleet_far : List ℕ
fleet_far = book_bytes 2 1 (negsuc 1999 ∷ pos 2000 ∷ [])

-- ---- The table

-- a search and what comes of it
pub record Marked : Type 0 where
  pub book : List ℕ
  pub sheet : List ℕ
  -- the share list that is lent
  pub slots : List ℕ
  pub result : Searched
  -- the share list afterwards
  pub left : List ℕ

-- a share list with 2 slots more than there are boats, all 7
unfoldable pub lent : (boats : ℕ) → List ℕ
lent n = replicate (n + 2) 7

unfoldable pub marked_sheets : List Marked
marked_sheets =
    -- a
    record {
      book = fleet_p;
      sheet = sheet_bytes (pos 1 ∷ pos 1 ∷ []) 1 9;
      slots = lent 3;
      result = Answered (record { steps = 3; weight = 6; distance = 8; gap = 56; verdict = Within });
      left = 3 ∷ 1 ∷ 2 ∷ 7 ∷ 7 ∷ [];
    } ∷
    -- b
    record {
      book = fleet_p;
      sheet = sheet_bytes (pos 1 ∷ pos 1 ∷ []) 1 3;
      slots = lent 3;
      result = Answered (record { steps = 3; weight = 6; distance = 8; gap = 56; verdict = Within });
      left = 3 ∷ 1 ∷ 2 ∷ 7 ∷ 7 ∷ [];
    } ∷
    -- c
    record {
      book = fleet_p;
      sheet = sheet_bytes (pos 1 ∷ pos 1 ∷ []) 1 2;
      slots = lent 3;
      result = Answered (record { steps = 2; weight = 3; distance = 26; gap = 44; verdict = Spent 17 });
      left = 0 ∷ 1 ∷ 2 ∷ 7 ∷ 7 ∷ [];
    } ∷
    -- d
    record {
      book = fleet_p;
      sheet = sheet_bytes (pos 5 ∷ pos 5 ∷ []) 1 9;
      slots = lent 3;
      result = Answered (record { steps = 1; weight = 1; distance = 26; gap = 16; verdict = Beyond (negsuc 5) });
      left = 0 ∷ 1 ∷ 0 ∷ 7 ∷ 7 ∷ [];
    } ∷
    -- e
    record {
      book = fleet_origin;
      sheet = sheet_bytes (pos 3 ∷ pos 4 ∷ []) 25 1;
      slots = lent 1;
      result = Answered (record { steps = 1; weight = 1; distance = 25; gap = 0; verdict = Within });
      left = 1 ∷ 7 ∷ 7 ∷ [];
    } ∷
    -- f
    record {
      book = fleet_origin;
      sheet = sheet_bytes (pos 3 ∷ pos 4 ∷ []) 24 1;
      slots = lent 1;
      result = Answered (record { steps = 1; weight = 1; distance = 25; gap = 0; verdict = Beyond (pos 25) });
      left = 1 ∷ 7 ∷ 7 ∷ [];
    } ∷
    -- g
    record {
      book = fleet_origin_twice;
      sheet = sheet_bytes (pos 0 ∷ pos 0 ∷ []) 0 1;
      slots = lent 2;
      result = Answered (record { steps = 1; weight = 1; distance = 0; gap = 0; verdict = Within });
      left = 1 ∷ 0 ∷ 7 ∷ 7 ∷ [];
    } ∷
    -- h
    record {
      book = fleet_far;
      sheet = sheet_bytes (pos 2000 ∷ []) 0 1;
      slots = lent 2;
      result = Answered (record { steps = 1; weight = 1; distance = 0; gap = 0; verdict = Within });
      left = 0 ∷ 1 ∷ 7 ∷ 7 ∷ [];
    } ∷
    -- i
    record {
      book = fleet_far;
      sheet = sheet_bytes (pos 0 ∷ []) 0 2;
      slots = lent 2;
      result = Answered (record { steps = 2; weight = 3; distance = 4000000; gap = 16000000; verdict = Spent 4000000 });
      left = 2 ∷ 1 ∷ 7 ∷ 7 ∷ [];
    } ∷
    -- j
    record {
      book = fleet_p;
      sheet = sheet_bytes (pos 1 ∷ pos 1 ∷ []) 1 0;
      slots = lent 3;
      result = Refused 14;
      left = lent 3;
    } ∷ []

-- ---- The claim

-- the search's outcome is the table's, and so is the share list that it leaves
pub record MarkedRight (m : Marked) : Type 0 where
  pub result : outcome (search_refusal m.book m.sheet (length m.slots)) (run_answer (problem m.book m.sheet)) ≡ m.result
  pub left : slots_after (search_refusal m.book m.sheet (length m.slots)) (run_iterate (problem m.book m.sheet)).shares m.slots ≡ m.left

unfoldable pub AllMarked : Type 0
AllMarked = (m : Marked) → Memᴰ m marked_sheets → MarkedRight m
