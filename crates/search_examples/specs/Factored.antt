-- Marked sheets with factors: ten searches, a book whose rows differ and whose D² is 0, and two cards judged by sheets with other
-- factors. Definitions only.
use Rattle.std.specs.Prelude.{◌≡◌, ℕ, ◌*◌, length, ℤ, pos, negsuc}
use mathlib.Core.List.{List, [], ◌∷◌, ◌++◌, Memᴰ}
use Rattle.files.specs.Bytes.{number_bytes}
use Rattle.files.specs.Book.{rows}
use Rattle.files.specs.Sheet.{WSH2}
use Rattle.method.specs.declared.Verdict.TheVariants.{Within, Beyond, Spent}
use Rattle.method.specs.declared.Test.TheVariants.{Sharper}
use Rattle.method.specs.Searched.{Refused, Answered}
use Rattle.method.specs.Problem.{problem}
use Rattle.method.specs.Iterates.{diameter}
use Rattle.card_format.specs.Format.{card_bytes}
use Rattle.card_format.specs.Checks.{check_refusal}
use Rattle.search_examples.specs.Marked.{body_bytes, book_bytes, sheet_bytes, fleet_p, Marked, lent, MarkedRight}

-- ---- Files

-- a sheet of the edition WSH2: a factor for each column after the values
unfoldable pub factored_bytes : (target : List ℤ) → (factors : List ℕ) → (tolerance steps : ℕ) → List ℕ
factored_bytes u fs d n = body_bytes u ++ fs ++ number_bytes 4 (3 * length u) ++ number_bytes 2 (length u) ++ number_bytes 2 n ++ number_bytes 4 d ++ WSH2

-- (1, 1), the target of all sheets of fleet P here
unfoldable pub middle : List ℤ
middle = pos 1 ∷ pos 1 ∷ []

-- two boats that differ in their second column: (0, 0), (0, 4)
unfoldable pub fleet_column : List ℕ
fleet_column = book_bytes 2 2 (pos 0 ∷ pos 0 ∷ pos 0 ∷ pos 4 ∷ [])

-- one boat in one column: 2,000
unfoldable pub fleet_single : List ℕ
fleet_single = book_bytes 1 1 (pos 2000 ∷ [])

-- ---- The table

unfoldable pub factored_sheets : List Marked
factored_sheets =
    -- k: the factor changes the first pick from boat 1 to boat 2
    record {
      book = fleet_p;
      sheet = factored_bytes middle (1 ∷ 2 ∷ []) 1 2;
      slots = lent 3;
      result = Answered (record { steps = 2; weight = 3; distance = 27; gap = 48; verdict = Spent 18 });
      left = 0 ∷ 2 ∷ 1 ∷ 7 ∷ 7 ∷ [];
    } ∷
    -- l
    record {
      book = fleet_p;
      sheet = factored_bytes middle (1 ∷ 2 ∷ []) 3 9;
      slots = lent 3;
      result = Answered (record { steps = 2; weight = 3; distance = 27; gap = 48; verdict = Within });
      left = 0 ∷ 2 ∷ 1 ∷ 7 ∷ 7 ∷ [];
    } ∷
    -- m: the column in which the boats differ does not count
    record {
      book = fleet_column;
      sheet = factored_bytes (pos 3 ∷ pos 1 ∷ []) (1 ∷ 0 ∷ []) 8 5;
      slots = lent 2;
      result = Answered (record { steps = 1; weight = 1; distance = 9; gap = 0; verdict = Beyond (pos 9) });
      left = 1 ∷ 0 ∷ 7 ∷ 7 ∷ [];
    } ∷
    -- n
    record {
      book = fleet_column;
      sheet = factored_bytes (pos 3 ∷ pos 1 ∷ []) (1 ∷ 0 ∷ []) 9 5;
      slots = lent 2;
      result = Answered (record { steps = 1; weight = 1; distance = 9; gap = 0; verdict = Within });
      left = 1 ∷ 0 ∷ 7 ∷ 7 ∷ [];
    } ∷
    -- o: one column has all that factors may total
    record {
      book = fleet_p;
      sheet = factored_bytes middle (64 ∷ 0 ∷ []) 8 2;
      slots = lent 3;
      result = Answered (record { steps = 2; weight = 3; distance = 64; gap = 256; verdict = Within });
      left = 2 ∷ 1 ∷ 0 ∷ 7 ∷ 7 ∷ [];
    } ∷
    -- p
    record {
      book = fleet_p;
      sheet = factored_bytes middle (64 ∷ 0 ∷ []) 7 2;
      slots = lent 3;
      result = Answered (record { steps = 2; weight = 3; distance = 64; gap = 256; verdict = Spent 1 });
      left = 2 ∷ 1 ∷ 0 ∷ 7 ∷ 7 ∷ [];
    } ∷
    -- q: every factor 1, which is sheet a
    record {
      book = fleet_p;
      sheet = factored_bytes middle (1 ∷ 1 ∷ []) 1 9;
      slots = lent 3;
      result = Answered (record { steps = 3; weight = 6; distance = 8; gap = 56; verdict = Within });
      left = 3 ∷ 1 ∷ 2 ∷ 7 ∷ 7 ∷ [];
    } ∷
    -- r: the greatest squared distance
    record {
      book = fleet_single;
      sheet = factored_bytes (negsuc 1999 ∷ []) (64 ∷ []) 1024000000 1;
      slots = lent 1;
      result = Answered (record { steps = 1; weight = 1; distance = 1024000000; gap = 0; verdict = Within });
      left = 1 ∷ 7 ∷ 7 ∷ [];
    } ∷
    -- s
    record {
      book = fleet_single;
      sheet = factored_bytes (negsuc 1999 ∷ []) (64 ∷ []) 1023999999 1;
      slots = lent 1;
      result = Answered (record { steps = 1; weight = 1; distance = 1024000000; gap = 0; verdict = Beyond (pos 1024000000) });
      left = 1 ∷ 7 ∷ 7 ∷ [];
    } ∷
    -- t: no factor above 0
    record {
      book = fleet_p;
      sheet = factored_bytes middle (0 ∷ 0 ∷ []) 1 9;
      slots = lent 3;
      result = Refused 46;
      left = lent 3;
    } ∷ []

unfoldable pub AllFactored : Type 0
AllFactored = (m : Marked) → Memᴰ m factored_sheets → MarkedRight m

-- ---- D²

-- the rows differ, and D² is 0 by the factors of sheet m; by a sheet without factors it is 16
pub record Diameters : Type 0 where
  pub rows_differ : rows fleet_column ≡ (pos 0 ∷ pos 0 ∷ []) ∷ (pos 0 ∷ pos 4 ∷ []) ∷ []
  pub by_factors : diameter (problem fleet_column (factored_bytes (pos 3 ∷ pos 1 ∷ []) (1 ∷ 0 ∷ []) 8 5)) ≡ 0
  pub without : diameter (problem fleet_column (sheet_bytes (pos 3 ∷ pos 1 ∷ []) 8 5)) ≡ 16

-- ---- Cards

-- the card of sheet c, which has no factors, and that of sheet k
unfoldable pub card_c : List ℕ
card_c = card_bytes Sharper (record { steps = 2; weight = 3; distance = 26; gap = 44; verdict = Spent 17 }) (0 ∷ 1 ∷ 2 ∷ []) 1 3 2

unfoldable pub card_k : List ℕ
card_k = card_bytes Sharper (record { steps = 2; weight = 3; distance = 27; gap = 48; verdict = Spent 18 }) (0 ∷ 2 ∷ 1 ∷ []) 1 3 2

-- each is accepted by its own factors and refused by the other's; factors of 1 are none
pub record JudgedByFactors : Type 0 where
  pub c_without : check_refusal fleet_p (sheet_bytes middle 1 2) card_c 3 ≡ 0
  pub c_ones : check_refusal fleet_p (factored_bytes middle (1 ∷ 1 ∷ []) 1 2) card_c 3 ≡ 0
  pub c_factors : check_refusal fleet_p (factored_bytes middle (1 ∷ 2 ∷ []) 1 2) card_c 3 ≡ 38
  pub k_without : check_refusal fleet_p (sheet_bytes middle 1 2) card_k 3 ≡ 38
  pub k_factors : check_refusal fleet_p (factored_bytes middle (1 ∷ 2 ∷ []) 1 2) card_k 3 ≡ 0
