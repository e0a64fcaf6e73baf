-- What is promised of a conversion. Definitions only.
use Rattle.std.specs.Prelude.{◌≡◌, cond, List, ℕ, ◌≤◌, length, take}
use Rattle.files.specs.Sheet.{WSH1, WSH2, sheet_lettered, sheet, sheet_refusal_in}
use Rattle.files.specs.Editions.{Editions}
use Rattle.editions.specs.Rewritten.{Rewritten, Refused, Wrote}
use Rattle.editions.specs.Rewriting.{sheet_front, other_edition, edition_refusal, rewriting_number}
use Rattle.editions.specs.Outcomes.{SameOutcomes}

-- of a sheet s and its conversion o
pub record Converted (s o : List ℕ) : Type 0 where
  -- it has the letters of the other edition
  pub first_letters : sheet_lettered WSH1 o ≡ sheet_lettered WSH2 s
  pub second_letters : sheet_lettered WSH2 o ≡ sheet_lettered WSH1 s
  -- it is not refused, and asks for the same target, factors, steps and tolerance
  pub accepted : sheet_refusal_in 1 64 o ≡ 0
  pub same_sheet : sheet o ≡ sheet s
  -- behind the same front text
  pub same_front : sheet_front o ≡ sheet_front s
  -- converted back, in an output that has room, it is the sheet that it came from, byte for byte
  pub back_accepted : (room : ℕ) → length s ≤ room → edition_refusal o room ≡ 0
  pub back : other_edition o ≡ s
  -- the two differ in their edition alone: what every entry promises of editions is promised of them
  pub editions : Editions s o
  -- so on every book both have the same search, card, check and better of two cards
  pub same_outcomes : (b : List ℕ) → SameOutcomes b s o

-- of what is given back, and the output that is left
pub record EditionRight (s : List ℕ) (r : Rewritten) (output : List ℕ) : Type 0 where
  -- its number is that of the first test that fails, 0 where none does
  pub number : rewriting_number r ≡ edition_refusal s (length output)
  -- a refusal is never the number 0
  pub refused : (n : ℕ) → r ≡ Refused n → 1 ≤ n
  -- the sheet that was written is in the first bytes, as many as are given back
  pub wrote : (edition size : ℕ) → r ≡ Wrote edition size → Converted s (take size output)
  -- and the edition that is given back is that of its letters
  pub edition_is : (edition size : ℕ) → r ≡ Wrote edition size → edition ≡ cond (sheet_lettered WSH2 (take size output)) 2 1
