-- What is promised of the better of two cards. Definitions only.
use Rattle.std.specs.Prelude.{◌≡◌, cond, ◌↔◌, List, [], ◌++◌, ℕ, ◌+◌, ◌*◌, ◌≤◌, eqb, pos, length}
use Rattle.files.specs.Book.{boats}
use Rattle.files.specs.Sheet.{files_refusal}
use Rattle.files.specs.Editions.{Editions}
use Rattle.files.specs.Front.{SameBook, SameSheet}
use Rattle.method.specs.declared.Answer.{Answer}
use Rattle.method.specs.Fractions.{Fraction, IsRatio, ◌≤ℚ◌, ◌<ℚ◌}
use Rattle.card_format.specs.Format.{card_fields, card_shares, card_answer}
use Rattle.card_format.specs.Checks.{check_refusal}
use Rattle.card_format.specs.Truth.{CardTrue}
use Rattle.card_format.specs.Front.{SameCard}
use Rattle.card_format.specs.Filing.{ReadsBack}
use Rattle.better_card_promise.specs.Choices.{better_refusal, better_number, better, better_part}

-- a fraction is the squared distance E / W² of an answer; W is above 0
abbrev pub IsDistance : Fraction → Answer → Type 0
IsDistance q a = IsRatio q (pos a.distance) (a.weight * a.weight)

-- of the part that is handed back where nothing is refused
pub record PartRight (b s x y part : List ℕ) : Type 0 where
  -- ---- The bytes: the end of the better card, its body and trailer
  pub front : List ℕ
  pub ends : front ++ part ≡ better b s x y
  pub size : length part ≡ (card_fields (better b s x y)).back + 36
  -- the check accepts them, and reads from them the better card's answer and shares
  pub reads_back : ReadsBack b s part (card_answer b s (better b s x y)) (card_shares (boats b) (better b s x y))
  -- ---- The squared distances of the part and of the two cards, as exact fractions
  pub distance : Fraction
  pub first_distance : Fraction
  pub second_distance : Fraction
  pub distance_is : IsDistance distance (card_answer b s part)
  pub first_is : IsDistance first_distance (card_answer b s x)
  pub second_is : IsDistance second_distance (card_answer b s y)
  -- that of the part is at most that of either card
  pub most_first : distance ≤ℚ first_distance
  pub most_second : distance ≤ℚ second_distance
  -- the second is chosen exactly where its own is the lesser; so equal ones give the first
  pub second_exactly : (better_number b s x y ≡ 2) ↔ (second_distance <ℚ first_distance)
  -- and then the part's is less than the first's
  pub less : better_number b s x y ≡ 2 → distance <ℚ first_distance

-- of the number that is left and the part that is handed back
pub record BetterRight (b s x y : List ℕ) (n : ℕ) (part : List ℕ) : Type 0 where
  -- the number by which the check, with a share list of 256 slots, refuses the first card, else the second
  pub as_checked : n ≡ cond (eqb (check_refusal b s x 256) 0) (check_refusal b s y 256) (check_refusal b s x 256)
  -- where book and sheet serve, nothing is refused exactly when both cards are true
  pub exactly : files_refusal b s ≡ 0 → (n ≡ 0) ↔ (CardTrue b s x × CardTrue b s y)
  -- a refusal hands back no bytes
  pub refused : 1 ≤ n → part ≡ []
  pub chosen : n ≡ 0 → PartRight b s x y part
  -- for a sheet of the other edition that asks for the same, every factor 1, the number and the part are the same
  pub editions : (s' : List ℕ) → Editions s s' → (better_refusal b s' x y ≡ better_refusal b s x y) × (better_part b s' x y ≡ better_part b s x y)
  -- front text is never read: of files and cards that differ from these in front text alone the number, the card chosen and its part are the same
  pub fronts : (b' s' x' y' : List ℕ) → SameBook b b' → SameSheet s s' → SameCard x x' → SameCard y y' →
      (better_refusal b' s' x' y' ≡ better_refusal b s x y)
      × ((better_number b' s' x' y' ≡ better_number b s x y) × (better_part b' s' x' y' ≡ better_part b s x y))
