-- Cards that are checked one by one: how their shares stand in a list of slots, 256 a card, and how one card more is added. Definitions only.
use Rattle.std.specs.Prelude.{◌≡◌, cond, List, [], ◌∷◌, ◌++◌, ℕ, zero, suc, ◌*◌, ◌≤◌, ◌<◌, eqb, ltb, length, take, drop}
use Rattle.frank_wolfe.specs.Vectors.{sum}
use Rattle.files.specs.Book.{boats}
use Rattle.leaning.specs.Report.{Pair, most_cards, start_refusal, refusal_so_far, shares_of, counts, lean_text}

-- the slots of a card
abbrev pub card_slots : ℕ
card_slots = 256

-- the shares of so many cards, each in the first slots of its 256, one a boat
unfoldable pub parts : (cards boats : ℕ) → (slots : List ℕ) → List (List ℕ)
parts zero n slots = []
parts (suc k) n slots = take n slots ∷ parts k n (drop card_slots slots)

-- ---- Card by card

-- of the `cards` cards of a report these pairs were checked: `refusal` is what refused so far, and while nothing did, the slots have their shares
pub record Checked (b : List ℕ) (cards : ℕ) (ps : List Pair) (refusal : ℕ) (slots : List ℕ) : Type 0 where
  pub refusal_is : refusal ≡ refusal_so_far b cards ps
  pub room : refusal ≡ 0 → card_slots * cards ≤ length slots
  pub shares_are : refusal ≡ 0 → parts (length ps) (boats b) slots ≡ shares_of b ps

-- before the first card, in any list with slots for 64
abbrev pub Starts : (b : List ℕ) → (cards refusal : ℕ) → Type 0
Starts b n refusal = (slots : List ℕ) → card_slots * most_cards ≤ length slots → Checked b n [] refusal slots

-- one pair more: whatever was checked before it, as many pairs as `before` says, it is checked too
abbrev pub AddsPair : (b : List ℕ) → Pair → (before : ℕ) → (old : List ℕ) → (refusal : ℕ) → (new : List ℕ) → Type 0
AddsPair b p k old refusal new =
    (n : ℕ) (ps : List Pair) → Checked b n ps 0 old → length ps ≡ k → k < n → Checked b n (ps ++ (p ∷ [])) refusal new

-- ---- The report of what the slots hold

-- a number that refused before, else the book's, 58, or 21: fewer slots than 256 a card
unfoldable pub slots_refusal : (book : List ℕ) → (refusal cards slots : ℕ) → ℕ
slots_refusal b r n slots =
    cond (eqb r 0) (cond (eqb (start_refusal b n) 0) (cond (ltb slots (card_slots * n)) 21 0) (start_refusal b n)) r

-- the lines of the shares in the slots, the total that of the counts
unfoldable pub slots_listing : (book : List ℕ) → (refusal cards : ℕ) → (slots : List ℕ) → List ℕ
slots_listing b r n slots =
    let qs = parts n (boats b) slots in
    lean_text (slots_refusal b r n (length slots)) (boats b) (sum (counts (boats b) qs)) qs
