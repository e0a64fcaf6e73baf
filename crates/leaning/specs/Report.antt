-- Which boats some cards rest on: what refuses the report, the counts and the lines. Definitions only.
use Rattle.std.specs.Prelude.{cond, List, [], ◌∷◌, ◌++◌, ℕ, zero, suc, ◌+◌, ◌-◌, eqb, ltb, length, take, drop, get_or}
use Rattle.files.specs.Bytes.{between}
use Rattle.files.specs.Book.{boats, columns, book_refusal}
use Rattle.files.specs.Sheet.{sheet_refusal}
use Rattle.text.specs.Lines.{number_line, pair_line}
use Rattle.listing.specs.Lines.{boat_lines, refused_line}
use Rattle.card_format.specs.Format.{pair_count, card_shares}
use Rattle.card_format.specs.Checks.{card_refusal}

-- a sheet, and the card that is checked with it
pub record Pair : Type 0 where
  pub sheet : List ℕ
  pub card : List ℕ

-- a sheet and a card, as a pair
abbrev pub pair_of : (sheet card : List ℕ) → Pair
pair_of s w = record { sheet = s; card = w }

-- the most cards of a report
abbrev pub most_cards : ℕ
most_cards = 64

-- how many cards make a stretch
abbrev pub stretch_cards : ℕ
stretch_cards = 12

-- ---- What refuses

-- the first refusal that applies to a pair, for an accepted book: 11 to 17 and 46 of the sheet, then 31 to 39 of the card; 0 if none does
unfoldable pub pair_refusal : (book : List ℕ) → Pair → ℕ
pair_refusal b p =
    let own = sheet_refusal (columns b) p.sheet in
    cond (eqb own 0) (card_refusal b p.sheet p.card) own

-- that of the first pair which is refused, in card order
unfoldable pub pairs_refusal : (book : List ℕ) → List Pair → ℕ
pairs_refusal b [] = 0
pairs_refusal b (p ∷ ps) = cond (eqb (pair_refusal b p) 0) (pairs_refusal b ps) (pair_refusal b p)

-- before any sheet or card is read: 1 to 6 of the book, then 58, a number of cards that is not 1 to 64
unfoldable pub start_refusal : (book : List ℕ) → (cards : ℕ) → ℕ
start_refusal b n = cond (eqb (book_refusal b) 0) (cond (between 1 most_cards n) 0 58) (book_refusal b)

-- of `cards` cards, the first of which are these pairs
unfoldable pub refusal_so_far : (book : List ℕ) → (cards : ℕ) → List Pair → ℕ
refusal_so_far b n ps = cond (eqb (start_refusal b n) 0) (pairs_refusal b ps) (start_refusal b n)

-- the refusal of a report: the book's, the number of cards, then pair by pair
unfoldable pub lean_refusal : (book : List ℕ) → List Pair → ℕ
lean_refusal b ps = refusal_so_far b (length ps) ps

-- ---- The counts

-- the shares of each card, one a boat
unfoldable pub shares_of : (book : List ℕ) → List Pair → List (List ℕ)
shares_of b [] = []
shares_of b (p ∷ ps) = card_shares (boats b) p.card ∷ shares_of b ps

-- how many of some cards, given by their shares, rest on a boat
unfoldable pub cards_on : (boat : ℕ) → (cards : List (List ℕ)) → ℕ
cards_on i [] = 0
cards_on i (q ∷ qs) = cond (eqb (get_or q i 0) 0) 0 1 + cards_on i qs

-- the same of so many boats, from a boat on
unfoldable pub counts_from : (first boats : ℕ) → (cards : List (List ℕ)) → List ℕ
counts_from i zero qs = []
counts_from i (suc n) qs = cards_on i qs ∷ counts_from (suc i) n qs

-- of all boats
abbrev pub counts : (boats : ℕ) → (cards : List (List ℕ)) → List ℕ
counts n qs = counts_from 0 n qs

-- the entries in the bodies of all cards
unfoldable pub entries : List Pair → ℕ
entries [] = 0
entries (p ∷ ps) = pair_count p.card + entries ps

-- ---- The boat that most cards rest on

-- where the greatest of some numbers stands first: `greatest` stands at `best`, the numbers left from `i` on
unfoldable pub argmax_from : (i best greatest : ℕ) → List ℕ → ℕ
argmax_from i best greatest [] = best
argmax_from i best greatest (x ∷ xs) = cond (ltb greatest x) (argmax_from (suc i) i x xs) (argmax_from (suc i) best greatest xs)

unfoldable pub argmax : List ℕ → ℕ
argmax xs = argmax_from 0 0 0 xs

unfoldable pub most_used : (boats : ℕ) → (cards : List (List ℕ)) → ℕ
most_used n qs = argmax (counts n qs)

-- ---- The lines

-- "total "
abbrev pub total_word : List ℕ
total_word = 116 ∷ 111 ∷ 116 ∷ 97 ∷ 108 ∷ 32 ∷ []

-- "stretch "
abbrev pub stretch_word : List ℕ
stretch_word = 115 ∷ 116 ∷ 114 ∷ 101 ∷ 116 ∷ 99 ∷ 104 ∷ 32 ∷ []

-- the cards of the stretch that begins behind so many cards
abbrev pub stretch : (before : ℕ) → (cards : List (List ℕ)) → List (List ℕ)
stretch i qs = take stretch_cards (drop i qs)

-- how many stretches so many cards have
abbrev pub stretches : (cards : ℕ) → ℕ
stretches n = suc n - stretch_cards

-- the lines of so many stretches, the first of which begins behind so many cards: its first card, counted from 1, and the boat that most of
-- its cards rest on
unfoldable pub stretch_lines : (boats : ℕ) → (cards : List (List ℕ)) → (count before : ℕ) → List ℕ
stretch_lines n qs zero i = []
stretch_lines n qs (suc m) i = pair_line stretch_word (suc i) (most_used n (stretch i qs)) ++ stretch_lines n qs m (suc i)

-- a line for each boat that a card rests on, ascending; the total; a line for each stretch
unfoldable pub lean_lines : (boats total : ℕ) → (cards : List (List ℕ)) → List ℕ
lean_lines n total qs = boat_lines 0 (counts n qs) ++ (number_line total_word total ++ stretch_lines n qs (stretches (length qs)) 0)

-- these lines, or the number that refuses
unfoldable pub lean_text : (refusal boats total : ℕ) → (cards : List (List ℕ)) → List ℕ
lean_text zero n total qs = lean_lines n total qs
lean_text (suc r) n total qs = refused_line (suc r)

-- the report of a book and some pairs
unfoldable pub lean_listing : (book : List ℕ) → List Pair → List ℕ
lean_listing b ps = lean_text (lean_refusal b ps) (boats b) (entries ps) (shares_of b ps)
