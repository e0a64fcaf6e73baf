-- Reports of small sets of cards, worked by hand. Definitions only. The fleet has the rows (0, 0), (4, 0), (0, 4); the sheet asks for (1, 1) within
-- 100 in 9 steps, so that every card is Within.
use Rattle.std.specs.Prelude.{◌≡◌, List, [], ◌∷◌, ◌++◌, ℕ, replicate}
use Rattle.text.specs.Lines.{number_line, pair_line}
use Rattle.listing.specs.Lines.{boat_word, refused_line}
use Rattle.method.specs.declared.Test.TheVariants.{Former, Sharper}
use Rattle.method.specs.declared.Test.{Test}
use Rattle.method.specs.Problem.{problem}
use Rattle.method.specs.Bounds.{answer_of}
use Rattle.card_format.specs.Format.{card_bytes}
use Rattle.leaning.specs.Report.{Pair, start_refusal, lean_listing, total_word, stretch_word}

unfoldable pub fleet : List ℕ
fleet = 0 ∷ 0 ∷ 0 ∷ 0 ∷ 4 ∷ 0 ∷ 0 ∷ 0 ∷ 0 ∷ 0 ∷ 4 ∷ 0 ∷ 12 ∷ 0 ∷ 0 ∷ 0 ∷ 3 ∷ 0 ∷ 2 ∷ 0 ∷ 87 ∷ 66 ∷ 75 ∷ 49 ∷ []

-- with so many steps, 9 or 0
unfoldable pub sheet_of : (steps : ℕ) → List ℕ
sheet_of n = 1 ∷ 0 ∷ 1 ∷ 0 ∷ 4 ∷ 0 ∷ 0 ∷ 0 ∷ 2 ∷ 0 ∷ n ∷ 0 ∷ 100 ∷ 0 ∷ 0 ∷ 0 ∷ 87 ∷ 83 ∷ 72 ∷ 49 ∷ []

-- a card of these shares after so many steps, of either edition, behind front text
unfoldable pub card_of : (front : List ℕ) → Test → (shares : List ℕ) → (steps : ℕ) → Pair
card_of front test qs t =
    record { sheet = sheet_of 9; card = front ++ card_bytes test (answer_of test (problem fleet (sheet_of 9)) qs t) qs 100 3 2 }

-- a card of one step on boat 0, and on boat 1; one of two steps on boat 1; one on boats 1 and 2; one on all
unfoldable pub on_0 : Pair
on_0 = card_of [] Sharper (1 ∷ 0 ∷ 0 ∷ []) 1

unfoldable pub on_1 : Pair
on_1 = card_of [] Former (0 ∷ 1 ∷ 0 ∷ []) 1

unfoldable pub twice_1 : Pair
twice_1 = card_of (120 ∷ []) Sharper (0 ∷ 3 ∷ 0 ∷ []) 2

unfoldable pub on_1_2 : Pair
on_1_2 = card_of [] Sharper (0 ∷ 1 ∷ 2 ∷ []) 2

unfoldable pub on_all : Pair
on_all = card_of [] Sharper (3 ∷ 1 ∷ 2 ∷ []) 3

-- an empty card, and one with a sheet of no steps
unfoldable pub empty : (steps : ℕ) → Pair
empty n = record { sheet = sheet_of n; card = [] }

pub record Examples : Type 0 where
  -- 3 cards with 1, 2 and 3 entries
  pub three : lean_listing fleet (on_0 ∷ on_1_2 ∷ on_all ∷ []) ≡ pair_line boat_word 0 2 ++ pair_line boat_word 1 2 ++ pair_line boat_word 2 2 ++ number_line total_word 6
  -- 11 cards have no stretch; 12 have one, in which 6 cards rest on either boat; of 13 the last 12 rest more on boat 1
  pub eleven : lean_listing fleet (replicate 6 on_0 ++ replicate 5 on_1) ≡ pair_line boat_word 0 6 ++ pair_line boat_word 1 5 ++ number_line total_word 11
  pub twelve : lean_listing fleet (replicate 6 on_0 ++ replicate 6 on_1) ≡ pair_line boat_word 0 6 ++ pair_line boat_word 1 6 ++ number_line total_word 12 ++ pair_line stretch_word 1 0
  pub thirteen : lean_listing fleet (replicate 6 on_0 ++ replicate 6 on_1 ++ (twice_1 ∷ [])) ≡
      pair_line boat_word 0 6 ++ pair_line boat_word 1 7 ++ number_line total_word 13 ++ pair_line stretch_word 1 0 ++ pair_line stretch_word 2 1
  -- the number of cards is tested before any of them
  pub none : lean_listing fleet [] ≡ refused_line 58
  pub one : start_refusal fleet 1 ≡ 0
  pub sixty_four : start_refusal fleet 64 ≡ 0
  pub sixty_five : start_refusal fleet 65 ≡ 58
  -- the first that is refused, in card order; of a pair the sheet comes first
  pub sheet_first : lean_listing fleet (on_0 ∷ empty 0 ∷ []) ≡ refused_line 14
  pub card_order : lean_listing fleet (on_0 ∷ empty 9 ∷ empty 0 ∷ []) ≡ refused_line 31
