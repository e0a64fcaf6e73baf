-- The listing of one answer, computed: three boats in two columns, tolerance 1, 9 steps. Assumes nothing.
use mathlib.Core.Path.{◌≡◌, refl}
use mathlib.Core.List.{List, [], ◌∷◌}
use Prim.Native.Nat.{ℕ}
use Rattle.method.specs.declared.Verdict.TheVariants.{Within}
use Rattle.method.specs.declared.Answer.{Answer}
use Rattle.text.specs.Decimal.{leading, decimal}
use Rattle.text.specs.Lines.{number_line, pair_line}
use Rattle.listing.specs.Lines.{verdict_word, boat_line, boat_lines, head_lines, listing_of}

abbrev answer : Answer
answer = record { steps = 3; weight = 6; distance = 8; gap = 56; verdict = Within }

-- "fleet 3 2", "sheet 1 9", "within 3 6", "distance 8", "gap 56", "boat 0 3", "boat 1 1", "boat 2 2"
abbrev eight_lines : List ℕ
eight_lines =
    102 ∷ 108 ∷ 101 ∷ 101 ∷ 116 ∷ 32 ∷ 51 ∷ 32 ∷ 50 ∷ 10 ∷
    115 ∷ 104 ∷ 101 ∷ 101 ∷ 116 ∷ 32 ∷ 49 ∷ 32 ∷ 57 ∷ 10 ∷
    119 ∷ 105 ∷ 116 ∷ 104 ∷ 105 ∷ 110 ∷ 32 ∷ 51 ∷ 32 ∷ 54 ∷ 10 ∷
    100 ∷ 105 ∷ 115 ∷ 116 ∷ 97 ∷ 110 ∷ 99 ∷ 101 ∷ 32 ∷ 56 ∷ 10 ∷
    103 ∷ 97 ∷ 112 ∷ 32 ∷ 53 ∷ 54 ∷ 10 ∷
    98 ∷ 111 ∷ 97 ∷ 116 ∷ 32 ∷ 48 ∷ 32 ∷ 51 ∷ 10 ∷
    98 ∷ 111 ∷ 97 ∷ 116 ∷ 32 ∷ 49 ∷ 32 ∷ 49 ∷ 10 ∷
    98 ∷ 111 ∷ 97 ∷ 116 ∷ 32 ∷ 50 ∷ 32 ∷ 50 ∷ 10 ∷ []

pub example : listing_of 3 2 1 9 answer (3 ∷ 1 ∷ 2 ∷ []) ≡ eight_lines
unfolding leading decimal number_line pair_line verdict_word boat_line boat_lines head_lines listing_of
example = refl
