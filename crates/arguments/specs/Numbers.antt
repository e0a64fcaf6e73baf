-- The number that an argument says in decimal figures. Definitions only. Assumes nothing.
use Rattle.std.specs.Prelude.{Bool, true, ◌&&◌, not, cond, List, [], ◌∷◌, ℕ, eqb, leb, ltb, length, Option, None, Some}
use Rattle.text.specs.Decimal.{read_decimal}

-- whether a byte is a figure, 0 (48) to 9 (57)
unfoldable pub is_figure : ℕ → Bool
is_figure b = leb 48 b && leb b 57

-- whether all bytes are
unfoldable pub all_figures : List ℕ → Bool
all_figures [] = true
all_figures (b ∷ bs) = is_figure b && all_figures bs

-- whether a text is a number of 32 bits: one figure or more, nothing else, and not above 4,294,967,295
unfoldable pub is_number : (text : List ℕ) → Bool
is_number bs = not (eqb (length bs) 0) && (all_figures bs && ltb (read_decimal bs) 4294967296)

-- such a number, or none
unfoldable pub number_in : (text : List ℕ) → Option ℕ
number_in bs = cond (is_number bs) (Some (read_decimal bs)) None
