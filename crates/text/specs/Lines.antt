-- Lines of text, as ASCII bytes: a word, one number or two with a space between, a newline. Definitions only. Assumes nothing.
use Rattle.std.specs.Prelude.{List, [], ◌∷◌, ◌++◌, ℕ}
use Rattle.text.specs.Decimal.{decimal}

unfoldable pub number_line : (word : List ℕ) → (a : ℕ) → List ℕ
number_line word a = word ++ (decimal a ++ (10 ∷ []))

unfoldable pub pair_line : (word : List ℕ) → (a b : ℕ) → List ℕ
pair_line word a b = word ++ (decimal a ++ ((32 ∷ []) ++ (decimal b ++ (10 ∷ []))))
