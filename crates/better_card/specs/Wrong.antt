-- Which of two cards a refusal is of. Definitions only.
use Rattle.std.specs.Prelude.{cond, List, ℕ, eqb}
use Rattle.card_format.specs.Checks.{check_refusal}

-- 1 where the first card or the files are refused, else 2
unfoldable pub wrong_card : (book sheet first : List ℕ) → ℕ
wrong_card b s x = cond (eqb (check_refusal b s x 256) 0) 2 1
