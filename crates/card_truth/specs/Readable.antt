-- What is asked of a card before its truth is judged. Definitions only.
use Rattle.std.specs.Prelude.{List, ℕ, ◌≤◌, length}
use Rattle.card_format.specs.Format.{card_fields}

-- a whole trailer, and 1 to `steps` steps used
pub record CardReadable (steps : ℕ) (w : List ℕ) : Type 0 where
  pub long : 36 ≤ length w
  pub some_step : 1 ≤ (card_fields w).steps
  pub most_steps : (card_fields w).steps ≤ steps
