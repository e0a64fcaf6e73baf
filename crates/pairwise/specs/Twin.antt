-- A problem with factors is worked over as its plain twin is, whose columns stand as often as the factors say. Definitions only.
use Rattle.std.specs.Prelude.{◌≡◌, List, ℕ, length}
use Rattle.method.specs.Problem.{Problem}
use Rattle.repeated_columns.specs.Repeating.{plain_of}
use Rattle.pairwise.specs.Moves.{giver, taker, slope, apart, amount, moves, moves_made, worked_shares, worked_answer}

pub record SameMoves (p : Problem) : Type 0 where
  -- from any shares
  pub same_giver : (shares : List ℕ) → giver (plain_of p) shares ≡ giver p shares
  pub same_taker : (shares : List ℕ) → taker (plain_of p) shares ≡ taker p shares
  pub same_slope : (shares : List ℕ) → slope (plain_of p) shares ≡ slope p shares
  pub same_apart : (shares : List ℕ) → apart (plain_of p) shares ≡ apart p shares
  pub same_amount : (shares : List ℕ) → amount (plain_of p) shares ≡ amount p shares
  pub same_moves : (allowed : ℕ) (shares : List ℕ) → moves allowed (plain_of p) shares ≡ moves allowed p shares
  pub same_made : (allowed : ℕ) (shares : List ℕ) → moves_made allowed (plain_of p) shares ≡ moves_made allowed p shares
  -- from those of the run
  pub same_shares : (allowed : ℕ) → worked_shares (plain_of p) allowed ≡ worked_shares p allowed
  pub same_answer : (allowed : ℕ) → worked_answer (plain_of p) allowed ≡ worked_answer p allowed

unfoldable pub WorkedTwin : Type 0
WorkedTwin = (p : Problem) → length p.factors ≡ p.columns → SameMoves p
