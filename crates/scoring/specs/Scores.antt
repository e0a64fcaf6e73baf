-- What a pass over the boats gives back, and what the pick asks of scores and shares. Assumes nothing.
use Rattle.std.specs.Prelude.{List, ℕ, ◌≤◌, length, get_or, ℤ, pos}
use Rattle.method.specs.Iterates.{argmin, active_argmin}
use Rattle.method.specs.Minimum.{minimum}
use Rattle.sums.specs.Operands.{Bounded}
use Rattle.scoring.specs.declared.Least.{Least}

-- the boat of least score, the lowest number among equals, and its score
unfoldable pub least_of : (scores : List ℤ) → Least
least_of ps = record { boat = argmin ps; score = get_or ps (argmin ps) (pos 0) }

-- the boat that a step picks, by the shares held, and the least score, which is its score
unfoldable pub pick_of : (shares : List ℕ) → (scores : List ℤ) → Least
pick_of qs ps = record { boat = active_argmin qs ps; score = minimum ps }

-- a score and a share for each of the boats, of which there is one at least
pub record Pickable (scores : List ℤ) (shares : List ℕ) (boats : ℕ) : Type 0 where
  pub some_boats : 1 ≤ boats
  pub score_sizes : Bounded 33269760000000 boats scores
  pub in_shares : boats ≤ length shares
