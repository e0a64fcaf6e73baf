-- How small the duality gap gets, in whole numbers and over fractions. Definitions only. Assumes nothing.
use Rattle.std.specs.Prelude.{ℕ, ◌+◌, ◌*◌, ◌≤◌, pos}
use Rattle.method.specs.Problem.{Problem, weight}
use Rattle.method.specs.Iterates.{iterate, gap, diameter}
use Rattle.method.specs.Fractions.{ratio, ◌≤ℚ◌}
use Rattle.method.specs.Published.{published_gap}

-- that some step t of the first k has a duality gap of at most 27 D² / (4 (k + 2)), when the method is followed whatever the verdicts are
pub record SmallGap (p : Problem) (k : ℕ) : Type 0 where
  -- t
  pub at : ℕ
  pub some_step : 1 ≤ at
  pub most_steps : at ≤ k
  -- in whole numbers: 4 (k + 2) G ≤ 27 D² W²
  pub bound : 4 * (k + 2) * gap p at (iterate p at) ≤ 27 * diameter p * (weight p.schedule at * weight p.schedule at)
  -- of the published method as fractions; the denominator is 4 k + 7 + 1
  pub published : published_gap p at ≤ℚ ratio (pos (27 * diameter p)) (4 * k + 7)
