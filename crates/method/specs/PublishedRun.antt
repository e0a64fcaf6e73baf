-- What it is for an answer and its shares, in whole numbers, to be those of the published method. Statements only. Assumes nothing.
use Rattle.std.specs.Prelude.{◌≡◌, ◌↔◌, List, ℕ, ◌*◌, ◌≤◌, ◌<◌, get_or, pos}
use Rattle.method.specs.declared.Test.TheVariants.{Sharper}
use Rattle.method.specs.declared.Answer.{Answer}
use Rattle.method.specs.Problem.{Problem}
use Rattle.method.specs.Iterates.{Iterate, direction, pick, iterate}
use Rattle.method.specs.Answers.{verdict_number, verdict_carries, answer_at}
use Rattle.method.specs.Bounds.{mixture_iterate}
use Rattle.method.specs.Fractions.{integer, IsRatio, ◌-ℚ◌, ◌*ℚ◌, ◌≤ℚ◌, ◌<ℚ◌}
use Rattle.method.specs.Published.{published_iterate, published_pick, published_distance, published_gap, published_floor}

-- the sharper test over fractions, of the squared distance d and the gap g after k steps: d > g, and (d - g)² > tolerance × d
pub record PublishedBeyond (p : Problem) (k : ℕ) : Type 0 where
  pub above : published_gap p k <ℚ published_distance p k
  pub far :
      integer (pos p.tolerance) *ℚ published_distance p k
      <ℚ (published_distance p k -ℚ published_gap p k) *ℚ (published_distance p k -ℚ published_gap p k)

-- that an iterate x in whole numbers and an answer are those of the published method after as many steps as
-- the answer says. W, E, G: the answer's weight, distance and gap. Verdicts by number: 1 Within, 2 Beyond, 3 Spent.
pub record IsPublished (p : Problem) (x : Iterate) (a : Answer) : Type 0 where
  -- each step up to there picks the published vertex; before the first no vertex holds shares, and the published weight is all at the first vertex
  pub same_pick : (k : ℕ) → k < a.steps → published_pick p k ≡ pick p (direction p k (iterate p k)) (iterate p k)
  -- each vertex's weight is share / W, each coordinate y / W
  pub weights : (i : ℕ) → IsRatio (get_or (published_iterate p a.steps).weights i (integer (pos 0))) (pos (get_or x.shares i 0)) a.weight
  pub point : (j : ℕ) → IsRatio (get_or (published_iterate p a.steps).point j (integer (pos 0))) (get_or x.point j (pos 0)) a.weight
  -- the squared distance is E / W², the duality gap G / W²
  pub distance : IsRatio (published_distance p a.steps) (pos a.distance) (a.weight * a.weight)
  pub gap : IsRatio (published_gap p a.steps) (pos a.gap) (a.weight * a.weight)
  -- Within exactly where the squared distance is at most the tolerance
  pub within : (verdict_number a.verdict ≡ 1) ↔ (published_distance p a.steps ≤ℚ integer (pos p.tolerance))
  -- Beyond exactly where it is not and the sharper test holds
  pub beyond :
      (verdict_number a.verdict ≡ 2)
      ↔ ((¬ (published_distance p a.steps ≤ℚ integer (pos p.tolerance))) × PublishedBeyond p a.steps)
  -- Beyond carries W² times the squared distance less twice the gap, Spent W² times the squared distance less the tolerance
  pub floor : verdict_number a.verdict ≡ 2 → IsRatio (published_floor p a.steps) (verdict_carries a.verdict) (a.weight * a.weight)
  pub shortfall : verdict_number a.verdict ≡ 3 →
      IsRatio (published_distance p a.steps -ℚ integer (pos p.tolerance)) (verdict_carries a.verdict) (a.weight * a.weight)

-- that they are after k steps: the iterate in whole numbers and the answer there
abbrev pub PublishedStep : Problem → (k : ℕ) → Type 0
PublishedStep p k = IsPublished p (iterate p k) (answer_at Sharper p k (iterate p k))

-- of an answer and its shares
pub record PublishedRun (p : Problem) (a : Answer) (shares : List ℕ) : Type 0 where
  -- after each step, up to the last and past it, the iterate and its answer are those of the published method
  pub each_step : (k : ℕ) → 1 ≤ k → PublishedStep p k
  -- and so are the answer given back and its shares, with the point that they make
  pub last_step : IsPublished p (mixture_iterate p shares) a
  -- no verdict of the published method stood before: its squared distance was above the tolerance
  pub none_within : (k : ℕ) → 1 ≤ k → k < a.steps → ¬ (published_distance p k ≤ℚ integer (pos p.tolerance))
  -- and the sharper test did not hold
  pub none_beyond : (k : ℕ) → 1 ≤ k → k < a.steps → ¬ (PublishedBeyond p k)
