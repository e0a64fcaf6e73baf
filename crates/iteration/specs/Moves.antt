-- A step of a state, by the numbers that it moves. Assumes nothing.
use Rattle.std.specs.Prelude.{ℕ, ◌+◌, ◌≤◌, ◌<◌, ℤ, pos, nat_abs, ◌+ℤ◌, ◌-ℤ◌, ◌*ℤ◌, ◌≤ℤ◌}
use Rattle.files.specs.Limits.{total_limit, sum_limit}
use Rattle.method.specs.Iterates.{natural}
use Rattle.scoring.specs.declared.Least.{Least}
use Rattle.iteration.specs.declared.State.{State}

-- E + 2 k (score - target-score) + k² (own - target)
unfoldable pub moved_distance : (e k : ℕ) → (score target-score own target : ℤ) → ℤ
moved_distance e k score target-score own target = pos e +ℤ pos k *ℤ (pos 2 *ℤ (score -ℤ target-score) +ℤ pos k *ℤ (own -ℤ target))

-- it is not below 0, and after few steps all of it keeps to 63 bits
pub record Moves (e k : ℕ) (score target-score own target : ℤ) : Type 0 where
  pub distance : e < sum_limit
  pub score_size : nat_abs score ≤ 33269760000000
  pub target_score_size : nat_abs target-score ≤ 33269760000000
  pub own_size : nat_abs own ≤ 512000000
  pub target_size : nat_abs target ≤ 512000000
  pub sign : pos 0 ≤ℤ moved_distance e k score target-score own target

-- the state after a step of x that gives k shares; p is the boat that the step after it picks, with its score
unfoldable pub next_state : (x : State) → (k : ℕ) → (score own target : ℤ) → (p : Least) → State
next_state x k score own target p =
    record {
      steps = x.steps + 1;
      weight = x.weight + k;
      distance = natural (moved_distance x.distance k score x.target_score own target);
      target_score = x.target_score +ℤ pos k *ℤ target;
      best = p.boat;
      least = p.score;
    }

pub record Steppable (x : State) (k : ℕ) (score own target : ℤ) : Type 0 where
  pub few_shares : x.weight ≤ total_limit
  pub moves : Moves x.distance k score x.target_score own target
