-- `test_gap::follow` meets its contract. The loop keeps `Followed`: state, shares, scores and memory are those of the method after as many steps as the state says.
-- A turn is one call of `step`, whose contract gives all of them after one step more.
use mathlib.Core.Path.{◌≡◌}
use Rattle.run_loop.specs.Runs.{memory_of}
use Rattle.test_gap.proofs.Following.{Followed}
use Rattle.test_gap.proofs.follow.Given as goal

abbrev pub invariant-loop-made : goal.invariant-loop-made
invariant-loop-made l = (l.state.steps ≡ l.made) × Followed l.book l.sheet l.state l.shares l.scores (memory_of l.tags l.targets l.memory)
