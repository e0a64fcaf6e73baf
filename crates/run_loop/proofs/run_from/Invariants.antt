-- `run_loop::run_from` meets its contract. The loop keeps `Kept`: state, shares, scores and memory are those of the method after as many steps as the state says, and no step before stopped the run.
-- A turn is one call of `step`, whose contract gives all of them after one step more; a verdict that does not stop leaves the run going.
-- It ends: the steps that are left fall by one, and at the last the verdict stops.
use Rattle.std.specs.Prelude.{option_copied}
use Prim.Native.Nat.{◌-◌}
use Rattle.method.specs.Calls.{schedule_in}
use Rattle.run_loop.specs.Runs.{memory_of}
use Rattle.run_loop.proofs.Keeping.{Kept}
use Rattle.run_loop.proofs.run_from.Given as goal

abbrev pub invariant-loop-layout : goal.invariant-loop-layout
invariant-loop-layout l = Kept (schedule_in (option_copied l.table)) l.book l.sheet l.state l.initial.shares l.shares l.initial.scores l.scores l.initial.memory (memory_of l.tags l.targets l.memory)

abbrev pub decreases-loop-layout : goal.decreases-loop-layout
decreases-loop-layout l = l.steps - l.state.steps
