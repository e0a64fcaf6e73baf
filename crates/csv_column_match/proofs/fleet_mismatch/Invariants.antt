-- `csv_column_match::fleet_mismatch` meets its contract: columns 1 to j have no mismatch.
use mathlib.Core.List.{List}
use mathlib.Core.Path.{◌≡◌}
use Prim.Native.Nat.{ℕ, ◌≤◌}
use Rattle.csv_slots.specs.Slots.{Held}
use Rattle.csv_column_match.specs.Match.{none, fleet_mismatch}
use Rattle.csv_column_match.proofs.fleet_mismatch.Given as goal

abbrev pub invariant-loop-j : goal.invariant-loop-j
invariant-loop-j l = (l.j ≤ l.m) × ((fleet csv : List ℕ) → Held 0 1 fleet l.fleet_sizes l.fleet_cells → Held 0 1 csv l.sizes l.cells → fleet_mismatch l.n l.j fleet csv ≡ none)
