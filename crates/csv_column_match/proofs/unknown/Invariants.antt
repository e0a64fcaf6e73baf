-- `csv_column_match::unknown` meets its contract: columns 1 to j are columns of the fleet.
use mathlib.Core.List.{List}
use mathlib.Core.Path.{◌≡◌}
use Prim.Native.Nat.{ℕ, ◌≤◌}
use Rattle.csv_slots.specs.Slots.{Held}
use Rattle.csv_column_match.specs.Match.{unknown}
use Rattle.csv_column_match.proofs.unknown.Given as goal

abbrev pub invariant-loop-j : goal.invariant-loop-j
invariant-loop-j l = (l.j ≤ l.n) × ((fleet csv : List ℕ) → Held 0 1 fleet l.fleet_sizes l.fleet_cells → Held 0 1 csv l.sizes l.cells → unknown l.m l.j fleet csv ≡ 0)
