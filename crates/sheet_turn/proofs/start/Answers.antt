-- `sheet_turn::start` meets its contract: the factors say which files serve.
use Prim.Native.Nat.{ℕ}
use mathlib.Core.List.{List}
use Rattle.factored_run.proofs.Factored.{whole, lettered}
use Rattle.method.specs.Problem.{fixed}
use Rattle.iteration.specs.States.{Holds}
use Rattle.sheet_turn.proofs.Plain.{from_itself, from_twin}
use Rattle.sheet_turn.proofs.start.Goals as goal

pub is_plain-requires : goal.is_plain-requires
is_plain-requires c = whole _ _ c.requires

pub returns-then-is_plain : goal.returns-then-is_plain
returns-then-is_plain c = from_itself _ _ c.requires c.is_plain.ensures c.if-is_plain.true (λ (x y : List ℕ). Holds fixed x y 0 c.plain_start.result) c.plain_start.ensures

pub derived_start-requires : goal.derived_start-requires
derived_start-requires c = record { sheet_value = c.requires; sheet_value_2 = lettered _ _ c.requires c.is_plain.ensures c.if-is_plain.false }

pub returns : goal.returns
returns c = from_twin _ _ c.requires c.is_plain.ensures c.if-is_plain.false (λ (x y : List ℕ). Holds fixed x y 0 c.derived_start.result) c.derived_start.ensures
