-- `csv_column_match::column_of` meets its contract. The loop keeps this: the columns above j have another name, so those up to j decide.
-- A turn compares the name of column j.
use native.Mathlib.Omega.{arith}
use mathlib.Core.Path.{refl, ◌∙◌}
use Prim.Native.Nat.{◌≤◌}
use Rattle.csv_slots.proofs.Holding.{slot_fits, field_held}
use Rattle.csv_column_match.proofs.Looking.{looking_found, looking_lower, looking_end}
use Rattle.csv_column_match.proofs.column_of.Goals as goal

pub loop-j-init : goal.loop-j-init
loop-j-init c = (omega arith, λ csv held. refl)

pub cell-other-requires : goal.cell-other-requires
cell-other-requires c =
    let q = slot_fits c.requires.room c.loop-j.j (omega (arith, c.loop-j.invariant.0, c.requires.n_bound)) in
    record { number_in_bounds = q.0; number_in_bounds_2 = q.1 }

pub returns-then-is_same : goal.returns-then-is_same
returns-then-is_same c = let h : c.loop-j.j ≤ 64 = omega (arith, c.loop-j.invariant.0, c.requires.n_bound) in record { by_index = λ csv held. looking_found _ csv _ _ (c.loop-j.invariant.1 csv held) c.loop-j-test.true (c.cell-other.ensures ∙ field_held held _ h) c.is_same.ensures c.if-is_same.true; upper_bound = c.loop-j.invariant.0 }

pub loop-j-preserved : goal.loop-j-preserved
loop-j-preserved c =
    let h : c.loop-j.j ≤ 64 = omega (arith, c.loop-j.invariant.0, c.requires.n_bound) in (
      omega (arith, c.loop-j.invariant.0),
      λ csv held. looking_lower _ csv _ _ (c.loop-j.invariant.1 csv held) c.loop-j-test.true (c.cell-other.ensures ∙ field_held held _ h) c.is_same.ensures c.if-is_same.false,
    )

pub returns : goal.returns
returns c = record { by_index = λ csv held. looking_end _ csv _ _ (c.loop-j.invariant.1 csv held) (omega (arith, c.loop-j-test.false)); upper_bound = omega arith }
