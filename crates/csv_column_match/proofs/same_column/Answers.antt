-- `csv_column_match::same_column` meets its contract: the name is that in the slot.
use native.Mathlib.Omega.{arith}
use mathlib.Core.Path.{◌∙◌}
use Rattle.csv_slots.proofs.Holding.{slot_fits, field_held}
use Rattle.csv_column_match.proofs.same_column.Goals as goal

pub cell-name-requires : goal.cell-name-requires
cell-name-requires c =
    let q = slot_fits c.requires.room c.args.j (omega (arith, c.requires.j_bound)) in
    record { number_in_bounds = q.0; number_in_bounds_2 = q.1 }

pub returns : goal.returns
returns c = record { by_index = λ from to h k. c.column_of.ensures.by_index to k ∙ rw (c.cell-name.ensures, field_held h c.args.j c.requires.j_bound); upper_bound = c.column_of.ensures.upper_bound }
