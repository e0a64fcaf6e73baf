-- `better_card::part_of` meets its contract.
use native.Mathlib.Omega.{arith}
use Rattle.better_card.proofs.Parts.{end_fits, second_ends, first_ends, second_part, first_part}
use Rattle.better_card.proofs.part_of.Goals as goal

pub overflow_add-end : goal.overflow_add-end
overflow_add-end c = omega (arith, end_fits c.args.chosen c.args.first.now c.args.second.now c.requires c.well_formed.0.0 c.well_formed.1.0.0)

pub slice_bounds-result-end : goal.slice_bounds-result-end
slice_bounds-result-end c = second_ends c.args.chosen c.args.first.now c.args.second.now c.requires c.if-chosen-eq2.true

pub returns-then-chosen-eq2 : goal.returns-then-chosen-eq2
returns-then-chosen-eq2 c =
    let q = second_part c.args.chosen c.args.first.now c.args.second.now c.if-chosen-eq2.true c.args.first.ref_ptr c.args.second.ref_ptr in
    record { result_value = q.0; ref_ptr_value = q.1 }

pub slice_bounds-result-end-2 : goal.slice_bounds-result-end-2
slice_bounds-result-end-2 c = first_ends c.args.chosen c.args.first.now c.args.second.now c.requires c.if-chosen-eq2.false

pub returns : goal.returns
returns c =
    let q = first_part c.args.chosen c.args.first.now c.args.second.now c.if-chosen-eq2.false c.args.first.ref_ptr c.args.second.ref_ptr in
    record { result_value = q.0; ref_ptr_value = q.1 }
