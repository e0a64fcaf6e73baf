-- `refusal_details::first_boat` meets its contract: the word stands at the front of its buffer.
use mathlib.Core.Path.{◌≡◌, sym}
use Prim.Native.Nat.{◌≤◌}
use native.Mathlib.Omega.{arith}
use lib.ListN.{length, take, replicate}
use lib.Seq.{length-take-le}
use Rattle.buffers.proofs.Writing.{front_taken}
use Rattle.csv_cells.specs.Cells.{cell_text}
use Rattle.csv_cells.proofs.Celling.{few_bytes}
use Rattle.refusal_details.proofs.Lines.{other_length, units_second, boat_second}
use borrow.Author.Rules.{rules}
use Rattle.refusal_details.proofs.first_boat.Goals as goal

pub returns-then-n-ne4 : goal.returns-then-n-ne4
returns-then-n-ne4 c =
    let q = other_length _ c.put_cell-n.ensures.value c.if-n-ne4.true in
    record { value = q.0; upper_bound = q.1 }

pub slice_bounds-ends_with-end : goal.slice_bounds-ends_with-end
slice_bounds-ends_with-end c =
    let inside : c.put_cell-n.result ≤ length c.put_cell-n.new.output = let long : length c.put_cell-n.new.output ≡ 200 = search rules in
    omega (arith, c.put_cell-n.ensures.upper_bound) in
    sym (length-take-le _ _ inside)

pub ends_with-requires : goal.ends_with-requires
ends_with-requires c =
    let inside : c.put_cell-n.result ≤ length c.put_cell-n.new.output = let long : length c.put_cell-n.new.output ≡ 200 = search rules in
    omega (arith, c.put_cell-n.ensures.upper_bound) in
    let n : c.put_cell-n.result ≡ 4 = search rules in
    rw (length-take-le _ _ inside) (omega arith)

pub returns-then-ends_with : goal.returns-then-ends_with
returns-then-ends_with c =
    let word-is : take c.put_cell-n.result c.put_cell-n.new.output ≡ cell_text 1 0 c.args.csv.now = front_taken (replicate 200 0) (cell_text 1 0 c.args.csv.now) c.put_cell-n.ensures.output_after c.put_cell-n.ensures.value (few_bytes 1 0 c.args.csv.now) in
    let four : c.put_cell-n.result ≡ 4 = search rules in
    let q = units_second _ c.put_cell-n.ensures.value four word-is c.ends_with.ensures c.if-ends_with.true in
    record { value = q.0; upper_bound = q.1 }

pub returns-else-ends_with : goal.returns-else-ends_with
returns-else-ends_with c =
    let word-is : take c.put_cell-n.result c.put_cell-n.new.output ≡ cell_text 1 0 c.args.csv.now = front_taken (replicate 200 0) (cell_text 1 0 c.args.csv.now) c.put_cell-n.ensures.output_after c.put_cell-n.ensures.value (few_bytes 1 0 c.args.csv.now) in
    let four : c.put_cell-n.result ≡ 4 = search rules in
    let q = boat_second _ c.put_cell-n.ensures.value four word-is c.ends_with.ensures c.if-ends_with.false in
    record { value = q.0; upper_bound = q.1 }
