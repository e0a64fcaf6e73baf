-- `refusal_details::with_called` meets its contract: the name stands at the front of its buffer.
use mathlib.Core.Path.{◌≡◌, sym, ◌∙◌}
use Prim.Native.Nat.{◌≤◌}
use native.Mathlib.Omega.{arith}
use lib.ListN.{length, take, replicate}
use lib.Seq.{length-take-le}
use Rattle.buffers.proofs.Writing.{front_taken}
use Rattle.csv_cells.specs.Cells.{cell_text}
use Rattle.csv_cells.proofs.Celling.{few_bytes}
use Rattle.refusal_details.proofs.Lines.{called_by_number, called_by_name}
use borrow.Author.Rules.{rules}
use Rattle.refusal_details.proofs.with_called.Goals as goal

pub returns-then-n-eq0 : goal.returns-then-n-eq0
returns-then-n-eq0 c =
    let none : c.put_cell-n.result ≡ 0 = search rules in
    let q = called_by_number _ _ _ (sym c.put_cell-n.ensures.value ∙ none) c.requires.word_len_bound c.with_bytes-begun.ensures c.with_bytes-told.ensures (c.with_number.ensures.adds, c.with_number.ensures.len_bound) in
    record { adds = q.0; len_bound_2 = q.1 }

pub slice_bounds-with_part-end : goal.slice_bounds-with_part-end
slice_bounds-with_part-end c =
    let inside : c.put_cell-n.result ≤ length c.put_cell-n.new.output = let long : length c.put_cell-n.new.output ≡ 200 = search rules in
    omega (arith, c.put_cell-n.ensures.upper_bound) in
    sym (length-take-le _ _ inside)

pub with_part-requires : goal.with_part-requires
with_part-requires c =
    let inside : c.put_cell-n.result ≤ length c.put_cell-n.new.output = let long : length c.put_cell-n.new.output ≡ 200 = search rules in
    omega (arith, c.put_cell-n.ensures.upper_bound) in
    rw (length-take-le _ _ inside) (search rules)

pub returns : goal.returns
returns c =
    let name-is : (let x = c.args in take c.put_cell-n.result c.put_cell-n.new.output ≡ cell_text x.row x.field x.csv.now) = let x = c.args in
    front_taken (replicate 200 0) (cell_text x.row x.field x.csv.now) c.put_cell-n.ensures.output_after c.put_cell-n.ensures.value (few_bytes x.row x.field x.csv.now) in
    let some : c.put_cell-n.result ≡ 0 → ⊥ = search rules in
    let q = called_by_name _ _ _ (λ z. some (c.put_cell-n.ensures.value ∙ z)) (few_bytes _ _ _) (rw name-is at c.with_part.ensures.adds, rw name-is at c.with_part.ensures.len_bound) in
    record { adds = q.0; len_bound_2 = q.1 }
