-- `csv_book_text::known_fault` meets its contract: what is looked for stands at the front of each buffer.
use borrow.Author.Rules.{rules}
use mathlib.Core.Path.{◌≡◌, sym}
use Prim.Native.Nat.{◌≤◌}
use native.Mathlib.Omega.{arith}
use lib.ListN.{length, take, replicate}
use lib.Seq.{length-take-le}
use Rattle.buffers.proofs.Writing.{front_taken}
use Rattle.csv_book_text.specs.Faults.{looked}
use Rattle.csv_book_text.proofs.Lines.{few_looked, fault_told}
use Rattle.csv_book_text.proofs.known_fault.Goals as goal

pub slice_bounds-boat-end : goal.slice_bounds-boat-end
slice_bounds-boat-end c =
    let boat-fits : c.put_looked-n.result ≤ 200 = rw c.put_looked-n.ensures.value (few_looked _ _ _ _) in
    let boat-inside : c.put_looked-n.result ≤ length c.put_looked-n.new.output = let long : length c.put_looked-n.new.output ≡ 200 = search rules in
    omega (arith, boat-fits) in
    boat-inside

pub slice_bounds-line_of-end : goal.slice_bounds-line_of-end
slice_bounds-line_of-end c =
    let boat-fits : c.put_looked-n.result ≤ 200 = rw c.put_looked-n.ensures.value (few_looked _ _ _ _) in
    let boat-inside : c.put_looked-n.result ≤ length c.put_looked-n.new.output = let long : length c.put_looked-n.new.output ≡ 200 = search rules in
    omega (arith, boat-fits) in
    sym (length-take-le _ _ boat-inside)

pub slice_bounds-column-end : goal.slice_bounds-column-end
slice_bounds-column-end c =
    let column_fits : c.put_looked-m.result ≤ 200 = rw c.put_looked-m.ensures.value (few_looked _ _ _ _) in
    let column-inside : c.put_looked-m.result ≤ length c.put_looked-m.new.output = let long : length c.put_looked-m.new.output ≡ 200 = search rules in
    omega (arith, column_fits) in
    column-inside

pub slice_bounds-line_of-end-2 : goal.slice_bounds-line_of-end-2
slice_bounds-line_of-end-2 c =
    let column_fits : c.put_looked-m.result ≤ 200 = rw c.put_looked-m.ensures.value (few_looked _ _ _ _) in
    let column-inside : c.put_looked-m.result ≤ length c.put_looked-m.new.output = let long : length c.put_looked-m.new.output ≡ 200 = search rules in
    omega (arith, column_fits) in
    sym (length-take-le _ _ column-inside)

pub slice_bounds-value-end : goal.slice_bounds-value-end
slice_bounds-value-end c =
    let value_fits : c.put_looked-k.result ≤ 200 = rw c.put_looked-k.ensures.value (few_looked _ _ _ _) in
    let value_inside : c.put_looked-k.result ≤ length c.put_looked-k.new.output = let long : length c.put_looked-k.new.output ≡ 200 = search rules in
    omega (arith, value_fits) in
    value_inside

pub slice_bounds-line_of-end-3 : goal.slice_bounds-line_of-end-3
slice_bounds-line_of-end-3 c =
    let value_fits : c.put_looked-k.result ≤ 200 = rw c.put_looked-k.ensures.value (few_looked _ _ _ _) in
    let value_inside : c.put_looked-k.result ≤ length c.put_looked-k.new.output = let long : length c.put_looked-k.new.output ≡ 200 = search rules in
    omega (arith, value_fits) in
    sym (length-take-le _ _ value_inside)

pub line_of-requires : goal.line_of-requires
line_of-requires c =
    let boat-fits : c.put_looked-n.result ≤ 200 = rw c.put_looked-n.ensures.value (few_looked _ _ _ _) in
    let boat-inside : c.put_looked-n.result ≤ length c.put_looked-n.new.output = let long : length c.put_looked-n.new.output ≡ 200 = search rules in
    omega (arith, boat-fits) in
    let boat-few : length (take c.put_looked-n.result c.put_looked-n.new.output) ≤ 200 = rw (length-take-le c.put_looked-n.result c.put_looked-n.new.output boat-inside) boat-fits in
    let column_fits : c.put_looked-m.result ≤ 200 = rw c.put_looked-m.ensures.value (few_looked _ _ _ _) in
    let column-inside : c.put_looked-m.result ≤ length c.put_looked-m.new.output = let long : length c.put_looked-m.new.output ≡ 200 = search rules in
    omega (arith, column_fits) in
    let column_few : length (take c.put_looked-m.result c.put_looked-m.new.output) ≤ 200 = rw (length-take-le c.put_looked-m.result c.put_looked-m.new.output column-inside) column_fits in
    let value_fits : c.put_looked-k.result ≤ 200 = rw c.put_looked-k.ensures.value (few_looked _ _ _ _) in
    let value_inside : c.put_looked-k.result ≤ length c.put_looked-k.new.output = let long : length c.put_looked-k.new.output ≡ 200 = search rules in
    omega (arith, value_fits) in
    let value-few : length (take c.put_looked-k.result c.put_looked-k.new.output) ≤ 200 = rw (length-take-le c.put_looked-k.result c.put_looked-k.new.output value_inside) value_fits in
    record { boat_len_bound = boat-few; column_len_bound = column_few; value_len_bound = value-few }

pub returns : goal.returns
returns c =
    let boat_is : (let x = c.args in take c.put_looked-n.result c.put_looked-n.new.output ≡ looked c.wants_boat-boat_wanted.result x.finding.line 0 x.csv.now) = let x = c.args in
    front_taken (replicate 200 0) (looked c.wants_boat-boat_wanted.result x.finding.line 0 x.csv.now) c.put_looked-n.ensures.output_after c.put_looked-n.ensures.value
    (few_looked c.wants_boat-boat_wanted.result x.finding.line 0 x.csv.now) in
    let column-is : (let x = c.args in take c.put_looked-m.result c.put_looked-m.new.output ≡ looked c.wants_column-column_wanted.result 0 x.finding.field x.csv.now) = let x = c.args in
    front_taken (replicate 200 0) (looked c.wants_column-column_wanted.result 0 x.finding.field x.csv.now) c.put_looked-m.ensures.output_after c.put_looked-m.ensures.value
    (few_looked c.wants_column-column_wanted.result 0 x.finding.field x.csv.now) in
    let value_is : (let x = c.args in take c.put_looked-k.result c.put_looked-k.new.output ≡ looked c.wants_value-value_wanted.result x.finding.line x.finding.field x.csv.now) = let x = c.args in
    front_taken (replicate 200 0) (looked c.wants_value-value_wanted.result x.finding.line x.finding.field x.csv.now) c.put_looked-k.ensures.output_after c.put_looked-k.ensures.value
    (few_looked c.wants_value-value_wanted.result x.finding.line x.finding.field x.csv.now) in
    fault_told _ _ c.wants_boat-boat_wanted.ensures c.wants_column-column_wanted.ensures c.wants_value-value_wanted.ensures boat_is column-is
    value_is c.line_of.ensures
