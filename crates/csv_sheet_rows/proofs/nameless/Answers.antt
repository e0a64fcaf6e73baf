-- `csv_sheet_rows::nameless` meets its contract: `Named` is the loop's invariant.
use borrow.Author.Rules.{rules}
use native.Mathlib.Omega.{arith}
use Rattle.csv_slots.proofs.Holding.{zeros_room, zeros_empty, size_held}
use Rattle.csv_sheet_rows.proofs.Findings.{named_start, named_found, named_more, named_end}
use Rattle.csv_sheet_rows.proofs.nameless.Goals as goal

pub put_rows-requires : goal.put_rows-requires
put_rows-requires c = record { csv_len_bound = search rules; room = zeros_room 1 65 13000 (omega arith) (omega arith) (omega arith); empty = zeros_empty 65 }

pub loop-field-init : goal.loop-field-init
loop-field-init c = search (rules, named_start)

pub bounds-sizes-field : goal.bounds-sizes-field
bounds-sizes-field c = omega (arith, c.loop-field-test.true, c.requires.n_bound)

pub returns-then-sizes-field-eq0 : goal.returns-then-sizes-field-eq0
returns-then-sizes-field-eq0 c = named_found c.loop-field.invariant c.loop-field-test.true (size_held c.put_rows.ensures _ (omega (arith, c.loop-field-test.true, c.requires.n_bound))) c.if-sizes-field-eq0.true

pub loop-field-preserved : goal.loop-field-preserved
loop-field-preserved c = named_more c.loop-field.invariant c.loop-field-test.true (size_held c.put_rows.ensures _ (omega (arith, c.loop-field-test.true, c.requires.n_bound))) c.if-sizes-field-eq0.false

pub returns-else-sizes-field-eq0 : goal.returns-else-sizes-field-eq0
returns-else-sizes-field-eq0 c = named_end (named_more c.loop-field.invariant c.loop-field-test.true (size_held c.put_rows.ensures _ (omega (arith, c.loop-field-test.true, c.requires.n_bound))) c.if-sizes-field-eq0.false) (omega arith)

pub returns : goal.returns
returns c = search (rules, named_end)
