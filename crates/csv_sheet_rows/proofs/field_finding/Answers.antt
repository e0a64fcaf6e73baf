-- `csv_sheet_rows::field_finding` meets its contract. The loop keeps `Faultless`: none of the fields so far is faulty.
-- A turn reads the next field of the row, and of the row of factors, from their slots.
use borrow.Author.Rules.{rules}
use mathlib.Core.Path.{refl}
use native.Mathlib.Omega.{arith}
use Rattle.csv_fleet_tokens.proofs.Faults.{positive}
use Rattle.csv_slots.proofs.Holding.{zeros_room, zeros_empty}
use Rattle.csv_sheet_rows.proofs.Findings.{field_read, faultless_start, field_found, faultless_more, field_end}
use Rattle.csv_sheet_rows.proofs.field_finding.Goals as goal

pub put_rows-requires : goal.put_rows-requires
put_rows-requires c = record { csv_len_bound = search rules; room = zeros_room 1 65 13000 (omega arith) (omega arith) (omega arith); empty = zeros_empty 65 }

pub put_rows-requires-2 : goal.put_rows-requires-2
put_rows-requires-2 c = record { csv_len_bound = search rules; room = zeros_room 1 65 13000 (omega arith) (omega arith) (omega arith); empty = zeros_empty 65 }

pub loop-field-init : goal.loop-field-init
loop-field-init c = search (rules, faultless_start)

pub read_slot-value-requires : goal.read_slot-value-requires
read_slot-value-requires c = record { room = c.put_rows.ensures.room; field_bound = omega (arith, c.loop-field-test.true, c.requires.n_bound) }

pub read_slot-factor-requires : goal.read_slot-factor-requires
read_slot-factor-requires c = record { room = c.put_rows-2.ensures.room; field_bound = omega (arith, c.loop-field-test.true, c.requires.n_bound) }

pub returns-in-Err : goal.returns-in-Err
returns-in-Err c = field_found c.loop-field.invariant c.loop-field-test.true (field_read _ _ _ _ _ (c.read_slot-value.ensures _ _ c.put_rows.ensures) (c.read_slot-factor.ensures _ _ c.put_rows-2.ensures) c.in-Err.ensures) (positive _) c.found_in.ensures

pub loop-field-preserved : goal.loop-field-preserved
loop-field-preserved c = faultless_more c.loop-field.invariant c.loop-field-test.true (field_read _ _ _ _ _ (c.read_slot-value.ensures _ _ c.put_rows.ensures) (c.read_slot-factor.ensures _ _ c.put_rows-2.ensures) c.in_default.ensures) refl

pub returns-in_default : goal.returns-in_default
returns-in_default c = field_end (faultless_more c.loop-field.invariant c.loop-field-test.true (field_read _ _ _ _ _ (c.read_slot-value.ensures _ _ c.put_rows.ensures) (c.read_slot-factor.ensures _ _ c.put_rows-2.ensures) c.in_default.ensures) refl) (omega arith)

pub returns : goal.returns
returns c = search (rules, field_end)
