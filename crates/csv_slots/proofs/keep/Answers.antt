-- `csv_slots::keep` meets its contract: a law of `Slots` for each return.
use borrow.Author.Rules.{rules}
use native.Mathlib.Omega.{arith}
use Prim.Native.Nat.{◌+◌, ◌-◌, ◌*◌}
use mathlib.Core.Path.{refl}
use Rattle.csv_fleet_tokens.proofs.Faults.{positive}
use Rattle.csv_slots.proofs.Slots.{no_byte, keep_no_byte, keep_fault, keep_before, keep_beyond, keep_full, keep_put}
use Rattle.csv_slots.proofs.keep.Goals as goal

pub returns-in_default : goal.returns-in_default
returns-in_default c = keep_no_byte _ _ _ _ _ _ c.requires.room (no_byte _ c.in_default.not-Byte)

pub returns-then-is_some : goal.returns-then-is_some
returns-then-is_some c =
    let e = rw c.in-Byte.is at c.requires.fault_value in
    rw c.in-Byte.is (keep_fault _ _ _ _ _ _ c.requires.room (omega arith) e (search (rules, positive)))

pub returns-then-place-first : goal.returns-then-place-first
returns-then-place-first c =
    let e = rw c.in-Byte.is at c.requires.fault_value in
    rw c.in-Byte.is (keep_before _ _ _ _ _ _ c.requires.room (omega arith) e (search rules) c.if-place-first.true)

pub returns-then-rows-after : goal.returns-then-rows-after
returns-then-rows-after c =
    let e = rw c.in-Byte.is at c.requires.fault_value in
    rw c.in-Byte.is (keep_beyond _ _ _ _ _ _ c.requires.room (omega arith) e (search rules) c.if-place-first.false c.if-rows-after.true)

pub overflow_cast-size : goal.overflow_cast-size
overflow_cast-size c = omega (arith, c.requires.room.small (65 * (c.args.place.row - c.args.first) + c.args.place.field))

pub returns-then-size-ge200 : goal.returns-then-size-ge200
returns-then-size-ge200 c =
    let e = rw c.in-Byte.is at c.requires.fault_value in
    rw c.in-Byte.is
    (keep_full _ _ _ _ _ _ c.requires.room (omega arith) e (search rules) c.if-place-first.false c.if-rows-after.false c.requires.field_bound refl refl
    c.if-size-ge200.true)

pub returns : goal.returns
returns c =
    let e = rw c.in-Byte.is at c.requires.fault_value in
    rw c.in-Byte.is
    (keep_put _ _ _ _ _ _ c.requires.room (omega arith) e (search rules) c.if-place-first.false c.if-rows-after.false c.requires.field_bound refl refl
    c.if-size-ge200.false)
