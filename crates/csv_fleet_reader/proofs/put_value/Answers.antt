-- `csv_fleet_reader::put_value` meets its contract: a law of `Values` for each return.
use native.Mathlib.Omega.{arith}
use Rattle.csv_fleet_reader.proofs.Values.{value_full, value_small, value_none, value_put}
use Rattle.csv_fleet_reader.proofs.put_value.Goals as goal

pub returns-then-n-ge16384 : goal.returns-then-n-ge16384
returns-then-n-ge16384 c =
    let q = value_full _ _ _ c.if-n-ge16384.true _ in
    record { value = q.0; rows_after = q.1 }

pub value_bits-requires : goal.value_bits-requires
value_bits-requires c = value_small _ _ c.ends_value.ensures c.if-ends_value.true

pub put-requires : goal.put-requires
put-requires c = omega arith

pub returns-then-ends_value : goal.returns-then-ends_value
returns-then-ends_value c =
    let q = value_put _ _ c.ends_value.ensures _ c.if-n-ge16384.false _ c.if-ends_value.true c.value_bits.ensures c.put.ensures in
    record { value = q.0; rows_after = q.1 }

pub returns : goal.returns
returns c =
    let q = value_none _ _ c.ends_value.ensures _ c.if-n-ge16384.false _ c.if-ends_value.false in
    record { value = q.0; rows_after = q.1 }
