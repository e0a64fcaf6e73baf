-- `derived_files::put_places` meets its contract. The loop keeps `Placing`: the places of the columns before j are written, each as often as its factor says.
-- A turn writes column j so often by `put_column`.
use native.Mathlib.Omega.{arith}
use Rattle.derived_files.proofs.Columns.{places_start, place_room, places_next, places_end}
use Rattle.derived_files.proofs.put_places.Goals as goal

pub loop-j-init : goal.loop-j-init
loop-j-init c = places_start

pub put_column-at-requires : goal.put_column-at-requires
put_column-at-requires c =
    let inv = c.loop-j.invariant in
    record { times_in_bounds = omega (arith, place_room inv c.loop-j-test.true, c.index.ensures, c.requires.factors_in_bounds, inv.written.long); column_bound = omega (arith, c.loop-j-test.true, c.requires.factors_len_bound) }

pub loop-j-preserved : goal.loop-j-preserved
loop-j-preserved c = places_next c.loop-j.invariant c.loop-j-test.true c.requires.factors_in_bounds c.index.ensures c.put_column-at.ensures.value c.put_column-at.ensures.list_after

pub returns : goal.returns
returns c =
    let q = places_end c.loop-j.invariant c.loop-j-test.false in
    record { value = q.0; list_after = q.1 }
