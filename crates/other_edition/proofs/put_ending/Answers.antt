-- `other_edition::put_ending` meets its contract.
use native.Mathlib.Omega.{arith}
use Rattle.other_edition.proofs.Putting.{length_1, length_2, ones_long, ending_put, trailer_room, ones_put}
use Rattle.other_edition.proofs.put_ending.Goals as goal

pub put_sheet_trailer-requires : goal.put_sheet_trailer-requires
put_sheet_trailer-requires c = omega (arith, c.requires.tolerance_in_bounds, length_1 c.args.columns c.args.steps c.args.tolerance c.if-number-eq1.true)

pub returns-then-number-eq1 : goal.returns-then-number-eq1
returns-then-number-eq1 c = ending_put _ _ _ _ c.requires.tolerance_in_bounds c.if-number-eq1.true c.put_sheet_trailer.ensures

pub slice_bounds-put_bytes-end : goal.slice_bounds-put_bytes-end
slice_bounds-put_bytes-end c = ones_long _ c.requires.columns_bound

pub put_bytes-requires : goal.put_bytes-requires
put_bytes-requires c = omega (arith, c.requires.tolerance_in_bounds, ones_long _ c.requires.columns_bound, length_2 c.args.columns c.args.steps c.args.tolerance c.if-number-eq1.false)

pub put_factored_trailer-requires : goal.put_factored_trailer-requires
put_factored_trailer-requires c = trailer_room _ _ _ _ c.requires.tolerance_in_bounds c.if-number-eq1.false c.requires.columns_bound c.put_bytes.ensures

pub returns : goal.returns
returns c = ones_put _ _ _ _ c.requires.tolerance_in_bounds c.if-number-eq1.false c.requires.columns_bound c.put_bytes.ensures c.put_factored_trailer.ensures
