-- `pairwise_moves::worked_over` meets its contract. The loop keeps `Working`: the moves that are left, made on the shares held, end where all moves on the first shares end; scores, list, memory and pair are those of the shares held.
-- A turn makes one move and scores again; where the amount is 0 the later moves would change nothing, and the function returns.
-- It ends: the moves that are left fall by one.
use borrow.Author.Rules.{rules}
use native.Mathlib.Omega.{arith}
use Rattle.iteration.proofs.States.{book_fits}
use Rattle.pairwise_moves.proofs.Working.{finished, from_below, to_below, from_fits, to_fits, apart_asks, slope_asks, amount_asks, stopped, exchange_asks, rescore_asks, working_next, put_asks, few, first_asks, working_start, list_asks, remember_asks}
use Rattle.pairwise_moves.proofs.worked_over.Goals as goal

pub residual_of-r-requires : goal.residual_of-r-requires
residual_of-r-requires c = record { sheet_value = c.requires.sheet_value; layout_value = c.requires.layout_value; shares_bound = few _ _ c.requires.sheet_value c.requires.layout_value c.args.shares (search rules) c.requires.shares_value }

pub put_scores-requires : goal.put_scores-requires
put_scores-requires c =
    let q = put_asks _ _ c.requires.sheet_value c.requires.layout_value c.args.shares (search rules) c.requires.shares_value c.residual_of-r.result c.residual_of-r.ensures (search rules) in
    record { grid = q.0; bounded = q.1.0; boats_in_bounds = q.1.1 }

pub list_held-requires : goal.list_held-requires
list_held-requires c = list_asks _ _ c.requires.sheet_value c.requires.layout_value c.args.shares (search rules) c.requires.shares_value

pub remember_held-requires : goal.remember_held-requires
remember_held-requires c =
    let a = remember_asks _ _ c.requires.sheet_value c.requires.layout_value c.args.shares (search rules) c.requires.shares_value in
    record { sheet_value = c.requires.sheet_value; layout_value = c.requires.layout_value; book_in_bounds = a.0; book_in_bounds_2 = a.1 }

pub rescored-pair-requires : goal.rescored-pair-requires
rescored-pair-requires c =
    let q = first_asks _ _ c.requires.sheet_value c.requires.layout_value c.args.shares (search rules) c.requires.shares_value c.residual_of-r.result c.residual_of-r.ensures c.put_scores.ensures c.list_held.ensures c.remember_held.ensures in
    record { listed = q.0; movable_scores = q.1 }

pub loop-made-init : goal.loop-made-init
loop-made-init c = working_start _ _ c.requires.sheet_value c.requires.layout_value c.args.shares (search rules) c.requires.shares_value c.residual_of-r.result c.residual_of-r.ensures c.put_scores.ensures c.list_held.ensures c.remember_held.ensures c.rescored-pair.ensures.scores_after c.rescored-pair.ensures.value (search rules)

pub overflow_mul-gives : goal.overflow_mul-gives
overflow_mul-gives c = from_fits _ _ c.requires.sheet_value c.loop-made.invariant c.requires.layout_value

pub overflow_mul-takes : goal.overflow_mul-takes
overflow_mul-takes c = to_fits _ _ c.requires.sheet_value c.loop-made.invariant c.requires.layout_value

pub apart_of-apart-requires : goal.apart_of-apart-requires
apart_of-apart-requires c = apart_asks _ _ c.requires.sheet_value c.loop-made.invariant c.requires.layout_value

pub offset_bounds-scores-from : goal.offset_bounds-scores-from
offset_bounds-scores-from c = record { fits = omega (arith, from_below _ _ c.requires.sheet_value c.loop-made.invariant c.requires.layout_value, (book_fits _ _ c.requires.sheet_value).most_boats) }

pub bounds-scores-from : goal.bounds-scores-from
bounds-scores-from c = omega (arith, from_below _ _ c.requires.sheet_value c.loop-made.invariant c.requires.layout_value, (book_fits _ _ c.requires.sheet_value).most_boats)

pub offset_bounds-scores-to : goal.offset_bounds-scores-to
offset_bounds-scores-to c = record { fits = omega (arith, to_below _ _ c.requires.sheet_value c.loop-made.invariant c.requires.layout_value, (book_fits _ _ c.requires.sheet_value).most_boats) }

pub bounds-scores-to : goal.bounds-scores-to
bounds-scores-to c = omega (arith, to_below _ _ c.requires.sheet_value c.loop-made.invariant c.requires.layout_value, (book_fits _ _ c.requires.sheet_value).most_boats)

pub slope_of-slope-requires : goal.slope_of-slope-requires
slope_of-slope-requires c = slope_asks _ _ c.requires.sheet_value c.loop-made.invariant c.requires.layout_value

pub offset_bounds-held-from : goal.offset_bounds-held-from
offset_bounds-held-from c = record { fits = omega (arith, from_below _ _ c.requires.sheet_value c.loop-made.invariant c.requires.layout_value, (book_fits _ _ c.requires.sheet_value).most_boats) }

pub bounds-held-from : goal.bounds-held-from
bounds-held-from c = omega (arith, from_below _ _ c.requires.sheet_value c.loop-made.invariant c.requires.layout_value, (book_fits _ _ c.requires.sheet_value).most_boats)

pub amount_of-m-requires : goal.amount_of-m-requires
amount_of-m-requires c = amount_asks _ _ c.requires.sheet_value c.loop-made.invariant c.requires.layout_value c.slope_of-slope.ensures c.apart_of-apart.ensures

pub returns-then-m-eq0 : goal.returns-then-m-eq0
returns-then-m-eq0 c = stopped _ _ c.requires.sheet_value c.loop-made.invariant c.requires.layout_value c.slope_of-slope.ensures c.apart_of-apart.ensures c.amount_of-m.ensures c.if-m-eq0.true

pub exchange-requires : goal.exchange-requires
exchange-requires c = exchange_asks _ _ c.requires.sheet_value c.loop-made.invariant c.requires.layout_value c.slope_of-slope.ensures c.apart_of-apart.ensures c.amount_of-m.ensures c.if-m-eq0.false

pub slice_bounds-rescored-end-in-loop-made-3 : goal.slice_bounds-rescored-end-in-loop-made-3
slice_bounds-rescored-end-in-loop-made-3 c = search (rules, c.loop-made.invariant.list_slots)

pub rescored-pair-requires-in-loop-made : goal.rescored-pair-requires-in-loop-made
rescored-pair-requires-in-loop-made c =
    let q = rescore_asks _ _ c.requires.sheet_value c.loop-made.invariant c.requires.layout_value c.slope_of-slope.ensures c.apart_of-apart.ensures c.amount_of-m.ensures c.if-m-eq0.false c.exchange.ensures in
    record { listed = q.0; movable_scores = q.1 }

pub loop-made-preserved : goal.loop-made-preserved
loop-made-preserved c = working_next _ _ c.requires.sheet_value c.loop-made.invariant c.requires.layout_value c.slope_of-slope.ensures c.apart_of-apart.ensures c.amount_of-m.ensures c.if-m-eq0.false c.exchange.ensures c.rescored-pair-in-loop-made.ensures.scores_after c.rescored-pair-in-loop-made.ensures.value c.loop-made-test.true

pub returns : goal.returns
returns c = finished _ _ c.requires.sheet_value c.loop-made.invariant c.loop-made-test.false
