-- `sheet_turn::plain_turn` meets its contract.
use native.Mathlib.Omega.{arith}
use Rattle.method.proofs.Schedules.{fixed_sized}
use Rattle.iteration.proofs.States.{book_fits, best_below}
use Rattle.run_loop.proofs.Keeping.{room_here, shared_here, shares_here, rescorable_here, pickable_next, least_next, pick_next, scores_here, scores_after, steppable_here, state_here}
use Rattle.sheet_turn.proofs.Steps.{fixed_share, products_here, own_here}
use Rattle.sheet_turn.proofs.plain_turn.Goals as goal

pub products_of-target-requires : goal.products_of-target-requires
products_of-target-requires c = record { sheet_value = c.requires.sheet_value; layout_value = c.layout_of-layout.ensures; boat_bound = best_below _ _ c.requires.sheet_value fixed_sized c.requires.holds; book_in_bounds = (book_fits _ _ c.requires.sheet_value).most_boats }

pub offset_bounds-products-best : goal.offset_bounds-products-best
offset_bounds-products-best c = record { fits = omega (arith, best_below _ _ c.requires.sheet_value fixed_sized c.requires.holds, (book_fits _ _ c.requires.sheet_value).most_boats) }

pub bounds-products-best : goal.bounds-products-best
bounds-products-best c = omega (arith, best_below _ _ c.requires.sheet_value fixed_sized c.requires.holds, (book_fits _ _ c.requires.sheet_value).most_boats)

pub offset_bounds-scores-best : goal.offset_bounds-scores-best
offset_bounds-scores-best c = record { fits = omega (arith, best_below _ _ c.requires.sheet_value fixed_sized c.requires.holds, (book_fits _ _ c.requires.sheet_value).most_boats) }

pub slice_copy_out-score : goal.slice_copy_out-score
slice_copy_out-score c = omega (arith, best_below _ _ c.requires.sheet_value fixed_sized c.requires.holds, c.requires.scores_at.room)

pub add_shares-requires : goal.add_shares-requires
add_shares-requires c = room_here _ _ c.requires.sheet_value fixed_sized c.requires.holds c.requires.steps_bound (fixed_share _) c.requires.shares_at

pub rescored-least-requires : goal.rescored-least-requires
rescored-least-requires c = rescorable_here _ _ c.requires.sheet_value fixed_sized c.layout_of-layout.ensures c.requires.holds c.requires.steps_bound (fixed_share _) c.requires.scores_at (products_here _ _ c.requires.sheet_value _ _ c.products_of-target.ensures.to_after)

pub picked-pick-requires : goal.picked-pick-requires
picked-pick-requires c =
    let P = products_here _ _ c.requires.sheet_value _ _ c.products_of-target.ensures.to_after in
    let qs = shared_here _ _ c.requires.sheet_value fixed_sized c.requires.holds c.requires.steps_bound (fixed_share _) c.requires.shares_at c.add_shares.ensures in
    record { pickable = pickable_next _ _ c.requires.sheet_value fixed_sized c.layout_of-layout.ensures c.requires.holds c.requires.steps_bound (fixed_share _) c.requires.scores_at P c.rescored-least.ensures.scores_after qs; least_value = least_next _ _ c.requires.sheet_value fixed_sized c.layout_of-layout.ensures c.requires.holds c.requires.steps_bound (fixed_share _) c.requires.scores_at P c.rescored-least.ensures.scores_after c.rescored-least.ensures.value }

pub next-requires : goal.next-requires
next-requires c =
    let own = own_here _ _ c.requires.sheet_value _ _ c.products_of-target.ensures.to_after (best_below _ _ c.requires.sheet_value fixed_sized c.requires.holds) in
    record { fact = (c.requires.steps_bound, omega (arith, c.requires.steps_bound)); steppable = steppable_here _ _ c.requires.sheet_value fixed_sized c.requires.holds c.requires.steps_bound (fixed_share _) c.requires.scores_at own c.products_of-target.ensures.value }

pub returns : goal.returns
returns c =
    let P = products_here _ _ c.requires.sheet_value _ _ c.products_of-target.ensures.to_after in
    let own = own_here _ _ c.requires.sheet_value _ _ c.products_of-target.ensures.to_after (best_below _ _ c.requires.sheet_value fixed_sized c.requires.holds) in
    let qs = shared_here _ _ c.requires.sheet_value fixed_sized c.requires.holds c.requires.steps_bound (fixed_share _) c.requires.shares_at c.add_shares.ensures in record { holds_2 = state_here _ _ c.requires.sheet_value fixed_sized c.requires.holds c.requires.steps_bound (fixed_share _) c.requires.scores_at own c.products_of-target.ensures.value (pick_next _ _ c.requires.sheet_value fixed_sized c.layout_of-layout.ensures c.requires.holds c.requires.steps_bound (fixed_share _) c.requires.scores_at P c.rescored-least.ensures.scores_after qs c.picked-pick.ensures) c.next.ensures; shares_after = shares_here _ _ c.requires.sheet_value fixed_sized c.requires.holds c.requires.steps_bound (fixed_share _) c.requires.shares_at c.add_shares.ensures; scores_at_2 = scores_after _ _ c.requires.sheet_value fixed_sized _ _ (scores_here _ _ c.requires.sheet_value fixed_sized c.layout_of-layout.ensures c.requires.holds c.requires.steps_bound (fixed_share _) c.requires.scores_at P c.rescored-least.ensures.scores_after) }
