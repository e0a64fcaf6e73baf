-- `run_loop::step` meets its contract.
use native.Mathlib.Nat.{lt_of_lt_of_le}
use native.Mathlib.Omega.{arith}
use Rattle.files.specs.Limits.{step_limit}
use Rattle.method.proofs.Schedules.{schedule_sized}
use Rattle.iteration.proofs.States.{book_fits, best_below}
use Rattle.run_loop.proofs.Memory.{slot_fits, slot_bytes_fit, slot_starts, slot_small, slot_part, own_fits, own_bytes_fit, own_inside, own_is, target_below, target_is}
use Rattle.run_loop.proofs.Keeping.{room_here, shared_here, shares_here, rescorable_here, pickable_next, least_next, pick_next, scores_here, steppable_here, state_here}
use Rattle.run_loop.proofs.step.Goals as goal

pub share-k-requires : goal.share-k-requires
share-k-requires c = c.requires.steps_bound

pub remember-slot-requires : goal.remember-slot-requires
remember-slot-requires c =
    let S = schedule_sized _ c.requires.table_value in
    record { sheet_value = c.requires.sheet_value; layout_value = c.requires.layout_value; boat_bound = best_below _ _ c.requires.sheet_value S c.requires.holds; remembered = c.requires.remembered }

pub overflow_mul-at : goal.overflow_mul-at
overflow_mul-at c =
    let S = schedule_sized _ c.requires.table_value in
    let few = lt_of_lt_of_le c.requires.steps_bound (S.most_steps step_limit) in
    slot_fits _ _ c.requires.sheet_value c.requires.remembered (best_below _ _ c.requires.sheet_value S c.requires.holds) c.remember-slot.ensures.value c.remember-slot.ensures.memory_after c.requires.layout_value

pub offset_bounds-scores-best : goal.offset_bounds-scores-best
offset_bounds-scores-best c =
    let S = schedule_sized _ c.requires.table_value in
    record { fits = omega (arith, best_below _ _ c.requires.sheet_value S c.requires.holds, (book_fits _ _ c.requires.sheet_value).most_boats) }

pub slice_copy_out-score : goal.slice_copy_out-score
slice_copy_out-score c =
    let S = schedule_sized _ c.requires.table_value in
    omega (arith, best_below _ _ c.requires.sheet_value S c.requires.holds, c.requires.scores_at.room)

pub overflow_add-own : goal.overflow_add-own
overflow_add-own c =
    let S = schedule_sized _ c.requires.table_value in
    let few = lt_of_lt_of_le c.requires.steps_bound (S.most_steps step_limit) in
    own_fits _ _ c.requires.sheet_value c.requires.remembered (best_below _ _ c.requires.sheet_value S c.requires.holds) c.remember-slot.ensures.value c.remember-slot.ensures.memory_after c.requires.layout_value

pub offset_bounds-memory-at : goal.offset_bounds-memory-at
offset_bounds-memory-at c =
    let S = schedule_sized _ c.requires.table_value in
    let few = lt_of_lt_of_le c.requires.steps_bound (S.most_steps step_limit) in
    own_bytes_fit _ _ c.requires.sheet_value c.requires.remembered (best_below _ _ c.requires.sheet_value S c.requires.holds) c.remember-slot.ensures.value c.remember-slot.ensures.memory_after c.requires.layout_value

pub slice_copy_out-own : goal.slice_copy_out-own
slice_copy_out-own c =
    let S = schedule_sized _ c.requires.table_value in
    let few = lt_of_lt_of_le c.requires.steps_bound (S.most_steps step_limit) in
    own_inside _ _ c.requires.sheet_value c.requires.remembered (best_below _ _ c.requires.sheet_value S c.requires.holds) c.remember-slot.ensures.value c.remember-slot.ensures.memory_after c.requires.layout_value

pub offset_bounds-targets-slot : goal.offset_bounds-targets-slot
offset_bounds-targets-slot c =
    let S = schedule_sized _ c.requires.table_value in
    let few = lt_of_lt_of_le c.requires.steps_bound (S.most_steps step_limit) in
    record { fits = omega (arith, slot_small _ _ c.requires.sheet_value c.requires.remembered (best_below _ _ c.requires.sheet_value S c.requires.holds) c.remember-slot.ensures.value c.remember-slot.ensures.memory_after) }

pub slice_copy_out-target : goal.slice_copy_out-target
slice_copy_out-target c =
    let S = schedule_sized _ c.requires.table_value in
    let few = lt_of_lt_of_le c.requires.steps_bound (S.most_steps step_limit) in
    target_below _ _ c.requires.sheet_value c.requires.remembered (best_below _ _ c.requires.sheet_value S c.requires.holds) c.remember-slot.ensures.value c.remember-slot.ensures.memory_after

pub add_shares-requires : goal.add_shares-requires
add_shares-requires c =
    let S = schedule_sized _ c.requires.table_value in
    let few = lt_of_lt_of_le c.requires.steps_bound (S.most_steps step_limit) in
    room_here _ _ c.requires.sheet_value S c.requires.holds few c.share-k.ensures c.requires.shares_at

pub offset_bounds-memory-at-2 : goal.offset_bounds-memory-at-2
offset_bounds-memory-at-2 c =
    let S = schedule_sized _ c.requires.table_value in
    let few = lt_of_lt_of_le c.requires.steps_bound (S.most_steps step_limit) in
    slot_bytes_fit _ _ c.requires.sheet_value c.requires.remembered (best_below _ _ c.requires.sheet_value S c.requires.holds) c.remember-slot.ensures.value c.remember-slot.ensures.memory_after c.requires.layout_value

pub slice_bounds-rescored-count : goal.slice_bounds-rescored-count
slice_bounds-rescored-count c =
    let S = schedule_sized _ c.requires.table_value in
    let few = lt_of_lt_of_le c.requires.steps_bound (S.most_steps step_limit) in
    slot_starts _ _ c.requires.sheet_value c.requires.remembered (best_below _ _ c.requires.sheet_value S c.requires.holds) c.remember-slot.ensures.value c.remember-slot.ensures.memory_after c.requires.layout_value

pub slice_bounds-rescored-start : goal.slice_bounds-rescored-start
slice_bounds-rescored-start c =
    let S = schedule_sized _ c.requires.table_value in
    let few = lt_of_lt_of_le c.requires.steps_bound (S.most_steps step_limit) in
    slot_starts _ _ c.requires.sheet_value c.requires.remembered (best_below _ _ c.requires.sheet_value S c.requires.holds) c.remember-slot.ensures.value c.remember-slot.ensures.memory_after c.requires.layout_value

pub rescored-least-requires : goal.rescored-least-requires
rescored-least-requires c =
    let S = schedule_sized _ c.requires.table_value in
    let few = lt_of_lt_of_le c.requires.steps_bound (S.most_steps step_limit) in
    rescorable_here _ _ c.requires.sheet_value S c.requires.layout_value c.requires.holds few c.share-k.ensures c.requires.scores_at (slot_part _ _ c.requires.sheet_value c.requires.remembered (best_below _ _ c.requires.sheet_value S c.requires.holds) c.remember-slot.ensures.value c.remember-slot.ensures.memory_after c.requires.layout_value)

pub picked-pick-requires : goal.picked-pick-requires
picked-pick-requires c =
    let S = schedule_sized _ c.requires.table_value in
    let few = lt_of_lt_of_le c.requires.steps_bound (S.most_steps step_limit) in
    let ps = slot_part _ _ c.requires.sheet_value c.requires.remembered (best_below _ _ c.requires.sheet_value S c.requires.holds) c.remember-slot.ensures.value c.remember-slot.ensures.memory_after c.requires.layout_value in
    let qs = shared_here _ _ c.requires.sheet_value S c.requires.holds few c.share-k.ensures c.requires.shares_at c.add_shares.ensures in
    record { pickable = pickable_next _ _ c.requires.sheet_value S c.requires.layout_value c.requires.holds few c.share-k.ensures c.requires.scores_at ps c.rescored-least.ensures.scores_after qs; least_value = least_next _ _ c.requires.sheet_value S c.requires.layout_value c.requires.holds few c.share-k.ensures c.requires.scores_at ps c.rescored-least.ensures.scores_after c.rescored-least.ensures.value }

pub next-requires : goal.next-requires
next-requires c =
    let S = schedule_sized _ c.requires.table_value in
    let few = lt_of_lt_of_le c.requires.steps_bound (S.most_steps step_limit) in
    record { fact = (few, rw c.share-k.ensures (S.most_share _ few)); steppable = steppable_here _ _ c.requires.sheet_value S c.requires.holds few c.share-k.ensures c.requires.scores_at (own_is _ _ c.requires.sheet_value c.requires.remembered (best_below _ _ c.requires.sheet_value S c.requires.holds) c.remember-slot.ensures.value c.remember-slot.ensures.memory_after c.requires.layout_value) (target_is _ _ c.requires.sheet_value c.requires.remembered (best_below _ _ c.requires.sheet_value S c.requires.holds) c.remember-slot.ensures.value c.remember-slot.ensures.memory_after) }

pub returns : goal.returns
returns c =
    let S = schedule_sized _ c.requires.table_value in
    let few = lt_of_lt_of_le c.requires.steps_bound (S.most_steps step_limit) in
    let ps = slot_part _ _ c.requires.sheet_value c.requires.remembered (best_below _ _ c.requires.sheet_value S c.requires.holds) c.remember-slot.ensures.value c.remember-slot.ensures.memory_after c.requires.layout_value in
    let qs = shared_here _ _ c.requires.sheet_value S c.requires.holds few c.share-k.ensures c.requires.shares_at c.add_shares.ensures in record { holds_2 = state_here _ _ c.requires.sheet_value S c.requires.holds few c.share-k.ensures c.requires.scores_at (own_is _ _ c.requires.sheet_value c.requires.remembered (best_below _ _ c.requires.sheet_value S c.requires.holds) c.remember-slot.ensures.value c.remember-slot.ensures.memory_after c.requires.layout_value) (target_is _ _ c.requires.sheet_value c.requires.remembered (best_below _ _ c.requires.sheet_value S c.requires.holds) c.remember-slot.ensures.value c.remember-slot.ensures.memory_after) (pick_next _ _ c.requires.sheet_value S c.requires.layout_value c.requires.holds few c.share-k.ensures c.requires.scores_at ps c.rescored-least.ensures.scores_after qs c.picked-pick.ensures) c.next.ensures; shares_after = shares_here _ _ c.requires.sheet_value S c.requires.holds few c.share-k.ensures c.requires.shares_at c.add_shares.ensures; scores_after = scores_here _ _ c.requires.sheet_value S c.requires.layout_value c.requires.holds few c.share-k.ensures c.requires.scores_at ps c.rescored-least.ensures.scores_after; memory_after = c.remember-slot.ensures.memory_after }
