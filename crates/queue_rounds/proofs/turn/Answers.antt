-- `queue_rounds::turn` meets its contract.
use mathlib.Core.Path.{sym, ◌∙◌}
use native.Mathlib.Omega.{arith}
use Prim.Native.Nat.{ℕ, ◌+◌, ◌*◌, ◌<◌}
use Rattle.queue_rounds.proofs.Turns.{waits}
use Rattle.queue_rounds.proofs.Works.{own_length, rest_same, i_few, slots_room, scores_room, turn_asks, took_asks, turn_turned, turn_rest, turn_works}
use Rattle.queue_rounds.proofs.turn.Goals as goal

-- the places of sheet i, in slots, bytes and elements, are numbers of 64 bits
record Places (i : ℕ) : Type 0 where
  first : 256 * i < 18446744073709551616
  end : 256 * i + 256 < 18446744073709551616
  element : i * 40 < 18446744073709551616
  share : 256 * i * 2 < 18446744073709551616
  score : 256 * i * 8 < 18446744073709551616

places : (i : ℕ) → i < 16 → Places i
places i h = record { first = omega arith; end = omega arith; element = omega arith; share = omega arith; score = omega arith }

pub due-requires : goal.due-requires
due-requires c = i_few c.requires.working c.requires.i_lt_count

pub returns-then-not-due : goal.returns-then-not-due
returns-then-not-due c = record { working_2 = c.requires.working; turned = waits c.requires.working.kept _ (omega (arith, c.requires.i_lt_count, own_length c.requires.working.accepted)) (sym c.due.ensures ∙ c.if-not-due.true); same_rest = rest_same }

pub sheet_at-sheet-requires : goal.sheet_at-sheet-requires
sheet_at-sheet-requires c = record { i_lt_count = (c.requires.i_lt_count, c.requires.working.accepted.few); plan_value = c.requires.working.accepted.total }

pub overflow_mul-at : goal.overflow_mul-at
overflow_mul-at c = record { fits = (places _ (i_few c.requires.working c.requires.i_lt_count)).first }

pub overflow_add-end : goal.overflow_add-end
overflow_add-end c = record { fits = (places _ (i_few c.requires.working c.requires.i_lt_count)).end }

pub offset_bounds-states-i : goal.offset_bounds-states-i
offset_bounds-states-i c = record { fits = (places _ (i_few c.requires.working c.requires.i_lt_count)).element }

pub bounds-states-i : goal.bounds-states-i
bounds-states-i c = i_few c.requires.working c.requires.i_lt_count

pub offset_bounds-shares-at : goal.offset_bounds-shares-at
offset_bounds-shares-at c = record { fits = (places _ (i_few c.requires.working c.requires.i_lt_count)).share }

pub slice_bounds-turn-end : goal.slice_bounds-turn-end
slice_bounds-turn-end c = slots_room c.requires.working c.requires.i_lt_count

pub offset_bounds-scores-at : goal.offset_bounds-scores-at
offset_bounds-scores-at c = record { fits = (places _ (i_few c.requires.working c.requires.i_lt_count)).score }

pub slice_bounds-turn-end-2 : goal.slice_bounds-turn-end-2
slice_bounds-turn-end-2 c = scores_room c.requires.working c.requires.i_lt_count

pub turn-turned-requires : goal.turn-turned-requires
turn-turned-requires c =
    let q = turn_asks c.requires.working c.requires.i_lt_count (sym c.due.ensures ∙ c.if-not-due.false) c.sheet_at-sheet.ensures in
    record { sheet_value = q.0; holds = q.1.0; steps_bound = q.1.1.0; turn_shares = q.1.1.1.0; turn_scores = q.1.1.1.1 }

pub offset_bounds-states-i-2 : goal.offset_bounds-states-i-2
offset_bounds-states-i-2 c = record { fits = (places _ (i_few c.requires.working c.requires.i_lt_count)).element }

pub bounds-states-i-2 : goal.bounds-states-i-2
bounds-states-i-2 c = i_few c.requires.working c.requires.i_lt_count

pub offset_bounds-records-i : goal.offset_bounds-records-i
offset_bounds-records-i c = record { fits = (places _ (i_few c.requires.working c.requires.i_lt_count)).element }

pub bounds-records-i : goal.bounds-records-i
bounds-records-i c = i_few c.requires.working c.requires.i_lt_count

pub took-counted-requires : goal.took-counted-requires
took-counted-requires c = took_asks c.requires.working c.requires.i_lt_count (sym c.due.ensures ∙ c.if-not-due.false)

pub returns : goal.returns
returns c =
    let d = sym c.due.ensures ∙ c.if-not-due.false in
    let l = c.turn-turned.auto.scores in
    rw c.took-counted.ensures (record { working_2 = turn_works c.requires.working c.requires.i_lt_count d c.sheet_at-sheet.ensures c.turn-turned.ensures.holds_2 c.turn-turned.ensures.record_value c.turn-turned.ensures.shares_after c.turn-turned.ensures.turn_scores_2 l; turned = turn_turned c.requires.working c.requires.i_lt_count d c.sheet_at-sheet.ensures c.turn-turned.ensures.holds_2 c.turn-turned.ensures.record_value c.turn-turned.ensures.shares_after c.turn-turned.ensures.turn_scores_2 l; same_rest = turn_rest c.requires.working c.requires.i_lt_count d c.sheet_at-sheet.ensures c.turn-turned.ensures.holds_2 c.turn-turned.ensures.record_value c.turn-turned.ensures.shares_after c.turn-turned.ensures.turn_scores_2 l })
