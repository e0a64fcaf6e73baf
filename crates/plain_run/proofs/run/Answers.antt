-- `plain_run::run` meets its contract.
use Rattle.std.specs.Prelude.{option_copied}
use Rattle.method.specs.Calls.{schedule_in}
use Rattle.method.specs.Plain.{plain_problem}
use Rattle.method.specs.Answers.{run_iterate}
use Rattle.method.proofs.Schedules.{schedule_sized}
use Rattle.iteration.proofs.States.{book_fits, sheet_fits}
use Rattle.run_loop.proofs.Memory.{room_for, room_always}
use Rattle.run_loop.proofs.Runs.{first_weight, first_done}
use Rattle.run_loop.proofs.Keeping.{boats_fit, share_room, shares_next, cleared, cleared_shares, cleared_rest, behind, shared_end}
use native.Mathlib.Omega.{arith}
use Prim.Native.Nat.{ℕ, ◌≤◌}
use mathlib.Core.Path.{◌≡◌, ◌∙◌}
use mathlib.Core.List.{List}
use Rattle.files.specs.Book.{boats}
use Rattle.iteration.specs.declared.Layout.{Layout}
use Rattle.iteration.specs.States.{file_layout}
use Rattle.plain_run.proofs.run.Goals as goal

boats_for : (b s : List ℕ) (n : ℕ) {l : Layout} → l ≡ file_layout b s → l.boats ≤ n → boats b ≤ n
unfolding file_layout
boats_for b s n e h = rw e at h

pub clear-requires : goal.clear-requires
clear-requires c =
    let S = schedule_sized (schedule_in (option_copied c.args.table)) c.requires.table_value in
    boats_fit _ _ c.requires.sheet_value S c.layout_of-layout.ensures c.requires.book_in_bounds

pub fresh-start-requires : goal.fresh-start-requires
fresh-start-requires c =
    let S = schedule_sized (schedule_in (option_copied c.args.table)) c.requires.table_value in
    record { sheet_value = c.requires.sheet_value; layout_value = c.layout_of-layout.ensures }

pub first_answer-answer-requires : goal.first_answer-answer-requires
first_answer-answer-requires c =
    let S = schedule_sized (schedule_in (option_copied c.args.table)) c.requires.table_value in
    record { sheet_value = c.requires.sheet_value; table_value = c.requires.table_value; layout_value = c.layout_of-layout.ensures; boat_value = (c.fresh-start.ensures _).best_is }

pub steps-requires : goal.steps-requires
steps-requires c = (sheet_fits _ _ c.requires.sheet_value).at_least

pub add_shares-requires : goal.add_shares-requires
add_shares-requires c =
    let S = schedule_sized (schedule_in (option_copied c.args.table)) c.requires.table_value in
    rw (first_weight _ _ c.requires.sheet_value S c.first_answer-answer.ensures)
    (share_room _ _ c.requires.sheet_value S (c.fresh-start.ensures _) (omega arith) (cleared _ _ c.requires.sheet_value S c.layout_of-layout.ensures _ c.requires.book_in_bounds c.clear.ensures))

pub returns-then-stops : goal.returns-then-stops
returns-then-stops c =
    let S = schedule_sized (schedule_in (option_copied c.args.table)) c.requires.table_value in
    let ok = c.requires.sheet_value in
    let d = first_done _ _ ok S c.first_answer-answer.ensures (c.steps-steps.ensures ∙ rw c.steps.ensures) c.stops.ensures c.if-stops.true in
    record { value = d.0; shares_after = shared_end (shares_next _ _ ok S (c.fresh-start.ensures _) (omega arith) (cleared _ _ ok S c.layout_of-layout.ensures _ c.requires.book_in_bounds c.clear.ensures) (rw (first_weight _ _ ok S c.first_answer-answer.ensures) at c.add_shares.ensures)) d.1 }

pub run_in-requires : goal.run_in-requires
run_in-requires c =
    let S = schedule_sized (schedule_in (option_copied c.args.table)) c.requires.table_value in
    let ok = c.requires.sheet_value in
    record {
      sheet_value = ok;
      table_value = c.requires.table_value;
      layout_value = c.layout_of-layout.ensures;
      steps_value = c.steps-steps.ensures ∙ rw c.steps.ensures;
      holds = c.fresh-start.ensures _;
      shares_at = cleared_shares _ _ ok S c.layout_of-layout.ensures _ c.requires.book_in_bounds c.clear.ensures;
      scores_room = (boats_for _ _ 16 c.layout_of-layout.ensures c.if-boats-le16.true, omega arith);
      products_room = (room_for _ _ 16 c.layout_of-layout.ensures c.if-boats-le16.true, omega arith);
    }

pub returns-then-boats-le16 : goal.returns-then-boats-le16
returns-then-boats-le16 c =
    let S = schedule_sized (schedule_in (option_copied c.args.table)) c.requires.table_value in
    record {
      value = c.run_in.ensures.value;
      shares_after = behind (run_iterate (plain_problem (schedule_in (option_copied c.args.table)) c.args.book.now c.args.sheet.now)).shares c.run_in.ensures.shares_after (cleared_rest _ _ c.requires.sheet_value S c.layout_of-layout.ensures _ c.requires.book_in_bounds c.clear.ensures);
    }

pub run_in-requires-then-boats-le64 : goal.run_in-requires-then-boats-le64
run_in-requires-then-boats-le64 c =
    let S = schedule_sized (schedule_in (option_copied c.args.table)) c.requires.table_value in
    let ok = c.requires.sheet_value in
    record {
      sheet_value = ok;
      table_value = c.requires.table_value;
      layout_value = c.layout_of-layout.ensures;
      steps_value = c.steps-steps.ensures ∙ rw c.steps.ensures;
      holds = c.fresh-start.ensures _;
      shares_at = cleared_shares _ _ ok S c.layout_of-layout.ensures _ c.requires.book_in_bounds c.clear.ensures;
      scores_room = (boats_for _ _ 64 c.layout_of-layout.ensures c.if-boats-le64.true, omega arith);
      products_room = (room_for _ _ 64 c.layout_of-layout.ensures c.if-boats-le64.true, omega arith);
    }

pub returns-then-boats-le64 : goal.returns-then-boats-le64
returns-then-boats-le64 c =
    let S = schedule_sized (schedule_in (option_copied c.args.table)) c.requires.table_value in
    record {
      value = c.run_in-then-boats-le64.ensures.value;
      shares_after = behind (run_iterate (plain_problem (schedule_in (option_copied c.args.table)) c.args.book.now c.args.sheet.now)).shares c.run_in-then-boats-le64.ensures.shares_after (cleared_rest _ _ c.requires.sheet_value S c.layout_of-layout.ensures _ c.requires.book_in_bounds c.clear.ensures);
    }

pub run_in-requires-2 : goal.run_in-requires-2
run_in-requires-2 c =
    let S = schedule_sized (schedule_in (option_copied c.args.table)) c.requires.table_value in
    let ok = c.requires.sheet_value in
    record {
      sheet_value = ok;
      table_value = c.requires.table_value;
      layout_value = c.layout_of-layout.ensures;
      steps_value = c.steps-steps.ensures ∙ rw c.steps.ensures;
      holds = c.fresh-start.ensures _;
      shares_at = cleared_shares _ _ ok S c.layout_of-layout.ensures _ c.requires.book_in_bounds c.clear.ensures;
      scores_room = ((book_fits _ _ ok).most_boats, omega arith);
      products_room = (room_always _ _ ok, omega arith);
    }

pub returns : goal.returns
returns c =
    let S = schedule_sized (schedule_in (option_copied c.args.table)) c.requires.table_value in
    record {
      value = c.run_in-2.ensures.value;
      shares_after = behind (run_iterate (plain_problem (schedule_in (option_copied c.args.table)) c.args.book.now c.args.sheet.now)).shares c.run_in-2.ensures.shares_after (cleared_rest _ _ c.requires.sheet_value S c.layout_of-layout.ensures _ c.requires.book_in_bounds c.clear.ensures);
    }
