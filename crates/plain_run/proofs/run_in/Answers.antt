-- `plain_run::run_in` meets its contract.
use Rattle.std.specs.Prelude.{option_copied}
use native.Mathlib.Omega.{arith}
use lib.ListN.{length-replicate}
use Rattle.method.specs.Calls.{schedule_in}
use Rattle.method.proofs.Schedules.{schedule_sized}
use Rattle.run_loop.proofs.Keeping.{scores_start}
use Rattle.plain_run.proofs.run_in.Goals as goal

pub whole_as_slice-run_from : goal.whole_as_slice-run_from
whole_as_slice-run_from g c = omega (arith, c.requires.scores_room.1)

pub whole_as_slice-run_from-2 : goal.whole_as_slice-run_from-2
whole_as_slice-run_from-2 g c = omega (arith, c.requires.products_room.1)

pub run_from-requires : goal.run_from-requires
run_from-requires g c =
    let S = schedule_sized (schedule_in (option_copied c.args.table)) c.requires.table_value in
    record {
      sheet_value = c.requires.sheet_value;
      table_value = c.requires.table_value;
      layout_value = c.requires.layout_value;
      steps_value = c.requires.steps_value;
      holds = c.requires.holds;
      shares_at = c.requires.shares_at;
      scores_at = scores_start _ _ c.requires.sheet_value S _ c.requires.scores_room.0;
      book_in_bounds = rw length-replicate c.requires.products_room.0;
    }

pub returns : goal.returns
returns g c = record { value = c.run_from.ensures.value; shares_after = c.run_from.ensures.shares_after }
