-- `released_run::run` meets its contract.
use Rattle.std.specs.Prelude.{option_copied}
use Rattle.method.specs.Calls.{terms_in}
use Rattle.method.proofs.Accepted.{files_ok, schedule_ok}
use Rattle.released_run.proofs.Limited.{unlimited_answer, unlimited_slots}
use borrow.Author.Rules.{rules}
use Rattle.released_run.proofs.run.Goals as goal

pub run-requires : goal.run-requires
run-requires c =
    let m = terms_in c.args.released (option_copied c.args.table) in
    record { sheet_value = files_ok m _ _ c.requires.sheet_value; table_value = schedule_ok m _ _ c.requires.sheet_value; book_in_bounds = c.requires.book_in_bounds }

pub returns : goal.returns
returns c = record { value = unlimited_answer c.args.released (option_copied c.args.table) _ _ c.if-released.false c.run.ensures.value; shares_after = unlimited_slots c.args.released (option_copied c.args.table) _ _ c.if-released.false _ c.run.ensures.shares_after }
