-- `released_card::judged` meets its contract.
use Rattle.std.specs.Prelude.{option_copied}
use Rattle.method.specs.Calls.{terms_in}
use Rattle.method.proofs.Accepted.{files_ok, schedule_ok}
use Rattle.released_card.proofs.Judging.{unlimited_judgement}
use Rattle.released_card.proofs.judged.Goals as goal

pub plain_judged-requires : goal.plain_judged-requires
plain_judged-requires c =
    let m = terms_in c.args.released (option_copied c.args.table) in
    record { sheet_value = files_ok m _ _ c.requires.sheet_value; table_value = schedule_ok m _ _ c.requires.sheet_value; card_readable = c.requires.card_readable }

pub returns : goal.returns
returns c = unlimited_judgement c.args.released (option_copied c.args.table) _ _ _ _ c.if-released.false c.plain_judged.ensures
