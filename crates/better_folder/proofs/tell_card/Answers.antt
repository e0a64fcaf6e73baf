-- `better_folder::tell_card` meets its contract.
use Rattle.better_card.proofs.Wrong.{first_refused, second_refused}
use Rattle.better_folder.proofs.tell_card.Goals as goal

pub tell_card-requires : goal.tell_card-requires
tell_card-requires c = second_refused _ _ c.args.first.now _ c.requires c.if-wrong-eq2.true

pub tell_card-requires-2 : goal.tell_card-requires-2
tell_card-requires-2 c = first_refused _ _ _ c.args.second.now c.requires c.if-wrong-eq2.false
