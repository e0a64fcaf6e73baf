-- `exported_cards::dofitrano_check_card_with` meets its contract.
use Rattle.exported_cards.proofs.Promises.{lent_check}
use Rattle.exported_cards.proofs.dofitrano_check_card_with.Goals as goal

pub returns : goal.returns
returns c =
    let f = c.check_card_with-found.ensures in
    let q = lent_check c.args.released c.lent_table-own_table.ensures _ _ _ _ c.reply_to.ensures f.value f.shares_after f.check_right_with in
    record { value = q.0; shares_after = q.1.0; check_right_with = q.1.1; table_value = λ e t. rw (e, t) }
