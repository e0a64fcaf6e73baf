-- `exported_cards::dofitrano_write_card_with` meets its contract.
use Rattle.exported_cards.proofs.Promises.{lent_filing}
use Rattle.exported_cards.proofs.dofitrano_write_card_with.Goals as goal

pub returns : goal.returns
returns c =
    let f = c.write_card_with-written.ensures in
    let q = lent_filing c.args.released c.lent_table-own_table.ensures _ _ _ c.card_reply_to.ensures f.value f.output_after f.filing_right_with in
    record { value = q.0; output_after = q.1.0; filing_right_with = q.1.1; table_value = λ e t. rw (e, t) }
