-- `better_card::better_card` meets its contract.
use Rattle.files.proofs.Numbers.{all_bytes_known}
use Rattle.better_card_promise.proofs.Choosing.{handed}
use Rattle.better_card.proofs.better_card.Goals as goal

pub returns : goal.returns
returns c =
    let x = c.args in
    let q = handed _ _ _ _ (all_bytes_known _ c.shared_slice_known-3-1.given) (all_bytes_known _ c.shared_slice_known-4-1.given) x.first.ref_ptr x.second.ref_ptr c.choose-chosen.ensures.value (c.part_of.ensures.result_value, c.part_of.ensures.ref_ptr_value) in
    record { number_after = q.0; result_value = q.1.0; ref_ptr_value = q.1.1.0; better_right = q.1.1.1 }
