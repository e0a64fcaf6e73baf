-- `better_card::judge_both` meets its contract.
use mathlib.Core.Path.{ap, ◌∙◌}
use Rattle.method.specs.Searched.{searched}
use mathlib.Core.List.{[]}
use Rattle.files.proofs.Numbers.{all_bytes_known}
use Rattle.better_card.proofs.Wrong.{first_wrong, second_wrong}
use Rattle.better_card_promise.proofs.Choosing.{files_accepted, promised, first_refused, second_refused, first_inside, second_inside, first_chosen, second_chosen}
use Rattle.better_card.proofs.judge_both.Goals as goal

pub judged-requires : goal.judged-requires
judged-requires c = files_accepted _ _ _ [] c.checked.ensures (ap searched c.in-Ok.is)

pub behind_front-requires : goal.behind_front-requires
behind_front-requires c = second_inside _ _ _ _ c.checked.ensures (ap searched c.in-Ok.is) c.judged.ensures (ap searched c.in-Ok-judged.is) (all_bytes_known _ c.shared_slice_known-4-1.given)

pub returns-then-nearer : goal.returns-then-nearer
returns-then-nearer c =
    let q = promised _ _ _ _ (all_bytes_known _ c.shared_slice_known-3-1.given) (all_bytes_known _ c.shared_slice_known-4-1.given) (c.behind_front.ensures ∙ second_chosen _ _ _ _ c.checked.ensures (ap searched c.in-Ok.is) c.judged.ensures (ap searched c.in-Ok-judged.is) c.nearer.ensures c.if-nearer.true) in
    record { wrong_value = second_wrong _ _ _ c.checked.ensures (ap searched c.in-Ok.is); choice_value = q.0; better_right = q.1.0; len_in_bounds = q.1.1 }

pub behind_front-requires-in-Ok-judged : goal.behind_front-requires-in-Ok-judged
behind_front-requires-in-Ok-judged c = first_inside _ _ _ _ c.checked.ensures (ap searched c.in-Ok.is) c.judged.ensures (ap searched c.in-Ok-judged.is) (all_bytes_known _ c.shared_slice_known-3-1.given)

pub returns-in-Err : goal.returns-in-Err
returns-in-Err c =
    let q = promised _ _ _ _ (all_bytes_known _ c.shared_slice_known-3-1.given) (all_bytes_known _ c.shared_slice_known-4-1.given) (c.refused.ensures ∙ first_refused _ _ _ _ c.checked.ensures _ (ap searched c.in-Err.is)) in
    record { wrong_value = first_wrong _ _ _ c.checked.ensures _ (ap searched c.in-Err.is); choice_value = q.0; better_right = q.1.0; len_in_bounds = q.1.1 }

pub returns-in-Err-judged : goal.returns-in-Err-judged
returns-in-Err-judged c =
    let q = promised _ _ _ _ (all_bytes_known _ c.shared_slice_known-3-1.given) (all_bytes_known _ c.shared_slice_known-4-1.given) (c.refused-in-Err-judged.ensures ∙ second_refused _ _ _ _ c.checked.ensures (ap searched c.in-Ok.is) c.judged.ensures _ (ap searched c.in-Err-judged.is)) in
    record { wrong_value = second_wrong _ _ _ c.checked.ensures (ap searched c.in-Ok.is); choice_value = q.0; better_right = q.1.0; len_in_bounds = q.1.1 }

pub returns-else-nearer : goal.returns-else-nearer
returns-else-nearer c =
    let q = promised _ _ _ _ (all_bytes_known _ c.shared_slice_known-3-1.given) (all_bytes_known _ c.shared_slice_known-4-1.given) (c.behind_front-in-Ok-judged.ensures ∙ first_chosen _ _ _ _ c.checked.ensures (ap searched c.in-Ok.is) c.judged.ensures (ap searched c.in-Ok-judged.is) c.nearer.ensures c.if-nearer.false) in
    record { wrong_value = second_wrong _ _ _ c.checked.ensures (ap searched c.in-Ok.is); choice_value = q.0; better_right = q.1.0; len_in_bounds = q.1.1 }
