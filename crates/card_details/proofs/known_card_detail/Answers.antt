-- `card_details::known_card_detail` meets its contract.
use native.Mathlib.Omega.{arith}
use Rattle.card_details.proofs.Lines.{by_form, by_truth, by_less, by_more}
use Rattle.card_details.proofs.known_card_detail.Goals.{in_default-via-then-refusal-lt31, in_default-via-else-refusal-lt31+else-refusal-lt37+else-refusal-lt40}
use Rattle.card_details.proofs.known_card_detail.Goals as goal

pub returns-in-31-to-36 : goal.returns-in-31-to-36
returns-in-31-to-36 c = by_form _ _ _ _ c.requires (omega arith) c.form_line.ensures

pub returns-in-37-to-39 : goal.returns-in-37-to-39
returns-in-37-to-39 c = by_truth _ _ _ _ c.requires (omega arith) c.truth_line.ensures

pub returns-in_default : goal.returns-in_default
returns-in_default c =
    elim c.in_default.branch [
      | in_default-via-then-refusal-lt31 w ↦ by_less _ _ _ _ c.requires (omega arith) c.empty.ensures
      | in_default-via-else-refusal-lt31+else-refusal-lt37+else-refusal-lt40 w ↦ by_more _ _ _ _ c.requires (omega arith) c.empty.ensures
    ]
