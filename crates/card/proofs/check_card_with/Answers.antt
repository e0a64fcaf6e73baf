-- `card::check_card_with` meets its contract.
use Rattle.std.specs.Prelude.{option_copied}
use mathlib.Core.Path.{sym}
use Rattle.refusals.proofs.Numbers.{positive}
use Rattle.files.proofs.Numbers.{all_bytes_known}
use Rattle.method.proofs.Searched.{passed_searched}
use Rattle.card.proofs.Checking.{promised, refused_by_call}
use Rattle.card.proofs.check_card_with.Goals as goal

pub returns-in_err-call_refusal : goal.returns-in_err-call_refusal
returns-in_err-call_refusal c =
    let q = promised c.args.released (option_copied c.args.table) _ _ _ c.args.shares.now (all_bytes_known _ c.shared_slice_known-3-1.given) (refused_by_call c.args.released (option_copied c.args.table) _ _ _ _ _ c.in_err-call_refusal.ensures (positive _) (passed_searched _ _ c.from_residual.ensures)) in
    record { value = q.0; shares_after = q.1.0; check_right_with = q.1.1.0; table_value = q.1.1.1 }

pub judge_card_with-requires : goal.judge_card_with-requires
judge_card_with-requires c = sym c.in_ok-call_refusal.ensures

pub returns : goal.returns
returns c =
    let q = promised c.args.released (option_copied c.args.table) _ _ _ c.args.shares.now (all_bytes_known _ c.shared_slice_known-3-1.given) (c.judge_card_with.ensures.value, c.judge_card_with.ensures.shares_after) in
    record { value = q.0; shares_after = q.1.0; check_right_with = q.1.1.0; table_value = q.1.1.1 }
