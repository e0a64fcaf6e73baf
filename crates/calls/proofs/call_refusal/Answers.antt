-- `calls::call_refusal` meets its contract.
use mathlib.Core.Path.{refl}
use Rattle.std.specs.Prelude.{option_copied}
use Rattle.refusals.proofs.Numbers.{positive, passed_on}
use Rattle.method.specs.Calls.{terms_in}
use Rattle.calls.proofs.Order.{table_refuses, files_refuse, unlimited_order}
use Rattle.calls.proofs.call_refusal.Goals as goal

pub returns-in_err-refusal : goal.returns-in_err-refusal
returns-in_err-refusal c =
    passed_on _ _ c.from_residual.ensures
    (table_refuses (terms_in c.args.released (option_copied c.args.table)) _ _ _ c.in_err-refusal.ensures (positive _))

pub returns-then-released : goal.returns-then-released
returns-then-released c = files_refuse (terms_in c.args.released (option_copied c.args.table)) _ _ _ c.in_ok-refusal.ensures refl c.limited_refusal.ensures

pub returns : goal.returns
returns c =
    files_refuse (terms_in c.args.released (option_copied c.args.table)) _ _ _ c.in_ok-refusal.ensures refl
    (unlimited_order c.args.released _ _ c.if-released.false c.files_refusal.ensures)
