-- `csv_origin::is_front_of` meets its contract: a law of `Sheets` for each return.
use mathlib.Core.Path.{sym, ◌∙◌}
use native.Mathlib.Omega.{arith}
use lib.Seq.{length-take-le}
use Rattle.csv_origin.proofs.Sheets.{some_number, no_number, no_front, front_whole, front_compared}
use Rattle.csv_origin.proofs.is_front_of.Goals as goal

pub returns-then-is_err : goal.returns-then-is_err
returns-then-is_err c = no_front _ c.sheet_refusal_in.ensures (some_number _ (sym c.is_err.ensures.value ∙ c.if-is_err.true)) _

pub sheet_body-at-requires : goal.sheet_body-at-requires
sheet_body-at-requires c = front_whole _ c.sheet_refusal_in.ensures (no_number _ (sym c.is_err.ensures.value ∙ c.if-is_err.false))

pub slice_bounds-is_same-end : goal.slice_bounds-is_same-end
slice_bounds-is_same-end c = sym (length-take-le _ _ (omega (arith, c.sheet_body-at.ensures)))

pub returns : goal.returns
returns c = front_compared _ c.sheet_refusal_in.ensures (no_number _ (sym c.is_err.ensures.value ∙ c.if-is_err.false)) c.sheet_body-at.ensures _ c.is_same.ensures
