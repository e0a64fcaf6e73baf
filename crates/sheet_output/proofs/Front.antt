-- An accepted sheet with bytes in front is the same sheet.
use mathlib.Core.Path.{◌≡◌, sym, ◌∙◌}
use mathlib.Core.List.{[], ◌++◌}
use native.Mathlib.Omega.{arith}
use lib.ListN.{length-append}
use Rattle.files.specs.Sheet.{sheet_refusal}
use Rattle.files.specs.Fits.{SheetFits}
use Rattle.files.specs.Front.{SheetFrontUnread}
use Rattle.files.proofs.Accepted.{sheet_accepted}
use Rattle.files.proofs.Front.{sheet_front_unread}
use Rattle.sheet_output.specs.Front.{SheetTakesFront}

pub sheet_takes_front : SheetTakesFront
unfolding SheetTakesFront SheetFrontUnread
sheet_takes_front c front t e room =
    let known : SheetFits c t = sheet_accepted c t e in
    let same = sheet_front_unread front [] t c c known.whole (omega (arith, length-append front t)) (omega (arith, known.at_most)) in
    let accepted : sheet_refusal c (front ++ t) ≡ 0 = same.1 ∙ e in
    record {
      same_sheet = same.0;
      same_columns = (sheet_accepted c (front ++ t) accepted).same_columns ∙ sym known.same_columns;
      accepted = accepted;
    }
