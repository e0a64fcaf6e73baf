-- `edition_text::reason_detail` meets its contract.
use mathlib.Core.Path.{sym, ap, ◌∙◌}
use Rattle.refusals.specs.Numbers.{number}
use Rattle.files.proofs.Accepted.{sheet_passed}
use Rattle.edition_text.proofs.Telling.{long_of_13, of_47, of_48, told_13, told_47, told_48, told_none}
use Rattle.edition_text.proofs.reason_detail.Goals as goal

pub columns_line-requires : goal.columns_line-requires
columns_line-requires c = long_of_13 _ _ (sym c.requires ∙ ap number c.in-SheetColumns.is)

pub returns-in-SheetColumns : goal.returns-in-SheetColumns
returns-in-SheetColumns c = told_13 _ (ap number c.in-SheetColumns.is) c.columns_line.ensures

pub factor_line-requires : goal.factor_line-requires
factor_line-requires c =
    let q = of_47 _ _ (sym c.requires ∙ ap number c.in-EditionFactors.is) in
    record { sheet_value = q.0; sheet_value_2 = q.1 }

pub returns-in-EditionFactors : goal.returns-in-EditionFactors
returns-in-EditionFactors c = told_47 _ (ap number c.in-EditionFactors.is) c.factor_line.ensures

pub other_number-number-requires : goal.other_number-number-requires
other_number-number-requires c = (sheet_passed 1 64 _ (of_48 _ _ (sym c.requires ∙ ap number c.in-EditionRoom.is)).0).fits.at_least

pub other_size-requires : goal.other_size-requires
other_size-requires c = record { convertible = of_48 _ _ (sym c.requires ∙ ap number c.in-EditionRoom.is); number_value = c.other_number-number.ensures }

pub size_line-requires : goal.size_line-requires
size_line-requires c = c.other_size.ensures

pub returns-in-EditionRoom : goal.returns-in-EditionRoom
returns-in-EditionRoom c = told_48 _ (ap number c.in-EditionRoom.is) c.size_line.ensures

pub returns-in_default : goal.returns-in_default
returns-in_default c = told_none _ c.args.refusal c.in_default.not-SheetColumns c.in_default.not-EditionFactors c.in_default.not-EditionRoom c.empty.ensures
