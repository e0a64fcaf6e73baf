-- What an entry promises of what it gave back, said of the outcome by which the contracts give it. Assumes nothing.
use mathlib.Core.Path.{◌≡◌, subst}
use mathlib.Core.List.{List}
use Prim.Native.Nat.{ℕ}
use Rattle.editions.specs.Rewritten.{Rewritten}
use Rattle.editions.specs.Promise.{EditionRight}
use Rattle.scale_cells.specs.declared.ScaleCell.{ScaleCell}
use Rattle.scale_cells.specs.declared.SheetValues.{SheetValues}
use Rattle.scale_cells.specs.Cells.{sheet_values}
use Rattle.scale_cells.specs.Promise.{ConversionRight}
use Rattle.scale_sheet.specs.declared.ScaleSheet.{ScaleSheet}
use Rattle.scale_sheet.specs.Sheets.{scale_sheet}
use Rattle.scale_sheet.specs.Promise.{SheetRight}

pub edition_right : (s : List ℕ) {r o : Rewritten} {output after : List ℕ} → r ≡ o → output ≡ after → EditionRight s r output → EditionRight s o output
edition_right s {output = q} e f h = subst (λ x. EditionRight s x q) e h

-- what is given for cells, said of the lists that they were read from
pub values_right : (b : List ℕ) {cs ds : List ScaleCell} {r : SheetValues} → cs ≡ ds → (r ≡ sheet_values b cs) × ConversionRight b cs r → (r ≡ sheet_values b ds) × ConversionRight b ds r
values_right b {r = r} e h = subst (λ ds. (r ≡ sheet_values b ds) × ConversionRight b ds r) e h

pub sheet_right : (b : List ℕ) (k t : ℕ) {cs ds : List ScaleCell} {r : ScaleSheet} → cs ≡ ds → (r ≡ scale_sheet b cs k t) × SheetRight b cs k t r → (r ≡ scale_sheet b ds k t) × SheetRight b ds k t r
sheet_right b k t {r = r} e h = subst (λ ds. (r ≡ scale_sheet b ds k t) × SheetRight b ds k t r) e h
