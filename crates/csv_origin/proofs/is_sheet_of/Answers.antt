-- `csv_origin::is_sheet_of` meets its contract: a law of `Sheets` for each return.
use borrow.Author.Rules.{rules}
use mathlib.Core.Path.{◌≡◌, refl, sym}
use Prim.Native.Nat.{ℕ, ◌≤◌}
use native.Mathlib.Omega.{arith}
use lib.ListN.{length, length-replicate}
use lib.Seq.{length-take-le}
use Rattle.csv_fleet_tokens.proofs.Faults.{positive}
use Rattle.csv_sheet.specs.Outcomes.{written, refused}
use Rattle.csv_origin.proofs.Sheets.{is_fleet, not_fleet, sheet_short, front_decides, no_sheet, sheet_compared}
use Rattle.csv_origin.proofs.is_sheet_of.Goals as goal

pub slice_bounds-csv_sheet-end : goal.slice_bounds-csv_sheet-end
slice_bounds-csv_sheet-end c = sym (length-replicate {A = ℕ} 40000 0)

pub slice_bounds-output-end : goal.slice_bounds-output-end
slice_bounds-output-end c =
    let long : length c.csv_sheet.new.output ≡ 40000 = search rules in
    let short : c.in-Ok.made.len ≤ 40000 = sheet_short _ _ (written c.in-Ok.made) refl _ c.in-Ok.ensures.sheet_right in
    omega (arith, short, long)

pub slice_bounds-is_edition_of-end : goal.slice_bounds-is_edition_of-end
slice_bounds-is_edition_of-end c =
    let long : length c.csv_sheet.new.output ≡ 40000 = search rules in
    let short : c.in-Ok.made.len ≤ 40000 = sheet_short _ _ (written c.in-Ok.made) refl _ c.in-Ok.ensures.sheet_right in
    sym (length-take-le _ c.csv_sheet.new.output (omega (arith, short, long)))

pub returns-in-Ok : goal.returns-in-Ok
returns-in-Ok c = sheet_compared _ _ (written c.in-Ok.made) _ c.in-Ok.ensures.value (length-replicate {A = ℕ} 40000 0) refl c.in-Ok.ensures.output_after c.in-Ok.ensures.sheet_right _ c.is_edition_of.ensures

pub returns-then-eq : goal.returns-then-eq
returns-then-eq c = front_decides _ _ (refused c.in-Err.finding) c.in-Err.ensures.value (length-replicate {A = ℕ} 40000 0) (is_fleet _ c.eq.ensures c.if-eq.true) _ c.is_front_of.ensures

pub returns-else-eq : goal.returns-else-eq
returns-else-eq c = no_sheet _ _ (refused c.in-Err.finding) c.in-Err.ensures.value (length-replicate {A = ℕ} 40000 0) (not_fleet _ c.eq.ensures c.if-eq.false) (positive _) _
