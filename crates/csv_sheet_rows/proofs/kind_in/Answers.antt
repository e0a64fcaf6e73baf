-- `csv_sheet_rows::kind_in` meets its contract: a law for each return.
use Prim.Native.Nat.{ℕ, ◌+◌, ◌<◌}
use native.Mathlib.Omega.{arith}
use mathlib.Core.Path.{◌≡◌, ap, ◌∙◌}
use lib.ListN.{length}
use Rattle.csv_cells.specs.Cells.{width}
use Rattle.csv_slots.proofs.Holding.{slot_fits, first_held}
use Rattle.csv_sheet_rows.proofs.RowKinds.{at_word, at_blank, at_nameless}
use Rattle.csv_sheet_rows.proofs.kind_in.Goals as goal

pub cell-name-requires : goal.cell-name-requires
cell-name-requires c =
    let q = slot_fits c.requires.room _ (omega (arith, c.requires.row_bound)) in
    record { number_in_bounds = q.0; number_in_bounds_2 = q.1 }

pub returns-then-name-ne0 : goal.returns-then-name-ne0
returns-then-name-ne0 c =
    let h : c.args.row < 16 = omega (arith, c.requires.row_bound) in
    λ csv held.
    let e = c.cell-name.ensures ∙ first_held held c.args.row h in
    at_word _ csv (ap length e) c.if-name-ne0.true e c.kind_of.ensures

pub width_in-requires : goal.width_in-requires
width_in-requires c = record { row_bound = c.requires.row_bound; row_in_bounds = omega (arith, c.requires.room.sizes_long, c.requires.row_bound) }

pub returns-then-width_in-eq0 : goal.returns-then-width_in-eq0
returns-then-width_in-eq0 c =
    let h : c.args.row < 16 = omega (arith, c.requires.row_bound) in
    let q : 0 + c.args.row ≡ c.args.row = omega arith in
    λ csv held.
    let e = c.cell-name.ensures ∙ first_held held c.args.row h in
    at_blank _ csv (ap length e) c.if-name-ne0.false (c.width_in.ensures 0 16 csv _ held h ∙ ap (λ (k : ℕ). width k csv) q) c.if-width_in-eq0.true

pub returns : goal.returns
returns c =
    let h : c.args.row < 16 = omega (arith, c.requires.row_bound) in
    let q : 0 + c.args.row ≡ c.args.row = omega arith in
    λ csv held.
    let e = c.cell-name.ensures ∙ first_held held c.args.row h in
    at_nameless _ csv (ap length e) c.if-name-ne0.false (c.width_in.ensures 0 16 csv _ held h ∙ ap (λ (k : ℕ). width k csv) q) c.if-width_in-eq0.false
