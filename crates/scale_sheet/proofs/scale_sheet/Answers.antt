-- `scale_sheet::scale_sheet` meets its contract: a law of `Making` for each return.
use borrow.Author.Rules.{rules}
use mathlib.Core.Path.{◌≡◌, sym, ap, ◌∙◌}
use mathlib.Core.Bool.{true}
use native.Mathlib.Omega.{arith}
use lib.ListN.{length}
use Rattle.files.specs.Bytes.{between}
use Rattle.files.specs.Limits.{step_limit}
use Rattle.scale_cells.specs.declared.SheetValues.{SheetValues}
use Rattle.scale_cells.specs.Cells.{scale_refusal, sheet_values}
use Rattle.std.proofs.lemmas.Result.{err_from_is_err_and}
use Rattle.refusals.proofs.Numbers.{positive}
use Rattle.scale_sheet.proofs.Making.{Passed, cells_refused, steps_refused, tolerance_refused, book, few, front_in_range, trailer_room, made_sheet}
use Rattle.scale_sheet.proofs.scale_sheet.Goals as goal

pub returns-in_err-values : goal.returns-in_err-values
unfolding sheet_values
returns-in_err-values c =
    let all_cells : length c.args.cells ≡ 64 = search rules in
    let p = err_from_is_err_and c.from_residual.result c.from_residual.ensures.1 in
    let q = cells_refused _ _ _ _ all_cells _ (sym (ap (λ (v : SheetValues). v.refusal) c.in_err-values.ensures.value)) (positive _) in
    rw (p.1, p.2) (record { value = q.0; sheet_right = q.1 })

pub returns-then-not-is_between : goal.returns-then-not-is_between
unfolding sheet_values
returns-then-not-is_between c =
    let all_cells : length c.args.cells ≡ 64 = search rules in
    let cells_passed : (let a = c.args in scale_refusal a.book.now a.cells ≡ 0) = sym (ap (λ (v : SheetValues). v.refusal) c.in_ok-values.ensures.value) in
    let q = steps_refused _ _ _ _ all_cells cells_passed (sym c.is_between.ensures ∙ c.if-not-is_between.true) in
    record { value = q.0; sheet_right = q.1 }

pub returns-then-tolerance-gt1024000000 : goal.returns-then-tolerance-gt1024000000
unfolding sheet_values
returns-then-tolerance-gt1024000000 c =
    let all_cells : length c.args.cells ≡ 64 = search rules in
    let cells_passed : (let a = c.args in scale_refusal a.book.now a.cells ≡ 0) = sym (ap (λ (v : SheetValues). v.refusal) c.in_ok-values.ensures.value) in
    let steps_passed : (between 1 step_limit c.args.steps ≡ true) = sym c.is_between.ensures ∙ c.if-not-is_between.false in
    let q = tolerance_refused _ _ _ _ all_cells cells_passed steps_passed c.if-tolerance-gt1024000000.true in
    record { value = q.0; sheet_right = q.1 }

pub columns-columns-requires : goal.columns-columns-requires
unfolding sheet_values
columns-columns-requires c =
    let all_cells : length c.args.cells ≡ 64 = search rules in
    let cells_passed : (let a = c.args in scale_refusal a.book.now a.cells ≡ 0) = sym (ap (λ (v : SheetValues). v.refusal) c.in_ok-values.ensures.value) in
    let steps_passed : (between 1 step_limit c.args.steps ≡ true) = sym c.is_between.ensures ∙ c.if-not-is_between.false in
    let all_passed : (let a = c.args in Passed a.book.now a.cells a.steps a.tolerance) = record {
      all_cells = all_cells;
      cells_passed = cells_passed;
      steps_passed = steps_passed;
      tolerance_passed = c.if-tolerance-gt1024000000.false;
    } in
    (book all_passed).at_least

pub put_values-requires : goal.put_values-requires
unfolding sheet_values
put_values-requires c =
    let all_cells : length c.args.cells ≡ 64 = search rules in
    let cells_passed : (let a = c.args in scale_refusal a.book.now a.cells ≡ 0) = sym (ap (λ (v : SheetValues). v.refusal) c.in_ok-values.ensures.value) in
    let steps_passed : (between 1 step_limit c.args.steps ≡ true) = sym c.is_between.ensures ∙ c.if-not-is_between.false in
    let all_passed : (let a = c.args in Passed a.book.now a.cells a.steps a.tolerance) = record {
      all_cells = all_cells;
      cells_passed = cells_passed;
      steps_passed = steps_passed;
      tolerance_passed = c.if-tolerance-gt1024000000.false;
    } in
    let values_are = ap (λ (v : SheetValues). v.values) c.in_ok-values.ensures.value in
    let ev = values_are in
    let n = few all_passed ev c.columns-columns.ensures.value in
    record { count_bound = (n, omega arith); values_value = front_in_range all_passed ev c.columns-columns.ensures.value }

pub put_sheet_trailer-requires : goal.put_sheet_trailer-requires
unfolding sheet_values
put_sheet_trailer-requires c =
    let all_cells : length c.args.cells ≡ 64 = search rules in
    let cells_passed : (let a = c.args in scale_refusal a.book.now a.cells ≡ 0) = sym (ap (λ (v : SheetValues). v.refusal) c.in_ok-values.ensures.value) in
    let steps_passed : (between 1 step_limit c.args.steps ≡ true) = sym c.is_between.ensures ∙ c.if-not-is_between.false in
    let all_passed : (let a = c.args in Passed a.book.now a.cells a.steps a.tolerance) = record {
      all_cells = all_cells;
      cells_passed = cells_passed;
      steps_passed = steps_passed;
      tolerance_passed = c.if-tolerance-gt1024000000.false;
    } in
    let values_are = ap (λ (v : SheetValues). v.values) c.in_ok-values.ensures.value in
    trailer_room all_passed values_are c.columns-columns.ensures.value c.put_values.ensures

pub returns : goal.returns
unfolding sheet_values
returns c =
    let all_cells : length c.args.cells ≡ 64 = search rules in
    let cells_passed : (let a = c.args in scale_refusal a.book.now a.cells ≡ 0) = sym (ap (λ (v : SheetValues). v.refusal) c.in_ok-values.ensures.value) in
    let steps_passed : (between 1 step_limit c.args.steps ≡ true) = sym c.is_between.ensures ∙ c.if-not-is_between.false in
    let all_passed : (let a = c.args in Passed a.book.now a.cells a.steps a.tolerance) = record {
      all_cells = all_cells;
      cells_passed = cells_passed;
      steps_passed = steps_passed;
      tolerance_passed = c.if-tolerance-gt1024000000.false;
    } in
    let values_are = ap (λ (v : SheetValues). v.values) c.in_ok-values.ensures.value in
    let q = made_sheet all_passed values_are c.columns-columns.ensures.value c.put_values.ensures c.put_sheet_trailer.ensures in
    record { value = q.0; sheet_right = q.1 }
