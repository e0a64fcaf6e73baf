-- `csv_sheet_parts::tolerance_for` meets its contract: a law for each return.
use Prim.Native.Nat.{◌≤◌}
use native.Mathlib.Nat.{mul-le-mul}
use native.Mathlib.Omega.{arith}
use Rattle.csv_sheet_rows.specs.declared.Kind.TheVariants.{Each}
use Rattle.csv_sheet_rows.proofs.KindNumbers.{same_number, other_number}
use Rattle.csv_sheet_parts.proofs.Bounds.{plain_tolerance, each_tolerance, each_small}
use Rattle.csv_sheet_parts.proofs.tolerance_for.Goals as goal

pub overflow_mul-result : goal.overflow_mul-result
overflow_mul-result c =
    let small : c.cell_at-cell.result.magnitude ≤ 32000 = each_small _ c.args.total c.row_for-row.ensures c.cell_at-cell.ensures c.kind_at.ensures (same_number c.kind_at.result Each c.eq.ensures c.if-eq.true) c.requires.csv_value in
    omega (arith, mul-le-mul small small)

pub overflow_mul-result-then-eq : goal.overflow_mul-result-then-eq
overflow_mul-result-then-eq c =
    let small : c.cell_at-cell.result.magnitude ≤ 32000 = each_small _ c.args.total c.row_for-row.ensures c.cell_at-cell.ensures c.kind_at.ensures (same_number c.kind_at.result Each c.eq.ensures c.if-eq.true) c.requires.csv_value in
    let squared = mul-le-mul small small in
    omega (arith, mul-le-mul squared c.requires.total_bound)

pub returns-then-eq : goal.returns-then-eq
returns-then-eq c = each_tolerance _ _ c.row_for-row.ensures c.cell_at-cell.ensures c.kind_at.ensures (same_number c.kind_at.result Each c.eq.ensures c.if-eq.true)

pub returns : goal.returns
returns c = plain_tolerance _ _ c.row_for-row.ensures c.cell_at-cell.ensures c.kind_at.ensures (other_number c.kind_at.result Each c.eq.ensures c.if-eq.false)
