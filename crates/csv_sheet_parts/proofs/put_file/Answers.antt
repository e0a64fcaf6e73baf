-- `csv_sheet_parts::put_file` meets its contract: the sheet is the first part of its buffer, and stands behind the CSV.
use borrow.Author.Rules.{rules}
use mathlib.Core.Path.{◌≡◌, sym, ap, ◌∙◌}
use native.Mathlib.Omega.{arith}
use lib.ListN.{length}
use lib.Seq.{length-take-le}
use Rattle.csv_sheet_parts.proofs.Bounds.{factors_long}
use Rattle.csv_sheet_parts.proofs.Editions.{sheet_room, file_put}
use Rattle.csv_sheet_parts.proofs.put_file.Goals as goal

pub put_sheet-size-requires : goal.put_sheet-size-requires
put_sheet-size-requires c = record { ready = c.requires.ready; factors_len = ap length c.requires.factors_value ∙ factors_long _ _; in_bounds = omega arith }

pub slice_bounds-put_bytes-end : goal.slice_bounds-put_bytes-end
slice_bounds-put_bytes-end c =
    let long : length c.put_sheet-size.new.output ≡ 208 = search rules in
    sym (length-take-le _ c.put_sheet-size.new.output (omega (arith, long, c.put_sheet-size.ensures.upper_bound)))

pub put_bytes-requires-2 : goal.put_bytes-requires-2
put_bytes-requires-2 c = sheet_room c.requires.ready c.requires.factors_value c.requires.steps_value c.requires.tolerance_value _ _ c.requires.file_limit_in_bounds (search rules) c.put_sheet-size.ensures.value c.put_sheet-size.ensures.upper_bound c.put_sheet-size.ensures.output_after c.put_bytes.ensures

pub returns : goal.returns
returns c =
    let q = file_put c.requires.ready c.requires.factors_value c.requires.steps_value c.requires.tolerance_value _ _ c.requires.file_limit_in_bounds (search rules) c.put_sheet-size.ensures.value c.put_sheet-size.ensures.upper_bound c.put_sheet-size.ensures.output_after c.put_bytes.ensures c.put_bytes-2.ensures in
    record { value = q.0; output_after = q.1 }
