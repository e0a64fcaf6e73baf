-- `csv_sheet_words::column_line` meets its contract.
use native.Mathlib.Omega.{arith}
use lib.ListN.{length-map}
use Prim.Native.Nat.{◌≤◌}
use Rattle.message_parts.specs.Parts.{shown}
use Rattle.csv_sheet_words.proofs.Wording.{column_told}
use Rattle.csv_sheet_words.proofs.column_line.Goals as goal

pub with_closing-told-requires : goal.with_closing-told-requires
with_closing-told-requires c =
    let short : c.with_shown-named.result.len ≤ 250 = omega (arith, c.empty-empty.ensures.length_is, c.with_opening-begun.ensures.len_bound, c.with_shown-named.ensures.length_is, length-map c.args.name.now shown, c.requires) in
    omega (arith, short)

pub with_bytes-requires : goal.with_bytes-requires
with_bytes-requires c =
    let short : c.with_shown-named.result.len ≤ 250 = omega (arith, c.empty-empty.ensures.length_is, c.with_opening-begun.ensures.len_bound, c.with_shown-named.ensures.length_is, length-map c.args.name.now shown, c.requires) in
    omega (arith, short, c.with_closing-told.ensures.len_bound)

pub returns : goal.returns
returns c = column_told _ _ c.empty-empty.ensures c.with_opening-begun.ensures.adds c.with_shown-named.ensures c.with_closing-told.ensures.adds c.with_bytes.ensures
