-- `csv_sheet_text::sheet_lines` meets its contract.
use native.Mathlib.Omega.{arith}
use Rattle.csv_sheet_text.proofs.Telling.{sheet_told}
use Rattle.csv_sheet_text.proofs.sheet_lines.Goals as goal

pub with_front-requires : goal.with_front-requires
with_front-requires c =
    omega (
      arith,
      c.empty-empty.ensures.length_is,
      c.with_line-counted.ensures.len_bound,
      c.with_line-weighed.ensures.len_bound,
      c.with_line-limited.ensures.len_bound,
      c.with_line-judged.ensures.len_bound,
    )

pub returns : goal.returns
returns c =
    sheet_told _ c.empty-empty.ensures c.with_line-counted.ensures.adds c.with_line-weighed.ensures.adds c.with_line-limited.ensures.adds
    c.with_line-judged.ensures.adds c.with_front.ensures
