-- `csv_sheet_words::row_line` meets its contract.
use native.Mathlib.Omega.{arith}
use Prim.Native.Nat.{◌≤◌}
use Rattle.csv_sheet_words.proofs.Wording.{row_told}
use Rattle.csv_sheet_words.proofs.row_line.Goals as goal

pub with_words-said-requires : goal.with_words-said-requires
with_words-said-requires c =
    let short : c.with_bytes-told.result.len ≤ 450 = omega (
      arith,
      c.empty-empty.ensures.length_is,
      c.with_bytes-begun.ensures.length_is,
      c.with_place-placed.ensures.len_bound,
      c.with_part-named.ensures.len_bound,
      c.with_part-whole.ensures.len_bound,
      c.with_bytes-told.ensures.length_is,
      c.requires.row_len_bound,
      c.requires.column_len_bound,
    ) in
    omega (arith, short, c.requires.value_len_bound)

pub with_bytes-requires : goal.with_bytes-requires
with_bytes-requires c =
    let short : c.with_bytes-told.result.len ≤ 450 = omega (
      arith,
      c.empty-empty.ensures.length_is,
      c.with_bytes-begun.ensures.length_is,
      c.with_place-placed.ensures.len_bound,
      c.with_part-named.ensures.len_bound,
      c.with_part-whole.ensures.len_bound,
      c.with_bytes-told.ensures.length_is,
      c.requires.row_len_bound,
      c.requires.column_len_bound,
    ) in
    omega (arith, short, c.with_words-said.ensures.len_bound, c.requires.value_len_bound)

pub returns : goal.returns
returns c =
    row_told _ _ _ _ _ c.empty-empty.ensures c.with_bytes-begun.ensures c.with_place-placed.ensures.adds c.with_part-named.ensures.adds c.with_part-whole.ensures.adds
    c.with_bytes-told.ensures c.with_words-said.ensures.adds c.with_bytes.ensures
