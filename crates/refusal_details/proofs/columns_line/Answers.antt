-- `refusal_details::columns_line` meets its contract.
use Rattle.refusal_details.proofs.Lines.{columns_told}
use Rattle.refusal_details.proofs.columns_line.Goals as goal

pub returns : goal.returns
returns c =
    columns_told _ _ c.empty.ensures c.with_bytes-begun.ensures c.sheet_columns.ensures.value c.with_number-counted.ensures.adds
    c.with_bytes-told.ensures c.columns.ensures.value c.with_number-both.ensures.adds c.with_bytes.ensures
