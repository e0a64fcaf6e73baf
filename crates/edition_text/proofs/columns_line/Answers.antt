-- `edition_text::columns_line` meets its contract.
use Rattle.edition_text.proofs.Telling.{columns_told}
use Rattle.edition_text.proofs.columns_line.Goals as goal

pub returns : goal.returns
returns c = columns_told _ c.empty.ensures c.with_bytes-begun.ensures c.sheet_columns.ensures.value c.with_number-counted.ensures.adds c.with_bytes-told.ensures c.with_bytes.ensures
