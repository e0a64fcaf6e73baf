-- `edition_text::size_line` meets its contract.
use Rattle.edition_text.proofs.Telling.{size_told}
use Rattle.edition_text.proofs.size_line.Goals as goal

pub returns : goal.returns
returns c = size_told _ c.empty.ensures c.with_bytes-begun.ensures c.requires c.with_number-counted.ensures.adds c.with_bytes-told.ensures c.with_bytes.ensures
