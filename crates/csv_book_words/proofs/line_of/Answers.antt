-- `csv_book_words::line_of` meets its contract.
use Rattle.csv_book_words.proofs.Wording.{line_told}
use Rattle.csv_book_words.proofs.line_of.Goals as goal

pub returns : goal.returns
returns c =
    line_told _ _ _ _ c.empty-empty.ensures c.with_bytes-begun.ensures c.with_place-placed.ensures.adds c.with_part-named.ensures.adds c.with_part-whole.ensures.adds
    c.with_bytes-told.ensures c.with_words-said.ensures.adds c.with_bytes.ensures
