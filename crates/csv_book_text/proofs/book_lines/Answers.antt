-- `csv_book_text::book_lines` meets its contract.
use Rattle.csv_book_text.proofs.Lines.{book_told}
use Rattle.csv_book_text.proofs.book_lines.Goals as goal

pub returns : goal.returns
returns c = book_told _ c.empty-empty.ensures c.with_pair-counted.ensures.adds c.with_front.ensures
