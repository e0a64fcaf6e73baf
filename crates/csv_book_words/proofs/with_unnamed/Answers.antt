-- `csv_book_words::with_unnamed` meets its contract.
use Rattle.csv_book_words.proofs.Wording.{unnamed_added}
use Rattle.csv_book_words.proofs.with_unnamed.Goals as goal

pub returns : goal.returns
returns c =
    let q = unnamed_added c.args.field c.with_bytes-begun.ensures (c.with_number-numbered.ensures.adds, c.with_number-numbered.ensures.len_bound) c.with_bytes.ensures in
    record { adds = q.0; len_bound = q.1 }
