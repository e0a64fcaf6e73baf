-- `csv_book_words::with_many` meets its contract.
use Rattle.csv_book_words.proofs.Wording.{many_added}
use Rattle.csv_book_words.proofs.with_many.Goals as goal

pub returns : goal.returns
returns c =
    let q = many_added c.args.columns c.with_bytes-begun.ensures (c.with_number-numbered.ensures.adds, c.with_number-numbered.ensures.len_bound) c.with_bytes.ensures in
    record { adds = q.0; len_bound = q.1 }
