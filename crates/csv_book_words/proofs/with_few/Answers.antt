-- `csv_book_words::with_few` meets its contract.
use Rattle.csv_book_words.proofs.Wording.{few_added}
use Rattle.csv_book_words.proofs.with_few.Goals as goal

pub returns : goal.returns
returns c =
    let x = c.args in
    let q = few_added x.field x.columns (c.with_number-first.ensures.adds, c.with_number-first.ensures.len_bound) c.with_bytes-between.ensures (c.with_number-second.ensures.adds, c.with_number-second.ensures.len_bound) c.with_bytes.ensures in
    record { adds = q.0; len_bound = q.1 }
