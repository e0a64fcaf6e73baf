-- `csv_book_words::with_place` meets its contract.
use Rattle.csv_book_words.proofs.Wording.{place_none, place_some}
use Rattle.csv_book_words.proofs.with_place.Goals as goal

pub returns-then-line-eq0 : goal.returns-then-line-eq0
returns-then-line-eq0 c =
    let q = place_none _ c.if-line-eq0.true c.requires in
    record { adds = q.0; len_bound = q.1 }

pub returns : goal.returns
returns c =
    let q = place_some _ c.if-line-eq0.false c.with_bytes-begun.ensures (c.with_number.ensures.adds, c.with_number.ensures.len_bound) in
    record { adds = q.0; len_bound = q.1 }
