-- `test_samples::put_book` meets its contract.
use Rattle.test_buffers.proofs.Putting.{puts_then}
use Rattle.test_samples.proofs.put_book.Goals as goal

pub returns : goal.returns
returns c =
    let rows_puts = rw (c.put_front-rows.ensures.puts.bytes_are, c.put_front-rows.ensures.puts.reached, c.put_front-rows.ensures.seed_after) at c.put_rows-at.ensures.puts in
    let rows_after = rw c.put_front-rows.ensures.seed_after at c.put_rows-at.ensures.seed_after in
    record {
      puts = puts_then (rw (c.put_front-rows.ensures.puts.bytes_are, c.put_front-rows.ensures.puts.reached) at c.put_front-rows.ensures.puts) (puts_then rows_puts (rw c.times-back.ensures.value at c.put_book_trailer-end.ensures));
      rows_value = c.put_front-rows.ensures.puts.reached;
      seed_after = rows_after;
    }
