-- `test_samples::put_sheet` meets its contract.
use Rattle.test_buffers.proofs.Putting.{puts_then}
use Rattle.test_samples.proofs.put_sheet.Goals as goal

pub returns : goal.returns
returns c =
    let target_puts = rw c.put_front-at.ensures.seed_after at c.put_target-end.ensures.puts in
    let target_after = rw c.put_front-at.ensures.seed_after at c.put_target-end.ensures.seed_after in
    record { puts = puts_then c.put_front-at.ensures.puts (puts_then target_puts c.put_sheet_trailer.ensures); seed_after = target_after }
