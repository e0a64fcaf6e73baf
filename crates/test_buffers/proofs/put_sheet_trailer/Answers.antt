-- `test_buffers::put_sheet_trailer` meets its contract.
use Rattle.files.specs.Bytes.{number_bytes}
use Rattle.test_buffers.proofs.Putting.{puts_then}
use Rattle.test_buffers.proofs.put_sheet_trailer.Goals as goal

pub returns : goal.returns
unfolding number_bytes
returns c = puts_then c.put_number-a.ensures (puts_then c.put_number-b.ensures (puts_then c.put_number-c.ensures (puts_then c.put_number-d.ensures c.put_number.ensures)))
