-- `test_buffers::byte_at` meets its contract.
use mathlib.Core.Path.{sym}
use lib.ListN.{get_or-eq_default}
use Rattle.test_buffers.proofs.byte_at.Goals as goal

pub returns-else-at-buffer : goal.returns-else-at-buffer
returns-else-at-buffer c = sym (get_or-eq_default c.args.buffer.now 0 c.if-at-buffer.false)
