-- `message_parts::with_shown` meets its contract. The loop keeps `Copying`: the first i bytes of the name are written as they are shown.
-- A turn writes one byte more.
use borrow.Author.Rules.{rules}
use Rattle.buffers.proofs.Writing.{copying_start}
use Rattle.message_parts.proofs.Parts.{shown_more, shown_end}
use Rattle.message_parts.proofs.with_shown.Goals as goal

pub loop-i-init : goal.loop-i-init
loop-i-init c = copying_start

pub loop-i-preserved : goal.loop-i-preserved
loop-i-preserved c = search (rules, shown_more)

pub returns : goal.returns
returns c = search (rules, shown_end)
