-- `buffers::put` meets its contract; `Inv-loop` is what its loop keeps.
use borrow.Author.Rules.{rules}
use Rattle.buffers.proofs.Writing.{put_start, put_more, put_end}
use Rattle.buffers.proofs.put.Goals as goal

pub loop-i-init : goal.loop-i-init
loop-i-init c = put_start

pub loop-i-preserved : goal.loop-i-preserved
loop-i-preserved c = search (rules, put_more)

pub returns : goal.returns
returns c = search (rules, put_end)
