-- `buffers::put_bytes` meets its contract: the bytes that are left are still to be put.
use borrow.Author.Rules.{rules}
use native.Mathlib.Omega.{arith}
use Rattle.buffers.proofs.Writing.{copying_start, copying_more, copying_end}
use Rattle.buffers.proofs.put_bytes.Goals as goal

pub loop-i-init : goal.loop-i-init
loop-i-init c = copying_start

pub loop-i-preserved : goal.loop-i-preserved
loop-i-preserved c = search (rules, copying_more)

pub returns : goal.returns
returns c = search (rules, copying_end)
