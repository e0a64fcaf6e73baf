-- `test_buffers::put` meets its contract.
use mathlib.Core.Path.{sym}
use native.Mathlib.Omega.{arith}
use borrow.Author.Rules.{rules}
use lib.Seq.{set_out}
use Rattle.test_buffers.specs.Buffers.{after}
use Rattle.test_buffers.proofs.put.Goals as goal

pub returns-then-at-buffer : goal.returns-then-at-buffer
unfolding after
returns-then-at-buffer c = record { bytes_are = search rules; reached = omega arith }

pub returns : goal.returns
unfolding after
returns c = record { bytes_are = sym (set_out _ _ _ c.if-at-buffer.false); reached = omega arith }
