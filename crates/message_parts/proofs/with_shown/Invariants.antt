-- `message_parts::with_shown` meets its contract. The loop keeps `Copying`: the first i bytes of the name are written as they are shown.
-- A turn writes one byte more.
use mathlib.Core.List.{map}
use Rattle.buffers.proofs.Writing.{Copying}
use Rattle.message_parts.specs.Parts.{shown}
use Rattle.message_parts.proofs.with_shown.Given as goal

abbrev pub invariant-loop-i : goal.invariant-loop-i
invariant-loop-i l = Copying l.initial.bytes l.start (map shown l.name) l.i l.bytes
