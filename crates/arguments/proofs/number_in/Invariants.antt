-- The loop of `number_in` keeps `Reading`: the first i bytes are figures, they say `value`, and `value` and the bytes that are left decide.
use Rattle.arguments.proofs.Numbers.{Reading}
use Rattle.arguments.proofs.number_in.Given as goal

abbrev pub invariant-loop-byte : goal.invariant-loop-byte
invariant-loop-byte l = Reading l.text l.value l.byte-index
