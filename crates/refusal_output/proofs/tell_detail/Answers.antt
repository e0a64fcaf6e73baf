-- `refusal_output::tell_detail` meets its contract.
use borrow.Author.Rules.{rules}
use Rattle.refusal_output.proofs.tell_detail.Goals as goal

pub known_detail-requires : goal.known_detail-requires
known_detail-requires c = c.requires c.if-refusal-le17.true
