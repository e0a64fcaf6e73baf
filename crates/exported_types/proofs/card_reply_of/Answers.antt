-- `exported_types::card_reply_of` meets its contract.
use Rattle.exported_types.proofs.Replying.{write_refused, filed}
use mathlib.Core.Path.{ap}
use Rattle.card_format.specs.Written.{written_by}
use Rattle.exported_types.proofs.card_reply_of.Goals as goal

pub returns-in-Err : goal.returns-in-Err
returns-in-Err c = write_refused (ap written_by c.in-Err.is) c.reply_of-reply.ensures

pub returns-in-Ok : goal.returns-in-Ok
returns-in-Ok c = filed (ap written_by c.in-Ok.is) c.reply_of-reply-in-Ok.ensures
