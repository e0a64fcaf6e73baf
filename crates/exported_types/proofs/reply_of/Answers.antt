-- `exported_types::reply_of` meets its contract.
use mathlib.Core.Path.{refl, ap}
use Rattle.exported_types.proofs.Replying.{answered}
use mir.Facts.{to_z-of_z}
use Rattle.method.specs.Searched.{searched_by}
use Rattle.exported_types.specs.Replies.{reply_of}
use borrow.Author.Rules.{sfits_of}
use mir.Syntax.{w64}
use Rattle.exported_types.proofs.reply_of.Goals as goal

pub returns-in-Err : goal.returns-in-Err
unfolding reply_of
returns-in-Err c = rw c.in-Err.is refl

pub returns-in-Ok : goal.returns-in-Ok
returns-in-Ok c = answered (ap searched_by c.in-Ok.is) c.verdict_number.ensures (to_z-of_z {w = w64} (sfits_of c.floor_of.type_inv)) c.floor_of.ensures c.shortfall_of.ensures
