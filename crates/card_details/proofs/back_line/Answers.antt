-- `card_details::back_line` meets its contract.
use Rattle.card_details.proofs.Lines.{fours_told, room_told}
use borrow.Author.Rules.{rules}
use Rattle.card_details.proofs.back_line.Goals as goal

pub returns-then-back-room : goal.returns-then-back-room
returns-then-back-room c = search (rules, fours_told)

pub returns : goal.returns
returns c = search (rules, room_told)
