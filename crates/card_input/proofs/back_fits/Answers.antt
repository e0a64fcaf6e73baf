-- `card_input::back_fits` meets its contract.
use Rattle.card_input.proofs.Reading.{back_zero, back_uneven, back_many, back_last}
use borrow.Author.Rules.{rules}
use Rattle.card_input.proofs.back_fits.Goals as goal

pub returns-then-back-eq0 : goal.returns-then-back-eq0
returns-then-back-eq0 c = search (rules, back_zero)

pub returns-then-back-ne0 : goal.returns-then-back-ne0
returns-then-back-ne0 c = search (rules, back_uneven)

pub returns-then-boats-back : goal.returns-then-boats-back
returns-then-boats-back c = search (rules, back_many)

pub returns : goal.returns
returns c = search (rules, back_last)
