-- `card_pairs::pair_fits` meets its contract.
use borrow.Author.Rules.{rules}
use Rattle.card_pairs.proofs.Pairs.{pair_low, pair_high, pair_last}
use Rattle.card_pairs.proofs.pair_fits.Goals as goal

pub returns-then-boat-next : goal.returns-then-boat-next
returns-then-boat-next c = search (rules, pair_low)

pub returns-then-boats-boat : goal.returns-then-boats-boat
returns-then-boats-boat c = search (rules, pair_high)

pub returns : goal.returns
returns c = search (rules, pair_last)
