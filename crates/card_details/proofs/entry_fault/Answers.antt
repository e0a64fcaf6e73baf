-- `card_details::entry_fault` meets its contract.
use Rattle.card_details.proofs.Lines.{fault_order, fault_book, fault_share, fault_none}
use borrow.Author.Rules.{rules}
use Rattle.card_details.proofs.entry_fault.Goals as goal

pub returns-then-boat-next : goal.returns-then-boat-next
returns-then-boat-next c = search (rules, fault_order)

pub returns-then-boats-boat : goal.returns-then-boats-boat
returns-then-boats-boat c = search (rules, fault_book)

pub returns-then-share-eq0 : goal.returns-then-share-eq0
returns-then-share-eq0 c = search (rules, fault_share)

pub returns : goal.returns
returns c = search (rules, fault_none)
