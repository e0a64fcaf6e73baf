-- `card_details::total_line` meets its contract.
use Rattle.card_details.proofs.Lines.{many_told, total_told}
use borrow.Author.Rules.{rules}
use Rattle.card_details.proofs.total_line.Goals as goal

pub returns-then-t-count : goal.returns-then-t-count
returns-then-t-count c = search (rules, many_told)

pub returns : goal.returns
returns c =
    total_told _ _ _ c.steps_used-t.ensures.value c.pair_count-count.ensures.value c.if-t-count.false c.args.shares c.boats.ensures c.requires.shares_value
    c.total-total.ensures c.total-weight.ensures c.counts-2.ensures
