-- `card_details::truth_line` meets its contract.
use native.Mathlib.Omega.{arith}
use Rattle.card_details.proofs.Refused.{accepted, book_size, sheet_size, card_size, entries_room, entries_asked, shares_are, readable, few_steps, totalled}
use Rattle.card_details.proofs.Lines.{truth_37, truth_38, truth_39}
use Rattle.card_details.proofs.truth_line.Goals as goal

pub tolerance_line-requires : goal.tolerance_line-requires
tolerance_line-requires c = (sheet_size _ _ _ c.requires.card_value (omega arith) (omega arith), card_size _ _ _ c.requires.card_value (omega arith) (omega arith))

pub returns-then-refusal-eq39 : goal.returns-then-refusal-eq39
returns-then-refusal-eq39 c = truth_39 _ _ _ _ c.if-refusal-eq39.true c.tolerance_line.ensures

pub pair_count-count-requires : goal.pair_count-count-requires
pair_count-count-requires c = card_size _ _ _ c.requires.card_value (omega arith) (omega arith)

pub overflow_sub-card : goal.overflow_sub-card
overflow_sub-card c = card_size _ _ _ c.requires.card_value (omega arith) (omega arith)

pub overflow_sub-card-2 : goal.overflow_sub-card-2
overflow_sub-card-2 c = entries_room _ _ _ c.requires.card_value c.pair_count-count.ensures.value (omega arith) (omega arith)

pub shares_of-shares-requires : goal.shares_of-shares-requires
shares_of-shares-requires c =
    let q = entries_asked _ _ _ c.requires.card_value c.pair_count-count.ensures.value (omega arith) (omega arith) in
    record { count_in_bounds = q.0; card_value = q.1 }

pub total_line-requires : goal.total_line-requires
total_line-requires c =
    let count = c.pair_count-count.ensures.value in
    record { in_bounds = book_size _ _ _ c.requires.card_value (omega arith) (omega arith); fact = (card_size _ _ _ c.requires.card_value (omega arith) (omega arith), few_steps _ _ _ c.requires.card_value count (omega arith) (omega arith)); shares_value = shares_are _ _ _ c.requires.card_value count (omega arith) (omega arith) c.shares_of-shares.ensures }

pub returns-then-refusal-eq37 : goal.returns-then-refusal-eq37
returns-then-refusal-eq37 c = truth_37 _ _ _ _ c.if-refusal-eq37.true c.total_line.ensures

pub numbers_line-requires : goal.numbers_line-requires
numbers_line-requires c =
    let count = c.pair_count-count.ensures.value in
    record { sheet_value = accepted _ _ _ c.requires.card_value (omega arith) (omega arith); card_readable = readable _ _ _ c.requires.card_value count (omega arith) (omega arith); shares_value = shares_are _ _ _ c.requires.card_value count (omega arith) (omega arith) c.shares_of-shares.ensures; card_value = totalled _ _ _ c.requires.card_value (omega arith) }

pub returns : goal.returns
returns c = truth_38 _ _ _ _ (omega arith) c.numbers_line.ensures
