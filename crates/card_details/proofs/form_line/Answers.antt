-- `card_details::form_line` meets its contract.
use native.Mathlib.Omega.{arith}
use Rattle.card_details.proofs.Refused.{book_size, sheet_size, card_size, entries_room, entries_start}
use Rattle.card_details.proofs.Lines.{form_31, form_32, form_33, form_34, form_35, form_36}
use Rattle.card_details.proofs.form_line.Goals as goal

pub returns-in-31 : goal.returns-in-31
returns-in-31 c = form_31 _ _ _ _ c.in-31.is c.size_line.ensures

pub returns-in-32 : goal.returns-in-32
returns-in-32 c = form_32 _ _ _ _ c.in-32.is c.said.ensures

pub counts_line-requires : goal.counts_line-requires
counts_line-requires c = ((book_size _ _ _ c.requires.card_value (omega arith) (omega arith)).0, card_size _ _ _ c.requires.card_value (omega arith) (omega arith))

pub returns-in-33 : goal.returns-in-33
returns-in-33 c = form_33 _ _ _ _ c.in-33.is c.counts_line.ensures

pub steps_line-requires : goal.steps_line-requires
steps_line-requires c = (sheet_size _ _ _ c.requires.card_value (omega arith) (omega arith), card_size _ _ _ c.requires.card_value (omega arith) (omega arith))

pub returns-in-34 : goal.returns-in-34
returns-in-34 c = form_34 _ _ _ _ c.in-34.is c.steps_line.ensures

pub back_line-requires : goal.back_line-requires
back_line-requires c =
    let book = book_size _ _ _ c.requires.card_value (omega arith) (omega arith) in
    (book.0, book.1, card_size _ _ _ c.requires.card_value (omega arith) (omega arith))

pub returns-in-35 : goal.returns-in-35
returns-in-35 c = form_35 _ _ _ _ c.in-35.is c.back_line.ensures

pub pair_count-count-requires : goal.pair_count-count-requires
pair_count-count-requires c = card_size _ _ _ c.requires.card_value (omega arith) (omega arith)

pub overflow_sub-card : goal.overflow_sub-card
overflow_sub-card c = card_size _ _ _ c.requires.card_value (omega arith) (omega arith)

pub overflow_sub-card-in_default : goal.overflow_sub-card-in_default
overflow_sub-card-in_default c = entries_room _ _ _ c.requires.card_value c.pair_count-count.ensures.value (omega arith) (omega arith)

pub boats-requires : goal.boats-requires
boats-requires c = (book_size _ _ _ c.requires.card_value (omega arith) (omega arith)).0

pub entries_line-requires : goal.entries_line-requires
entries_line-requires c = omega (arith, entries_room _ _ _ c.requires.card_value c.pair_count-count.ensures.value (omega arith) (omega arith), card_size _ _ _ c.requires.card_value (omega arith) (omega arith))

pub returns-in_default : goal.returns-in_default
returns-in_default c =
    let count = c.pair_count-count.ensures.value in
    form_36 _ _ _ _ (omega arith) count c.boats.ensures (entries_start _ _ _ c.requires.card_value count (omega arith) (omega arith)) c.entries_line.ensures
