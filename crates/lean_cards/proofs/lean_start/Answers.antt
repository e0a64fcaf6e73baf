-- `lean_cards::lean_start` meets its contract.
use Rattle.lean_cards.proofs.Starting.{by_book, by_few, by_many, by_none}
use mathlib.Core.Path.{refl}
use Rattle.refusals.proofs.Numbers.{positive, passed_on}
use Rattle.lean_cards.proofs.lean_start.Goals as goal

pub returns-in_err-book_refusal : goal.returns-in_err-book_refusal
returns-in_err-book_refusal c =
    let q = by_book c.in_err-book_refusal.ensures (positive _) (passed_on _ _ c.from_residual.ensures refl) in
    record { value = q.0; starts = q.1 }

pub returns-then-cards-lt1 : goal.returns-then-cards-lt1
returns-then-cards-lt1 c =
    let q = by_few c.in_ok-book_refusal.ensures refl c.if-cards-lt1.true in
    record { value = q.0; starts = q.1 }

pub returns-then-cards-gt-MOST_CARDS : goal.returns-then-cards-gt-MOST_CARDS
returns-then-cards-gt-MOST_CARDS c =
    let q = by_many c.in_ok-book_refusal.ensures refl c.if-cards-lt1.false c.if-cards-gt-MOST_CARDS.true in
    record { value = q.0; starts = q.1 }

pub returns : goal.returns
returns c =
    let q = by_none c.in_ok-book_refusal.ensures refl c.if-cards-lt1.false c.if-cards-gt-MOST_CARDS.false in
    record { value = q.0; starts = q.1 }
