-- `queue_rounds::refusal_ahead` meets its contract.
use mathlib.Core.Path.{sym, ◌∙◌}
use Rattle.files.proofs.Refusal.{between_true}
use Rattle.sheet_queue.proofs.Refusals.{by_book, by_count, by_total, by_least, by_most, none_ahead}
use Rattle.refusals.proofs.Numbers.{positive, passed_on}
use Rattle.queue_rounds.proofs.refusal_ahead.Goals as goal

pub returns-in_err-book_refusal : goal.returns-in_err-book_refusal
returns-in_err-book_refusal c =
    passed_on _ _ c.from_residual.ensures (c.in_err-book_refusal.ensures ∙ sym (by_book _ _ _ _ _ (λ e. positive _ (c.in_err-book_refusal.ensures ∙ e))))

pub returns-then-not-is_between : goal.returns-then-not-is_between
returns-then-not-is_between c =
    let h1 = sym c.in_ok-book_refusal.ensures in
    sym (by_count _ _ _ _ _ h1 (sym c.is_between.ensures ∙ c.if-not-is_between.true))

pub total_of-requires : goal.total_of-requires
total_of-requires c = (between_true 1 16 _ (sym c.is_between.ensures ∙ c.if-not-is_between.false)).1

pub returns-then-total_of-sheets : goal.returns-then-total_of-sheets
returns-then-total_of-sheets c =
    let h1 = sym c.in_ok-book_refusal.ensures in
    let h2 = sym c.is_between.ensures ∙ c.if-not-is_between.false in
    sym (by_total _ _ _ _ _ h1 h2 (λ e. c.if-total_of-sheets.true (c.total_of.ensures.value ∙ e)))

pub returns-then-allowance-count : goal.returns-then-allowance-count
returns-then-allowance-count c =
    let h1 = sym c.in_ok-book_refusal.ensures in
    let h2 = sym c.is_between.ensures ∙ c.if-not-is_between.false in
    let h3 = sym c.total_of.ensures.value ∙ c.if-total_of-sheets.false in
    sym (by_least _ _ _ _ _ h1 h2 h3 c.if-allowance-count.true)

pub returns-then-allowance-gt-MOST_STEPS : goal.returns-then-allowance-gt-MOST_STEPS
returns-then-allowance-gt-MOST_STEPS c =
    let h1 = sym c.in_ok-book_refusal.ensures in
    let h2 = sym c.is_between.ensures ∙ c.if-not-is_between.false in
    let h3 = sym c.total_of.ensures.value ∙ c.if-total_of-sheets.false in
    sym (by_most _ _ _ _ _ h1 h2 h3 c.if-allowance-count.false c.if-allowance-gt-MOST_STEPS.true)

pub returns : goal.returns
returns c =
    let h1 = sym c.in_ok-book_refusal.ensures in
    let h2 = sym c.is_between.ensures ∙ c.if-not-is_between.false in
    let h3 = sym c.total_of.ensures.value ∙ c.if-total_of-sheets.false in
    sym (none_ahead _ _ _ _ _ h1 h2 h3 c.if-allowance-count.false c.if-allowance-gt-MOST_STEPS.false)
