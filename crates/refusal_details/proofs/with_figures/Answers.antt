-- `refusal_details::with_figures` meets its contract.
use Rattle.refusal_details.proofs.Lines.{figures_above, figures_below}
use borrow.Author.Rules.{rules}
use Rattle.refusal_details.proofs.with_figures.Goals as goal

pub returns-then-v-lt32768 : goal.returns-then-v-lt32768
returns-then-v-lt32768 c =
    let q = figures_above _ c.if-v-lt32768.true (c.with_number.ensures.adds, c.with_number.ensures.len_bound) in
    record { adds = q.0; len_bound_2 = q.1 }

pub returns : goal.returns
returns c =
    let q = figures_below _ c.if-v-lt32768.false (search rules) c.with_bytes-below.ensures (c.with_number-2.ensures.adds, c.with_number-2.ensures.len_bound) in
    record { adds = q.0; len_bound_2 = q.1 }
