-- `lean_listing::most_used` meets its contract.
use native.Mathlib.Omega.{arith}
use Rattle.lean_listing.proofs.Counting.{led_start, led_over, led_still, led_end}
use borrow.Author.Rules.{rules}
use Rattle.lean_listing.proofs.most_used.Goals as goal
use Rattle.lean_listing.proofs.most_used.Goals.{then-greatest-count, else-greatest-count}

pub loop-i-init : goal.loop-i-init
loop-i-init c = led_start

pub cards_on-count-requires : goal.cards_on-count-requires
cards_on-count-requires c = (omega arith, omega arith, omega arith)

pub loop-i-preserved : goal.loop-i-preserved
loop-i-preserved c =
    let test = c.loop-i-test.true in
    let is = c.cards_on-count.ensures.by_index _ test in
    elim c.if-greatest-count.branch [
      | then-greatest-count w ↦ rw (w.best-is, w.greatest-is) (led_over c.loop-i.invariant test c.requires.1 is w.if-greatest-count.true)
      | else-greatest-count w ↦ rw (w.best-is, w.greatest-is) (led_still c.loop-i.invariant test c.requires.1 is w.if-greatest-count.false)
    ]

pub returns : goal.returns
returns c =
    let q = led_end c.loop-i.invariant (search rules) in
    record { value = q.0; upper_bound = q.1 }
