-- `listing::with_verdict` meets its contract.
use mathlib.Core.Path.{ap}
use native.Mathlib.Omega.{arith}
use Rattle.listing.specs.Lines.{verdict_word}
use Rattle.listing.proofs.Listings.{verdict_added}
use borrow.Author.Rules.{rules}
use Rattle.listing.proofs.with_verdict.Goals as goal

pub returns-in-Within : goal.returns-in-Within
unfolding verdict_word
returns-in-Within c =
    let q = verdict_added c.args.v c.args.steps c.args.weight (ap verdict_word c.in-Within.is) (omega arith) (c.with_pair.ensures.adds, c.with_pair.ensures.len_bound) in
    record { adds = q.0; len_bound = q.1 }

pub returns-in-Beyond : goal.returns-in-Beyond
unfolding verdict_word
returns-in-Beyond c =
    let q = verdict_added c.args.v c.args.steps c.args.weight (ap verdict_word c.in-Beyond.is) (omega arith) (c.with_pair-in-Beyond.ensures.adds, c.with_pair-in-Beyond.ensures.len_bound) in
    record { adds = q.0; len_bound = q.1 }

pub returns-in-Spent : goal.returns-in-Spent
unfolding verdict_word
returns-in-Spent c =
    let q = verdict_added c.args.v c.args.steps c.args.weight (ap verdict_word c.in-Spent.is) (omega arith) (c.with_pair-in-Spent.ensures.adds, c.with_pair-in-Spent.ensures.len_bound) in
    record { adds = q.0; len_bound = q.1 }
