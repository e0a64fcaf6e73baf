-- `queue_rounds::run_plan` meets its contract.
use mathlib.Core.Path.{◌≡◌, refl}
use borrow.Author.Rules.{rules}
use lib.ListN.{length}
use Rattle.std.proofs.lemmas.Result.{err_from_is_err_and}
use Rattle.refusals.proofs.Numbers.{positive}
use Rattle.queue_rounds.proofs.Ends.{ran_refused, plan_accepted, plan_asks, ran_served}
use Rattle.queue_rounds.proofs.run_plan.Goals as goal

pub returns-in_err-judge : goal.returns-in_err-judge
returns-in_err-judge c =
    let long : length c.args.plan.lengths ≡ 16 = search rules in
    let p = err_from_is_err_and c.from_residual.result c.from_residual.ensures.1 in
    rw (p.1, p.2) (ran_refused _ _ _ _ _ long _ c.in_err-judge.ensures.refusal_value c.in_err-judge.ensures.accepted_value (positive _))

pub serve_all-records-requires : goal.serve_all-records-requires
serve_all-records-requires c =
    let long : length c.args.plan.lengths ≡ 16 = search rules in
    let number = c.in_ok-judge.ensures.refusal_value in
    record { accepted = plan_accepted _ _ _ _ c.args.shares.now long number refl; count_le_allowance = plan_asks _ _ _ _ c.args.shares.now long number refl }

pub shape_of-shares : goal.shape_of-shares
shape_of-shares c = c.serve_all-records.ensures.same_rest.long

pub returns : goal.returns
returns c =
    let long : length c.args.plan.lengths ≡ 16 = search rules in
    ran_served _ _ _ _ _ long c.in_ok-judge.ensures.refusal_value refl c.serve_all-records.ensures.served_all c.serve_all-records.ensures.same_rest c.in_ok-judge.ensures.accepted_value
