-- `released_card::rests` meets its contract. The loop keeps `Resting`: the boats from i on decide as all do, since each boat before i may be used or holds none.
-- A turn tests boat i; where it fails the answer is no.
-- It ends: the boats that are left fall by one.
use mathlib.Core.Path.{◌≡◌, ap, ◌∙◌}
use mathlib.Core.Bool.{◌||◌}
use lib.Dec.{eqb}
use lib.ListN.{length, get_or}
use borrow.Author.Tests.{not-true, not-false}
use borrow.Author.Rules.{rules}
use Rattle.released_card.proofs.Resting.{unlimited_rests, resting_start, resting_more, resting_fails, resting_end}
use mathlib.Core.Bool.{not}
use Rattle.released_card.proofs.rests.Goals as goal

pub returns-then-not-released : goal.returns-then-not-released
returns-then-not-released c = unlimited_rests c.args.released _ (not-true _ c.if-not-released.true)

pub loop-i-init : goal.loop-i-init
loop-i-init c =
    let l : length c.args.shares ≡ 256 = search rules in
    (search rules, resting_start c.args.released c.args.shares c.args.boats c.requires l)

pub returns-then-not-may_stand : goal.returns-then-not-may_stand
returns-then-not-may_stand c =
    let l : length c.args.shares ≡ 256 = search rules in
    resting_fails c.args.released c.args.shares c.args.boats c.requires l c.loop-i.invariant.1 c.loop-i-test.true
    (c.may_stand.ensures ∙ ap (λ t. t || eqb (get_or c.args.shares c.loop-i.i 0) 0) c.may_use.ensures) (not-false _ c.if-not-released.false) (ap not c.if-not-may_stand.true)

pub loop-i-preserved : goal.loop-i-preserved
loop-i-preserved c =
    let l : length c.args.shares ≡ 256 = search rules in (
      search rules,
      resting_more c.args.released c.args.shares c.args.boats c.requires l c.loop-i.invariant.1 c.loop-i-test.true
          (c.may_stand.ensures ∙ ap (λ t. t || eqb (get_or c.args.shares c.loop-i.i 0) 0) c.may_use.ensures) (ap not c.if-not-may_stand.false),
    )

pub returns : goal.returns
returns c =
    let l : length c.args.shares ≡ 256 = search rules in
    resting_end c.args.released c.args.shares c.args.boats c.requires l c.loop-i.invariant.1 (not-false _ c.if-not-released.false) c.loop-i-test.false
