-- `lean_folder::check_pairs` meets its contract. The loop keeps `Going`: k pairs were read and checked and none was refused; the slots have the length they came with.
-- A turn checks pair k; a refusal ends the function.
-- It ends: the pairs that are left fall by one.
use mathlib.Core.Path.{refl, sym, ap, ◌∙◌, subst}
use borrow.Author.Rules.{rules}
use Rattle.refusals.specs.Numbers.{refusal_number}
use Rattle.refusals.proofs.Numbers.{positive}
use Rattle.lean_folder.specs.Folder.{SomePair}
use Rattle.lean_folder.proofs.Folding.{going_start, start_refused, going_more, going_refused, going_end}
use Rattle.lean_folder.proofs.check_pairs.Goals as goal

pub returns-in-Err : goal.returns-in-Err
returns-in-Err c =
    let e = ap refusal_number c.in-Err.is in
    start_refused (rw e at c.lean_start.ensures.value, rw e at c.lean_start.ensures.starts) (positive _) c.requires

pub loop-k-init : goal.loop-k-init
loop-k-init c =
    let e = ap refusal_number c.in_default.is in
    (going_start (rw e at c.lean_start.ensures.value, rw e at c.lean_start.ensures.starts) refl c.requires, refl)

pub returns-in-Err-check_pair : goal.returns-in-Err-check_pair
returns-in-Err-check_pair c =
    let e = ap refusal_number c.in-Err-check_pair.is in
    going_refused c.loop-k.invariant.0 c.loop-k-test.true (rw e at c.check_pair.ensures) (positive _)

pub loop-k-preserved : goal.loop-k-preserved
loop-k-preserved c =
    let e = ap refusal_number c.in_default-check_pair.is in
    (going_more c.loop-k.invariant.0 c.loop-k-test.true (rw e at c.check_pair.ensures) refl, search rules)

pub returns : goal.returns
returns c = going_end c.loop-k.invariant.0 c.loop-k-test.false
