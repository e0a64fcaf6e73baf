-- `pairwise_moves::higher` meets its contract.
use mathlib.Core.Path.{◌≡◌}
use borrow.Author.Rules.{rules}
use mir.Syntax.{w64}
use mir.Val.{to_z, of_z}
use Rattle.pairwise.specs.Moves.{greater}
use Rattle.pairwise_moves.proofs.Leading.{ahead_yes, ahead_no}
use Rattle.pairwise_moves.proofs.higher.Goals as goal

pub returns-then-found-score : goal.returns-then-found-score
returns-then-found-score c =
    let k = c.args in
    let e : to_z w64 (of_z w64 k.score) ≡ k.score = search rules in
    let d : to_z w64 (of_z w64 k.found.score) ≡ k.found.score = search rules in
    ahead_yes greater k.found k.i k.score _ e (rw (d, e) at c.if-found-score.true)

pub returns : goal.returns
returns c =
    let k = c.args in
    let e : to_z w64 (of_z w64 k.score) ≡ k.score = search rules in
    let d : to_z w64 (of_z w64 k.found.score) ≡ k.found.score = search rules in
    ahead_no greater k.found k.i k.score (rw (d, e) at c.if-found-score.false)
