-- `pairwise_moves::lower` meets its contract.
use mathlib.Core.Path.{◌≡◌}
use borrow.Author.Rules.{rules}
use mir.Syntax.{w64}
use mir.Val.{to_z, of_z}
use Rattle.pairwise.specs.Moves.{less}
use Rattle.pairwise_moves.proofs.Leading.{ahead_yes, ahead_no}
use Rattle.pairwise_moves.proofs.lower.Goals as goal

pub returns-then-score-found : goal.returns-then-score-found
returns-then-score-found c =
    let k = c.args in
    let e : to_z w64 (of_z w64 k.score) ≡ k.score = search rules in
    let d : to_z w64 (of_z w64 k.found.score) ≡ k.found.score = search rules in
    ahead_yes less k.found k.i k.score _ e (rw (d, e) at c.if-score-found.true)

pub returns : goal.returns
returns c =
    let k = c.args in
    let e : to_z w64 (of_z w64 k.score) ≡ k.score = search rules in
    let d : to_z w64 (of_z w64 k.found.score) ≡ k.found.score = search rules in
    ahead_no less k.found k.i k.score (rw (d, e) at c.if-score-found.false)
