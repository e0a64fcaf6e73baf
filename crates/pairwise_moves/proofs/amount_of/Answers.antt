-- `pairwise_moves::amount_of` meets its contract.
use native.Mathlib.Omega.{arith}
use Rattle.pairwise_moves.proofs.Numbers.{amount_none, amount_nearest, amount_held}
use Rattle.pairwise_moves.proofs.amount_of.Goals as goal

pub returns-then-slope-eq0 : goal.returns-then-slope-eq0
returns-then-slope-eq0 c = amount_none _ _ _ c.if-slope-eq0.true

pub nonzero_div-nearest : goal.nonzero_div-nearest
nonzero_div-nearest c = omega (arith, c.requires.some_apart (omega (arith, c.if-slope-eq0.false)))

pub returns-then-nearest-held : goal.returns-then-nearest-held
returns-then-nearest-held c = amount_nearest _ _ _ c.if-slope-eq0.false c.if-nearest-held.true

pub returns : goal.returns
returns c = amount_held _ _ _ c.if-slope-eq0.false c.if-nearest-held.false
