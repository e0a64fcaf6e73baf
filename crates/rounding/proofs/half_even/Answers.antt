-- `rounding::half_even` meets its contract: a law of `Nearest` for each of its answers.
use borrow.Author.Rules.{rules}
use native.Mathlib.Nat.{mod-lt, div-le_self}
use native.Mathlib.Omega.{arith}
use Rattle.rounding.proofs.Nearest.{below_half, above_half, at_half}
use Rattle.rounding.proofs.half_even.Goals as goal

pub overflow_sub-short : goal.overflow_sub-short
overflow_sub-short c = omega (arith, mod-lt c.args.n c.requires.0)

pub returns-then-rest-short : goal.returns-then-rest-short
returns-then-rest-short c =
    let n = c.args.n in
    let d = c.args.d in
    (below_half n d (omega (arith, mod-lt n c.requires.0)), omega (arith, div-le_self n d))

pub overflow_add-result : goal.overflow_add-result
overflow_add-result c = omega (arith, div-le_self c.args.n c.args.d)

pub returns-then-short-rest : goal.returns-then-short-rest
returns-then-short-rest c =
    let n = c.args.n in
    let d = c.args.d in
    (above_half n d (omega (arith, mod-lt n c.requires.0)), omega (arith, div-le_self n d))

pub overflow_add-result-2 : goal.overflow_add-result-2
overflow_add-result-2 c = omega (arith, div-le_self c.args.n c.args.d)

pub returns : goal.returns
returns c =
    let n = c.args.n in
    let d = c.args.d in
    (at_half n d (omega (arith, mod-lt n c.requires.0)), omega (arith, div-le_self n d))
