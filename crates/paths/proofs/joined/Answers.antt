-- `paths::joined` meets its contract.
use native.Mathlib.Omega.{arith}
use borrow.Author.Rules.{rules}
use Rattle.paths.proofs.Paths.{too_long, joined_whole}
use Rattle.paths.proofs.joined.Goals as goal

pub returns-then-first-gt4095 : goal.returns-then-first-gt4095
returns-then-first-gt4095 c =
    let x = c.args in
    too_long x.first.now x.second.now x.third.now (omega arith) c.empty-empty.ensures

pub returns-then-first-second : goal.returns-then-first-second
returns-then-first-second c =
    let x = c.args in
    too_long x.first.now x.second.now x.third.now (omega arith) c.empty-empty.ensures

pub returns-then-first-second-2 : goal.returns-then-first-second-2
returns-then-first-second-2 c =
    let x = c.args in
    too_long x.first.now x.second.now x.third.now (omega arith) c.empty-empty.ensures

pub returns : goal.returns
returns c =
    let x = c.args in
    joined_whole x.first.now x.second.now x.third.now (omega arith) c.empty-empty.ensures c.with_bytes-one.ensures c.with_bytes-two.ensures c.with_bytes.ensures
