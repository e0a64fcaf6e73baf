-- `card_details::named` meets its contract.
use Rattle.card_details.proofs.Lines.{named_whole, named_cut}
use mathlib.Core.Path.{sym}
use native.Mathlib.Omega.{arith}
use Prim.Native.Nat.{◌≤◌}
use lib.ListN.{length}
use lib.Seq.{length-take-le}
use borrow.Author.Rules.{rules}
use Rattle.card_details.proofs.named.Goals as goal

pub returns-then-name-le100 : goal.returns-then-name-le100
returns-then-name-le100 c =
    let q = named_whole _ c.if-name-le100.true c.empty.ensures c.with_bytes.ensures in
    record { holds = q.0; len_bound = q.1 }

pub slice_bounds-with_bytes-end : goal.slice_bounds-with_bytes-end
slice_bounds-with_bytes-end c =
    let long : 100 ≤ length c.args.name.now = omega (arith, c.if-name-le100.false) in
    sym (length-take-le 100 c.args.name.now long)

pub with_bytes-requires-2 : goal.with_bytes-requires-2
with_bytes-requires-2 c =
    let long : 100 ≤ length c.args.name.now = omega (arith, c.if-name-le100.false) in
    rw (length-take-le 100 c.args.name.now long) (search rules)

pub returns : goal.returns
returns c =
    let q = named_cut c.args.name.now c.if-name-le100.false c.empty-2.ensures c.with_bytes-2.ensures in
    record { holds = q.0; len_bound = q.1 }
