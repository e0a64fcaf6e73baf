-- `derived_files::put_column` meets its contract: the part that is lent is filled.
use mathlib.Core.Path.{◌≡◌}
use Prim.Native.Nat.{◌+◌, ◌-◌}
use native.Mathlib.Omega.{arith}
use borrow.Rule.Slice.PartMut.{Post-is}
use lib.ListN.{length, take, drop, length-drop, length-replicate}
use lib.Seq.{length-take-le}
use Rattle.buffers.specs.Placed.{placed}
use Rattle.derived_files.proofs.put_column.Goals as goal

pub returns-clause-list_after : goal.returns-clause-list_after
unfolding placed
returns-clause-list_after c =
    let at = c.args.at in
    let times = c.args.times in
    let list = c.args.list.now in
    let n : at + times - at ≡ times = omega arith in
    let long : length (take (at + times - at) (drop at list)) ≡ times =
    rw n (length-take-le times (drop at list) (omega (arith, length-drop at list, c.requires.times_in_bounds))) in
    rw (Post-is at (at + times) list (omega arith), c.fill.ensures.after (λ y e. e), long, length-replicate)
