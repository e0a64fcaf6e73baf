-- `schedules::entry_fits` meets its contract.
use mathlib.Core.Path.{refl}
use Prim.Native.Nat.{◌≤◌}
use native.Mathlib.Nat.{mul-le-mul}
use native.Mathlib.Omega.{arith}
use borrow.Author.Tests.{lt-ltb}
use Rattle.schedules.proofs.entry_fits.Goals as goal

pub returns-then-entry-eq0 : goal.returns-then-entry-eq0
returns-then-entry-eq0 c = rw c.if-entry-eq0.true refl

pub overflow_mul-result : goal.overflow_mul-result
overflow_mul-result c = let h : c.args.entry ≤ 65535 = omega (arith, c.requires.0) in omega (arith, mul-le-mul h h)

pub returns : goal.returns
returns c = rw (lt-ltb 0 c.args.entry (omega (arith, c.if-entry-eq0.false))) refl
