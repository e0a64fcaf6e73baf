-- `lean_listing::holds` meets its contract.
use native.Mathlib.Omega.{arith}
use borrow.Author.Tests.{eq-eqb, ne_eqb}
use Rattle.lean_listing.proofs.holds.Goals as goal

pub returns-then-share-eq0 : goal.returns-then-share-eq0
returns-then-share-eq0 c = record { value = rw (eq-eqb _ 0 c.if-share-eq0.true); upper_bound = omega arith }

pub returns : goal.returns
returns c = record { value = rw (ne_eqb _ 0 c.if-share-eq0.false); upper_bound = omega arith }
