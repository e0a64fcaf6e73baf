-- `test_samples::put_next_row` meets its contract.
use mathlib.Core.Path.{◌≡◌, refl}
use mathlib.Core.Bool.{false}
use borrow.Author.Tests.{eq-eqb, ne_eqb}
use Rattle.test_samples.specs.Rows.{repeats}
use Rattle.test_samples.proofs.put_next_row.Goals as goal
use Rattle.test_samples.proofs.put_next_row.Goals.{then-kind-eq0+else-i-ne0, else-kind-eq0}

pub returns-then-i-ne0 : goal.returns-then-i-ne0
returns-then-i-ne0 c = rw (eq-eqb _ _ c.if-kind-eq0.true, ne_eqb _ _ c.if-i-ne0.true) record { puts = c.put_again.ensures; seed_after = refl }

pub returns : goal.returns
returns c =
    let x = c.args in
    let e : repeats x.i x.kind ≡ false = elim c.if-kind-eq0.branch [ then-kind-eq0+else-i-ne0 p ↦ rw (eq-eqb _ _ p.if-kind-eq0.true, eq-eqb _ _ p.if-i-ne0.false) | else-kind-eq0 p ↦ rw (ne_eqb _ _ p.if-kind-eq0.false) ] in
    rw e record { puts = c.put_row.ensures.puts; seed_after = c.put_row.ensures.seed_after }
