-- `csv_slots::cell` meets its contract: the part is as long as the size.
use native.Mathlib.Omega.{arith}
use mathlib.Core.Path.{◌≡◌, ap}
use mathlib.Core.List.{List}
use Prim.Native.Nat.{ℕ, ◌+◌, ◌-◌, ◌*◌}
use lib.ListN.{get_or, take, drop}
use Rattle.csv_slots.proofs.cell.Goals as goal

back : (a n : ℕ) (l : List ℕ) → take (a + n - a) l ≡ take n l
back a n l = ap (λ (k : ℕ). take k l) {x = a + n - a} {y = n} (omega arith)

pub returns : goal.returns
returns c =
    let a = c.args in
    back (200 * a.number) (get_or a.sizes.now a.number 0) (drop (200 * a.number) a.cells.now)
