-- `wide_products::product` meets its contract.
use borrow.Author.Rules.{rules}
use native.Mathlib.Omega.{arith}
use mathlib.Core.Path.{◌≡◌, ◌∙◌, ap}
use Prim.Native.Nat.{ℕ, ◌+◌, ◌*◌, ◌/◌, ◌%◌, ◌^◌, ◌≤◌, ◌<◌}
use native.Mathlib.Nat.{mul-le-mul, div-add-mod'}
use Rattle.wide_products.specs.Value.{value}
use Rattle.wide_products.proofs.Columns.{by_columns}
use Rattle.wide_products.proofs.product.Goals as goal

-- the largest number of 32 bits, and the base
abbrev N : ℕ
N = 4294967295

abbrev P : ℕ
P = 4294967296

-- the products of the halves of two u64
record Halves (u v : ℕ) : Type 0 where
  ll : u % P * (v % P) ≤ N * N
  hl : u / P * (v % P) ≤ N * N
  lh : u % P * (v / P) ≤ N * N
  hh : u / P * (v / P) ≤ N * N

halves : (u v : ℕ) → u < 2 ^ 64 → v < 2 ^ 64 → Halves u v
halves u v h k =
    let lu : u % P ≤ N = omega arith in
    let lv : v % P ≤ N = omega arith in
    let hu : u / P ≤ N = omega arith in
    let hv : v / P ≤ N = omega arith in
    record { ll = mul-le-mul lu lv; hl = mul-le-mul hu lv; lh = mul-le-mul lu hv; hh = mul-le-mul hu hv }

whole : (u v : ℕ) → (u / P * P + u % P) * (v / P * P + v % P) ≡ u * v
whole u v = ap (λ (x : ℕ). x * (v / P * P + v % P)) (div-add-mod' u P) ∙ ap (λ (y : ℕ). u * y) (div-add-mod' v P)

pub overflow_mul-low : goal.overflow_mul-low
overflow_mul-low c = let h = halves c.args.u c.args.v c.ranges.u.fits c.ranges.v.fits in omega arith

pub overflow_mul-middle : goal.overflow_mul-middle
overflow_mul-middle c = let h = halves c.args.u c.args.v c.ranges.u.fits c.ranges.v.fits in omega arith

pub overflow_add-middle : goal.overflow_add-middle
overflow_add-middle c = let h = halves c.args.u c.args.v c.ranges.u.fits c.ranges.v.fits in omega arith

pub overflow_mul-next : goal.overflow_mul-next
overflow_mul-next c = let h = halves c.args.u c.args.v c.ranges.u.fits c.ranges.v.fits in omega arith

pub overflow_add-next : goal.overflow_add-next
overflow_add-next c = let h = halves c.args.u c.args.v c.ranges.u.fits c.ranges.v.fits in omega arith

pub overflow_mul-high : goal.overflow_mul-high
overflow_mul-high c = let h = halves c.args.u c.args.v c.ranges.u.fits c.ranges.v.fits in omega arith

pub overflow_add-high : goal.overflow_add-high
overflow_add-high c = let h = halves c.args.u c.args.v c.ranges.u.fits c.ranges.v.fits in omega arith

pub overflow_add-result : goal.overflow_add-result
overflow_add-result c = let h = halves c.args.u c.args.v c.ranges.u.fits c.ranges.v.fits in omega arith

pub returns : goal.returns
unfolding value
returns c = by_columns P (c.args.u % P) (c.args.u / P) (c.args.v % P) (c.args.v / P) ∙ whole c.args.u c.args.v
