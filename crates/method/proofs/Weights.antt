-- The weight W of t steps: its laws, and that it is the total of the shares.
use mathlib.Core.Path.{◌≡◌, refl, ap, ◌∙◌}
use mathlib.Core.List.{List, [], ◌∷◌}
use Prim.Native.Nat.{ℕ, zero, suc, ◌+◌, ◌*◌, ◌≤◌, ◌<◌}
use native.Mathlib.Nat.{mul-le-mul, lt_of_le_of_lt}
use native.Mathlib.Omega.{arith}
use lib.Dec.{lit<}
use lib.ListN.{get_or, take}
use Rattle.frank_wolfe.specs.Method.{total}
use Rattle.frank_wolfe.specs.Vectors.{sum}
use Rattle.method.specs.Problem.{Schedule, fixed, lent, share, weight}
use Rattle.files.specs.Limits.{step_limit, total_limit, sum_limit}

-- ---- Any schedule

pub take_more : (table : List ℕ) (t : ℕ) → sum (take (suc t) table) ≡ sum (take t table) + get_or table t 0
unfolding sum
take_more [] zero = refl
take_more [] (suc t) = refl
take_more (a ∷ table) zero = omega arith
take_more (a ∷ table) (suc t) = omega (arith, take_more table t)

pub weight_suc : (a : Schedule) (t : ℕ) → weight a (suc t) ≡ weight a t + share a t
unfolding weight share
weight_suc fixed t = omega arith
weight_suc (lent table) t = take_more table t

pub weight_zero : (a : Schedule) → weight a 0 ≡ 0
unfolding weight sum
weight_zero fixed = refl
weight_zero (lent table) = refl

pub weight_total : (a : Schedule) (t : ℕ) → weight a t ≡ total (share a) t
unfolding total
weight_total a zero = weight_zero a
weight_total a (suc t) = weight_suc a t ∙ ap (λ w. w + share a t) (weight_total a t)

-- what the theorem asks of the shares: the first is above 0, and no square is above twice the total that includes it
pub record ScheduleFits (a : Schedule) : Type 0 where
  pub some_share : 1 ≤ share a 0
  pub squares : (k : ℕ) → share a k * share a k ≤ 2 * weight a (suc k)

pub weight_positive : {a : Schedule} → ScheduleFits a → {t : ℕ} → 1 ≤ t → 1 ≤ weight a t
weight_positive f {t = zero} h = absurd (omega arith)
weight_positive {a} f {t = suc zero} h = rw (weight_suc a 0, weight_zero a) (omega (arith, f.some_share))
weight_positive {a} f {t = suc (suc t)} h = omega (arith, weight_suc a (suc t), weight_positive {a = a} f {t = suc t} (omega arith))

-- ---- The fixed shares 1, 2, 3, ..

pub weight_twice : (t : ℕ) → 2 * weight fixed t ≡ t * (t + 1)
unfolding share
weight_twice zero = rw (weight_zero fixed) refl
weight_twice (suc t) = let h : 2 * weight fixed t ≡ t * (t + 1) = weight_twice t in rw (weight_suc fixed t) (omega arith)

-- step k takes k shares
pub weight_more : (t : ℕ) → weight fixed (suc t) ≡ weight fixed t + suc t
unfolding share
weight_more t = weight_suc fixed t

pub fixed_fits : ScheduleFits fixed
unfolding share
fixed_fits = record { some_share = omega arith; squares = λ k. let h : 2 * weight fixed (suc k) ≡ suc k * (suc k + 1) = weight_twice (suc k) in omega arith }

pub weight_monotone : {s t : ℕ} → s ≤ t → weight fixed s ≤ weight fixed t
weight_monotone {s} {t} h = let k : s * (s + 1) ≤ t * (t + 1) = mul-le-mul h (omega arith) in omega (arith, weight_twice s, weight_twice t)

-- the weight of the most steps that a sheet may ask
pub weight_most : {t : ℕ} → t ≤ step_limit → weight fixed t ≤ total_limit
unfolding weight
weight_most h = weight_monotone h

-- W² times a number that is no more than the greatest tolerance is below 2^62
pub weight_fits : {w d : ℕ} → w ≤ total_limit → d ≤ 1024000000 → d * (w * w) < sum_limit
weight_fits h k = lt_of_le_of_lt (mul-le-mul k (mul-le-mul h h)) (lit< tt)
