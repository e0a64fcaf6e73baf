-- What the code and the theorem ask of a schedule, and that the fixed shares and every accepted table have it. Assumes nothing.
use mathlib.Core.Path.{◌≡◌, refl}
use mathlib.Core.Bool.{true, ◌&&◌}
use mathlib.Core.List.{List, [], ◌∷◌}
use Prim.Native.Nat.{ℕ, zero, suc, ◌+◌, ◌*◌, ◌≤◌, ◌<◌}
use native.Mathlib.Nat.{zero-add, le_trans, le_of_suc-le-suc, lt_of_not-le, not-le_of_lt, mul-le-mul, mul-le-mul_left}
use native.Mathlib.Omega.{arith}
use borrow.Author.Tests.{ltb-true, leb-true}
use lib.Dec.{ltb, leb, lit<}
use lib.ListN.{length, get_or, take, replicate}
use Rattle.frank_wolfe.specs.Vectors.{sum}
use Rattle.files.specs.Bytes.{between}
use Rattle.files.specs.Limits.{step_limit, total_limit}
use Rattle.files.proofs.Refusal.{and_true, between_true}
use Rattle.files.proofs.Accepted.{passed, passed_last}
use Rattle.method.specs.Problem.{Schedule, fixed, lent, share, weight, allowed_steps}
use Rattle.method.specs.Calls.{shares_fit, table_refusal, schedule_refusal}
use Rattle.method.proofs.Weights.{ScheduleFits, fixed_fits, weight_most}

-- an entry, and those after it
entry_fits : (w a : ℕ) (table : List ℕ) → shares_fit w (a ∷ table) ≡ true → (1 ≤ a) × (a * a ≤ 2 * (w + a)) × (shares_fit (w + a) table ≡ true)
unfolding shares_fit
entry_fits w a table e =
    let p = and_true (ltb 0 a && leb (a * a) (2 * (w + a))) _ e in
    let q = and_true (ltb 0 a) _ p.0 in
    (ltb-true 0 a q.0, leb-true (a * a) (2 * (w + a)) q.1, p.1)

square_fits : (w : ℕ) (table : List ℕ) → shares_fit w table ≡ true → (k : ℕ) → get_or table k 0 * get_or table k 0 ≤ 2 * (w + sum (take (suc k) table))
unfolding sum
square_fits w [] e k = omega arith
square_fits w (a ∷ table) e zero = omega (arith, (entry_fits w a table e).1)
square_fits w (a ∷ table) e (suc k) = omega (arith, square_fits (w + a) table (entry_fits w a table e).2 k)

entry_some : (w : ℕ) (table : List ℕ) → shares_fit w table ≡ true → (k : ℕ) → k < length table → 1 ≤ get_or table k 0
entry_some w [] e k h = absurd (omega arith)
entry_some w (a ∷ table) e zero h = (entry_fits w a table e).0
entry_some w (a ∷ table) e (suc k) h = entry_some (w + a) table (entry_fits w a table e).2 k (omega arith)

part_most : (table : List ℕ) (t : ℕ) → sum (take t table) ≤ sum table
unfolding sum
part_most table zero = omega arith
part_most [] (suc t) = omega arith
part_most (a ∷ table) (suc t) = omega (arith, part_most table t)

-- what is asked of a schedule
pub record ScheduleSized (a : Schedule) : Type 0 where
  pub fits : ScheduleFits a
  -- a run that may take steps may take one
  pub some_steps : (n : ℕ) → 1 ≤ n → 1 ≤ allowed_steps a n
  pub most_steps : (n : ℕ) → allowed_steps a n ≤ n
  pub more_steps : {n m : ℕ} → n ≤ m → allowed_steps a n ≤ allowed_steps a m
  -- each step that may be taken gives a share
  pub gives : (n k : ℕ) → k < allowed_steps a n → 1 ≤ share a k
  -- sizes
  pub most_total : (t : ℕ) → t ≤ step_limit → weight a t ≤ total_limit
  pub most_share : (k : ℕ) → k < step_limit → share a k ≤ step_limit

pub fixed_sized : ScheduleSized fixed
unfolding share
fixed_sized =
    record {
      fits = fixed_fits;
      some_steps = λ n h. h;
      most_steps = λ n. omega arith;
      more_steps = λ h. h;
      gives = λ n k h. omega arith;
      most_total = λ t h. weight_most h;
      most_share = λ k h. h;
    }

-- no entry is above 360: its square is at most twice the final total
entry_most : {table : List ℕ} → ScheduleFits (lent table) → ((t : ℕ) → weight (lent table) t ≤ total_limit) → (k : ℕ) → share (lent table) k ≤ step_limit
entry_most {table} f total k =
    le_of_suc-le-suc (lt_of_not-le (λ (h : 361 ≤ share (lent table) k).
    not-le_of_lt (lit< {m = 2 * total_limit} {n = 361 * 361} tt) (le_trans (mul-le-mul h h) (le_trans (f.squares k) (mul-le-mul_left 2 (total (suc k)))))))

table_sized : (table : List ℕ) → table_refusal table ≡ 0 → ScheduleSized (lent table)
unfolding table_refusal share weight
table_sized table e =
    let p1 = passed (between 1 step_limit (length table)) 48 _ e in
    let p2 = passed (shares_fit 0 table) 49 _ p1.1 in
    let n = between_true 1 step_limit (length table) p1.0 in
    let f : ScheduleFits (lent table) = record { some_share = entry_some 0 table p2.0 0 n.0; squares = λ k. rw zero-add at (square_fits 0 table p2.0 k) } in
    let total : (t : ℕ) → weight (lent table) t ≤ total_limit = λ t. le_trans (part_most table t) (leb-true (sum table) total_limit (passed_last _ 50 p2.1)) in
    record {
      fits = f;
      some_steps = λ k h. omega (arith, n.0);
      most_steps = λ k. omega arith;
      more_steps = λ h. omega arith;
      gives = λ m k h. entry_some 0 table p2.0 k (omega arith);
      most_total = λ t h. total t;
      most_share = λ k h. entry_most f total k;
    }

pub schedule_sized : (a : Schedule) → schedule_refusal a ≡ 0 → ScheduleSized a
schedule_sized fixed e = fixed_sized
schedule_sized (lent table) e = table_sized table e

-- ---- Tables on both sides of each test

counting : (k n : ℕ) → List ℕ
counting k zero = []
counting k (suc n) = k ∷ counting (suc k) n

-- no entry, or more than 360
length_refused : (table_refusal [] ≡ 49) × (table_refusal (replicate 361 0) ≡ 49) × (table_refusal (replicate 360 1) ≡ 0)
unfolding table_refusal between shares_fit sum
length_refused = (refl, refl, refl)

-- an entry of 0; squares 4 and 9 with totals 2 and 3, squares 9 and 16 with totals 6 and 7
entry_refused :
    (table_refusal (1 ∷ 0 ∷ []) ≡ 50) × (table_refusal (2 ∷ []) ≡ 0) × (table_refusal (3 ∷ []) ≡ 50)
    × (table_refusal (1 ∷ 2 ∷ 3 ∷ []) ≡ 0) × (table_refusal (1 ∷ 2 ∷ 4 ∷ []) ≡ 50)
unfolding table_refusal between shares_fit sum
entry_refused = (refl, refl, refl, refl, refl)

-- a total of 64,980; of 64,981; of 360,000 with entries that do not fit
total_refused : (table_refusal (counting 1 360) ≡ 0) × (table_refusal (2 ∷ counting 2 359) ≡ 51) × (table_refusal (replicate 360 1000) ≡ 50)
unfolding table_refusal between shares_fit sum counting
total_refused = (refl, refl, refl)
