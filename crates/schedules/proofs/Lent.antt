-- What a schedule is where a table is lent, and where none is. Assumes nothing.
use mathlib.Core.Path.{◌≡◌, refl}
use mathlib.Core.List.{List}
use Prim.Native.Nat.{ℕ, ◌+◌, ◌≤◌, ◌<◌}
use native.Mathlib.Numerals.{add-one}
use native.Mathlib.Omega.{arith}
use denote.Bor.{Bor}
use lib.ListN.{length, get_or, take}
use Rattle.std.specs.Prelude.{Option, Some, None, option_copied}
use Rattle.frank_wolfe.specs.Vectors.{sum}
use Rattle.method.specs.Problem.{fixed, share, weight, allowed_steps}
use Rattle.method.specs.Calls.{table_refusal, schedule_refusal, schedule_in}

-- a table that is lent
module _ {o : Option (Bor (List ℕ))} (lent : Bor (List ℕ)) (e : o ≡ Some lent) where
  pub lent_refusal : {n : ℕ} → n ≡ table_refusal lent.now → n ≡ schedule_refusal (schedule_in (option_copied o))
  lent_refusal h = rw e h

  pub lent_fewer : (n : ℕ) → length lent.now < n → length lent.now ≡ allowed_steps (schedule_in (option_copied o)) n
  lent_fewer n h = rw e (omega arith)

  pub lent_enough : (n : ℕ) → n ≤ length lent.now → n ≡ allowed_steps (schedule_in (option_copied o)) n
  lent_enough n h = rw e (omega arith)

  pub lent_most : {k n : ℕ} → k ≤ allowed_steps (schedule_in (option_copied o)) n → (k ≤ n) × (k ≤ length lent.now)
  lent_most h = let g = rw e at h in (omega arith, omega arith)

  pub lent_share : (k : ℕ) {r : ℕ} → r ≡ get_or lent.now k 0 → r ≡ share (schedule_in (option_copied o)) k
  unfolding share
  lent_share k h = rw e h

  pub lent_total : (t : ℕ) {r : ℕ} → r ≡ sum (take t lent.now) → r ≡ weight (schedule_in (option_copied o)) t
  unfolding weight
  lent_total t h = rw e h

-- no lent.now
module _ {o : Option (Bor (List ℕ))} (e : o ≡ None) where
  pub fixed_refusal : 0 ≡ schedule_refusal (schedule_in (option_copied o))
  fixed_refusal = rw e refl

  pub fixed_steps : (n : ℕ) → n ≡ allowed_steps (schedule_in (option_copied o)) n
  fixed_steps n = rw e refl

  pub fixed_most : {k n : ℕ} → k ≤ allowed_steps (schedule_in (option_copied o)) n → k ≤ n
  fixed_most h = rw e at h

  pub fixed_share : (k : ℕ) → k + 1 ≡ share (schedule_in (option_copied o)) k
  unfolding share
  fixed_share k = rw e (add-one k)

  pub fixed_total : (t : ℕ) {r : ℕ} → r ≡ weight fixed t → r ≡ weight (schedule_in (option_copied o)) t
  fixed_total t h = rw e h
