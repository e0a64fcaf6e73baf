-- Laws of a turn and of a round.
use mathlib.Core.Path.{◌≡◌, refl, ap}
use mathlib.Core.Bool.{Bool, true, false, ◌&&◌, cond}
use mathlib.Core.Logic.{◌⊎◌, inl, inr}
use mathlib.Core.List.{List, [], ◌∷◌}
use Prim.Native.Nat.{ℕ, zero, suc, ◌+◌, ◌-◌, ◌≤◌, ◌<◌, min}
use native.Mathlib.Omega.{arith}
use borrow.Author.Tests.{ltb-true, ltb-false}
use lib.Dec.{ltb}
use lib.ListN.{length, get_or, replicate, length-replicate}
use Rattle.frank_wolfe.specs.Vectors.{sum}
use Rattle.sheet_queue.specs.Rounds.{turn, round, after}

pub below_or_not : (m n : ℕ) → (m < n) ⊎ (n ≤ m)
below_or_not m n = by (ltb m n) refl
  where
    by : (t : Bool) → ltb m n ≡ t → (m < n) ⊎ (n ≤ m)
    by true e = inl (ltb-true m n e)
    by false e = inr (ltb-false m n e)

pub turn_is : (left t k : ℕ) → turn left t k ≡ min 1 (min left (t - k))
unfolding turn
turn_is left t k = by (ltb 0 left) (ltb k t) refl refl
  where
    by : (p q : Bool) → ltb 0 left ≡ p → ltb k t ≡ q → cond (p && q) 1 0 ≡ min 1 (min left (t - k))
    by true true e f = omega (arith, ltb-true 0 left e, ltb-true k t f)
    by true false e f = omega (arith, ltb-false k t f)
    by false true e f = omega (arith, ltb-false 0 left e)
    by false false e f = omega (arith, ltb-false 0 left e)

turn_within : (left t k : ℕ) → turn left t k ≤ left
turn_within left t k = rw turn_is (below left (t - k))
  where
    below : (m n : ℕ) → min 1 (min m n) ≤ m
    below m n = omega arith

pub sum_none : (n : ℕ) → sum (replicate n 0) ≡ 0
unfolding sum
sum_none zero = refl
sum_none (suc n) = omega (arith, sum_none n)

-- no more is taken than is left
pub round_sum : (left : ℕ) (ts ks : List ℕ) → sum (round left ts ks) ≤ left + sum ks
unfolding sum round
round_sum left [] ks = omega arith
round_sum left (t ∷ ts) [] = omega arith
round_sum left (t ∷ ts) (k ∷ ks) = omega (arith, turn_within left t k, round_sum (left - turn left t k) ts ks)

pub round_length : (left : ℕ) (ts ks : List ℕ) → length ks ≡ length ts → length (round left ts ks) ≡ length ts
unfolding round
round_length left [] ks e = refl
round_length left (t ∷ ts) [] e = e
round_length left (t ∷ ts) (k ∷ ks) e = ap suc (round_length (left - turn left t k) ts ks (omega arith))

pub after_length : (r a : ℕ) (ts : List ℕ) → length (after r a ts) ≡ length ts
unfolding after
after_length zero a ts = length-replicate (length ts) 0
after_length (suc r) a ts = round_length (a - sum (after r a ts)) ts (after r a ts) (after_length r a ts)

-- a round without a step left changes nothing
pub round_none : (ts ks : List ℕ) → length ks ≡ length ts → round 0 ts ks ≡ ks
unfolding round
round_none [] [] e = refl
round_none [] (k ∷ ks) e = absurd (omega arith)
round_none (t ∷ ts) [] e = refl
round_none (t ∷ ts) (k ∷ ks) e =
    let s : turn 0 t k ≡ 0 = omega (arith, turn_is 0 t k) in
    let here : k + turn 0 t k ≡ k = omega arith in
    rw (here, s) (ap (λ (l : List ℕ). k ∷ l) (round_none ts ks (omega arith)))

-- nor does one where all are finished
pub round_finished : (left : ℕ) (ts : List ℕ) → round left ts ts ≡ ts
unfolding round
round_finished left [] = refl
round_finished left (t ∷ ts) =
    let s : turn left t t ≡ 0 = omega (arith, turn_is left t t) in
    let here : t + turn left t t ≡ t = omega arith in
    let rest : left - turn left t t ≡ left = omega arith in
    rw (here, rest) (ap (λ (l : List ℕ). t ∷ l) (round_finished left ts))

pub round_grows : (left : ℕ) (ts ks : List ℕ) → length ks ≡ length ts → sum ks ≤ sum (round left ts ks)
unfolding sum round
round_grows left [] [] e = omega arith
round_grows left [] (k ∷ ks) e = absurd (omega arith)
round_grows left (t ∷ ts) [] e = absurd (omega arith)
round_grows left (t ∷ ts) (k ∷ ks) e = omega (arith, round_grows (left - turn left t k) ts ks (omega arith))

-- a round that takes no step though one is left finds all finished
pub round_idle : (left : ℕ) (ts ks : List ℕ) → 0 < left → length ks ≡ length ts → ((i : ℕ) → i < length ts → get_or ks i 0 ≤ get_or ts i 0) →
    sum (round left ts ks) ≤ sum ks → ks ≡ ts
unfolding sum round
round_idle left [] [] z e h s = refl
round_idle left [] (k ∷ ks) z e h s = absurd (omega arith)
round_idle left (t ∷ ts) [] z e h s = absurd (omega arith)
round_idle left (t ∷ ts) (k ∷ ks) z e h s =
    let l : length ks ≡ length ts = omega arith in
    let n : turn left t k ≡ 0 = omega (arith, round_grows (left - turn left t k) ts ks l) in
    let same : k ≡ t = omega (arith, turn_is left t k, h 0 (omega arith)) in
    let rest : left - turn left t k ≡ left = omega arith in
    let s : sum (round left ts ks) ≤ sum ks = rw rest at (omega_rest l n) in
    rw (same, round_idle left ts ks z l (λ i j. h (suc i) (omega arith)) s)
  where
    omega_rest : length ks ≡ length ts → turn left t k ≡ 0 → sum (round (left - turn left t k) ts ks) ≤ sum ks
    omega_rest l n = omega arith
