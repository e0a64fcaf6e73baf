-- The first of two numbers that is not 0. Assumes nothing.
use mathlib.Core.Path.{◌≡◌, refl}
use Prim.Native.Nat.{ℕ, zero, suc}
use Rattle.method.specs.Calls.{before}

pub first_refuses : (n : ℕ) {k : ℕ} (later : ℕ) → n ≡ k → (n ≡ 0 → ⊥) → n ≡ before k later
first_refuses zero later e h = absurd (h refl)
first_refuses (suc n) later e h = rw (← e) refl

pub later_refuses : {n : ℕ} (k : ℕ) {r later : ℕ} → n ≡ k → n ≡ 0 → r ≡ later → r ≡ before k later
later_refuses k e z q = rw (← e, z) q
