-- The generator of the test programs, a linear congruential one, and what it draws. Definitions only.
use Rattle.std.specs.Prelude.{cond, List, [], ◌∷◌, ℕ, zero, suc, ◌*◌, ◌%◌, eqb}

-- the next state
abbrev pub advance : ℕ → ℕ
advance s = s % 2147483647 * 48271 % 2147483647

-- the state after so many draws
unfoldable pub advances : (count : ℕ) → ℕ → ℕ
advances zero s = s
advances (suc n) s = advances n (advance s)

-- the number below n that a draw from state s gives, 0 where n is 0
abbrev pub drawn : (n s : ℕ) → ℕ
drawn n s = cond (eqb n 0) 0 (advance s % n)

-- so many bytes of any kind
unfoldable pub any_bytes : (count s : ℕ) → List ℕ
any_bytes zero s = []
any_bytes (suc n) s = drawn 256 s ∷ any_bytes n (advance s)
