-- The bits of a double: 1 of sign, 11 of exponent, 52 of fraction.
use Rattle.std.specs.Prelude.{ℕ, zero, suc, ◌+◌, ◌*◌, ◌^◌}

-- the size that an exponent field and a fraction field stand for, in units of 2 ^ -1074: a field of 0 has no leading digit
unfoldable pub magnitude : (exponent fraction : ℕ) → ℕ
magnitude zero t = t
magnitude (suc j) t = (2 ^ 52 + t) * 2 ^ j
