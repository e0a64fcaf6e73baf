-- Readings of a scale, in kilograms as a double. A finite double is a sign s, a mantissa m and an exponent e, `fin s m e` of lib.Ieee,
-- and its exact value is m * 2 ^ e, negative where s is true; 2 ^ e is the fraction up e / down e. The others are NaN and the infinities.
use Rattle.std.specs.Prelude.{Bool, true, false, ◌&&◌, ℕ, ◌*◌, leb, ℤ, pos, nat_abs, Float}
use Rattle.std.specs.Float.{nan, inf, fin}
use Rattle.std.specs.Float.Ieee.{up, down}
use Rattle.rounding.specs.Rounding.{signed, rounded}

unfoldable pub is_finite : Float → Bool
is_finite nan = false
is_finite (inf s) = false
is_finite (fin s m e) = true

-- the exact value of a finite double as a fraction, numerator over denominator; 0 / 1 where there is no value
unfoldable pub numerator : Float → ℤ
numerator nan = pos 0
numerator (inf s) = pos 0
numerator (fin s m e) = signed s (m * up e)

unfoldable pub denominator : Float → ℕ
denominator nan = 1
denominator (inf s) = 1
denominator (fin s m e) = down e

-- the most kilograms that a net may have either way
abbrev pub most_kilograms : ℕ
most_kilograms = 1048576

-- whether the exact value, not yet rounded, is at most that either way: of a finite double only
unfoldable pub within_limit : Float → Bool
within_limit x = is_finite x && leb (nat_abs (numerator x)) (most_kilograms * denominator x)

-- the exact value in whole kilograms, halves to even
unfoldable pub whole : Float → ℤ
whole x = rounded (numerator x) (denominator x)
