-- The decimal figures of a number, as ASCII bytes. Definitions only. Assumes nothing.
use Rattle.std.specs.Prelude.{◌≡◌, List, [], ◌∷◌, ◌++◌, ℕ, zero, suc, ◌+◌, ◌*◌, ◌-◌, ◌/◌, ◌%◌, ◌≤◌, ◌<◌, get_or}

-- the byte of a figure from 0 to 9
abbrev pub figure : (d : ℕ) → ℕ
figure d = 48 + d

-- the figures of n, none for 0: `most` is at least n
unfoldable pub leading : (most n : ℕ) → List ℕ
leading zero n = []
leading (suc m) zero = []
leading (suc m) (suc n) = leading m (suc n / 10) ++ (figure (suc n % 10) ∷ [])

-- the figures of n with no zero in front, the one figure 0 for 0
unfoldable pub decimal : (n : ℕ) → List ℕ
decimal n = leading n (n / 10) ++ (figure (n % 10) ∷ [])

-- the two figures of a number below 100
abbrev pub pair : (n : ℕ) → List ℕ
pair n = figure (n / 10) ∷ figure (n % 10) ∷ []

-- the number that figures say after a number before them, and on their own
unfoldable pub read_after : (before : ℕ) → List ℕ → ℕ
read_after n [] = n
read_after n (d ∷ ds) = read_after (10 * n + (d - 48)) ds

abbrev pub read_decimal : List ℕ → ℕ
read_decimal ds = read_after 0 ds

-- the figures of a number say the number, and the first of them is 0 for the number 0 only
unfoldable pub DecimalReadsBack : Type 0
DecimalReadsBack = (n : ℕ) → (read_decimal (decimal n) ≡ n) × (1 ≤ n → 48 < get_or (decimal n) 0 0)
