-- The rule of a table: a list whose entries a function gives, one after the other, and its entry at each place.
-- A constant table has the rule where antt computes the list to its entries. Assumes nothing.
use mathlib.Core.Path.{◌≡◌, sym, ap, ◌∙◌}
use mathlib.Core.List.{List, [], ◌∷◌}
use Prim.Native.Nat.{ℕ, zero, suc, ◌+◌, ◌<◌}
use native.Mathlib.Nat.{zero-add, add-zero, suc-add, add-suc, not-suc-le-zero, le_of_suc-le-suc}
use lib.ListN.{get_or}

-- f i, f (i + 1), .., n numbers
abbrev pub entries : (f : ℕ → ℕ) → (n i : ℕ) → List ℕ
entries f zero i = []
entries f (suc n) i = f i ∷ entries f n (suc i)

entry_from : (f : ℕ → ℕ) (n i k : ℕ) → k < n → get_or (entries f n i) k 0 ≡ f (i + k)
entry_from f zero i k h = absurd (not-suc-le-zero h)
entry_from f (suc n) i zero h = ap f (sym (add-zero i))
entry_from f (suc n) i (suc k) h = entry_from f n (suc i) k (le_of_suc-le-suc h) ∙ ap f (suc-add i k ∙ sym (add-suc i k))

pub entry : (f : ℕ → ℕ) (n k : ℕ) → k < n → get_or (entries f n 0) k 0 ≡ f k
entry f n k h = entry_from f n 0 k h ∙ ap f (zero-add k)
