-- Figures, and the number that they say.
use mathlib.Core.Path.{◌≡◌, refl, sym, ap, ◌∙◌}
use mathlib.Core.Bool.{Bool, true, false, cond}
use mathlib.Core.List.{List, [], ◌∷◌, ◌++◌, append_assoc, append-nil}
use Prim.Native.Nat.{ℕ, zero, suc, ◌+◌, ◌*◌, ◌-◌, ◌/◌, ◌%◌, ◌≤◌, ◌<◌}
use native.Mathlib.Omega.{arith}
use borrow.Author.Tests.{lt-ltb, le-ltb, ltb-true, ltb-false}
use lib.Dec.{ltb}
use lib.ListN.{length, replicate}
use Rattle.text.specs.Decimal.{figure, leading, decimal, read_after, read_decimal, DecimalReadsBack}
use Rattle.text.proofs.Decimals.{decimal_one, decimal_ten, reads_back}
use Rattle.csv_bytes.specs.Cells.{MOST, kept, more}

-- each byte is a figure
pub data Figures : List ℕ → Type 0 where
  none : Figures []
  one_more : {d : ℕ} {ds : List ℕ} → 48 ≤ d → d ≤ 57 → Figures ds → Figures (d ∷ ds)

pub figures_append : {xs ys : List ℕ} → Figures xs → Figures ys → Figures (xs ++ ys)
figures_append none q = q
figures_append (one_more h k p) q = one_more h k (figures_append p q)

pub figures_zeros : (k : ℕ) → Figures (replicate k 48)
figures_zeros zero = none
figures_zeros (suc k) = one_more {d = 48} (omega arith) (omega arith) (figures_zeros k)

figures_leading : (most n : ℕ) → Figures (leading most n)
unfolding leading
figures_leading zero n = none
figures_leading (suc m) zero = none
figures_leading (suc m) (suc n) = figures_append (figures_leading m (suc n / 10)) (one_more {d = figure (suc n % 10)} (omega arith) (omega arith) none)

pub figures_decimal : (n : ℕ) → Figures (decimal n)
unfolding decimal
figures_decimal n = figures_append (figures_leading n (n / 10)) (one_more {d = figure (n % 10)} (omega arith) (omega arith) none)

-- ---- the number of figures, of which the first may be 0
read_zeros : (k : ℕ) (ds : List ℕ) → read_after 0 (replicate k 48 ++ ds) ≡ read_after 0 ds
unfolding read_after
read_zeros zero ds = refl
read_zeros (suc k) ds = read_zeros k ds

pub read_number : (k n : ℕ) → read_after 0 (replicate k 48 ++ decimal n) ≡ n
unfolding DecimalReadsBack
read_number k n = read_zeros k (decimal n) ∙ (reads_back n).0

replicate_more : (k : ℕ) (ds : List ℕ) → replicate k 48 ++ (48 ∷ ds) ≡ replicate (suc k) 48 ++ ds
replicate_more zero ds = refl
replicate_more (suc k) ds = ap (λ (l : List ℕ). 48 ∷ l) (replicate_more k ds)

-- figures up to one more
module _ (z m d : ℕ) (h : 48 ≤ d) (k : d ≤ 57) where
  e : ℕ
  e = 10 * m + (d - 48)

  after_zero : m ≡ 0 → (replicate z 48 ++ decimal m) ++ (d ∷ []) ≡ replicate (suc z) 48 ++ decimal e
  unfolding e
  after_zero o =
      let q : 10 * m + (d - 48) ≡ d - 48 = omega arith in
      let f : 48 + (d - 48) ≡ d = omega arith in
      rw (q, decimal_one (d - 48) (omega arith), f, o, decimal_one 0 (omega arith), append_assoc (replicate z 48) (48 ∷ []) (d ∷ [])) (replicate_more z (d ∷ []))

  after_some : 1 ≤ m → (replicate z 48 ++ decimal m) ++ (d ∷ []) ≡ replicate z 48 ++ decimal e
  unfolding e
  after_some o =
      let q : (10 * m + (d - 48)) / 10 ≡ m = omega arith in
      let r : (10 * m + (d - 48)) % 10 ≡ d - 48 = omega arith in
      let f : 48 + (d - 48) ≡ d = omega arith in
      rw (decimal_ten (10 * m + (d - 48)) (omega arith), q, r, f) (append_assoc (replicate z 48) (decimal m) (d ∷ []))

-- ds after p, which are zeros and the figures of m
pub record Zeros (ds : List ℕ) (n : ℕ) : Type 0 where
  pub count : ℕ
  pub figures_are : ds ≡ replicate count 48 ++ decimal n

pub more_figures : {ds : List ℕ} → Figures ds → (p : List ℕ) (m : ℕ) → Zeros p m → Zeros (p ++ ds) (read_after m ds)
unfolding read_after e
more_figures none p m z = rw append-nil z
more_figures (one_more {d} {ds} h k f) p m z =
    rw (← append_assoc p (d ∷ []) ds) (more_figures f (p ++ (d ∷ [])) (10 * m + (d - 48)) (step m refl))
  where
    step : (x : ℕ) → m ≡ x → Zeros (p ++ (d ∷ [])) (10 * m + (d - 48))
    step zero q = record { count = suc z.count; figures_are = rw z.figures_are (after_zero z.count m d h k q) }
    step (suc x) q = record { count = z.count; figures_are = rw z.figures_are (after_some z.count m d h k (omega arith)) }

pub all_figures : {d : ℕ} {ds : List ℕ} → 48 ≤ d → d ≤ 57 → Figures ds → Zeros (d ∷ ds) (read_after 0 (d ∷ ds))
unfolding read_after
all_figures {d} {ds} h k f =
    let q : 48 + (d - 48) ≡ d = omega arith in
    let o : 10 * 0 + (d - 48) ≡ d - 48 = omega arith in
    rw o (more_figures f (d ∷ []) (d - 48) (record { count = 0; figures_are = sym (decimal_one (d - 48) (omega arith) ∙ ap (λ (x : ℕ). x ∷ []) q) }))

-- ---- a magnitude after figures
unfoldable pub magnitude_with : ℕ → List ℕ → ℕ
magnitude_with m [] = m
magnitude_with m (d ∷ ds) = magnitude_with (more m d) ds

kept_more : (m d : ℕ) → 48 ≤ d → d ≤ 57 → more (kept m) d ≡ kept (10 * m + (d - 48))
kept_more m d h k =
    let r : d % 48 ≡ d - 48 = omega arith in
    by (ltb MOST m) refl r
  where
    by : (b : Bool) → ltb MOST m ≡ b → d % 48 ≡ d - 48 → more (kept m) d ≡ kept (10 * m + (d - 48))
    by true e r = let l = ltb-true MOST m e in rw (e, r, lt-ltb MOST (10 * MOST + (d - 48)) (omega arith), lt-ltb MOST (10 * m + (d - 48)) (omega arith))
    by false e r = rw (e, r)

pub magnitude_kept : {ds : List ℕ} → Figures ds → (m : ℕ) → magnitude_with (kept m) ds ≡ kept (read_after m ds)
unfolding magnitude_with read_after
magnitude_kept none m = refl
magnitude_kept (one_more {d} {ds} h k f) m = rw (kept_more m d h k) (magnitude_kept f (10 * m + (d - 48)))
