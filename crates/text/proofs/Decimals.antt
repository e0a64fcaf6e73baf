-- Laws of decimal figures: one figure, two at a time, how many there are, and what they say. Assumes nothing.
use mathlib.Core.Path.{◌≡◌, refl, ap, ◌∙◌}
use mathlib.Core.List.{List, [], ◌∷◌, ◌++◌, append_assoc}
use mathlib.Core.Logic.{⊎_elim}
use Prim.Native.Nat.{ℕ, zero, suc, ◌+◌, ◌*◌, ◌-◌, ◌/◌, ◌%◌, ◌^◌, ◌≤◌, ◌<◌}
use native.Mathlib.Nat.{pow-succ', eq-zero-or-pos}
use native.Mathlib.Omega.{arith}
use lib.ListN.{length, get_or, length-append}
use Rattle.text.specs.Decimal.{figure, leading, decimal, pair, read_after, DecimalReadsBack}

-- any `most` that is large enough gives the same figures
same_leading : (f g n : ℕ) → n ≤ f → n ≤ g → leading f n ≡ leading g n
unfolding leading
same_leading zero zero n p q = refl
same_leading zero (suc g) zero p q = refl
same_leading zero (suc g) (suc n) p q = absurd (omega arith)
same_leading (suc f) zero zero p q = refl
same_leading (suc f) zero (suc n) p q = absurd (omega arith)
same_leading (suc f) (suc g) zero p q = refl
same_leading (suc f) (suc g) (suc n) p q = ap (λ (l : List ℕ). l ++ (figure (suc n % 10) ∷ [])) (same_leading f g (suc n / 10) (omega arith) (omega arith))

leading_zero : (f : ℕ) → leading f 0 ≡ []
unfolding leading
leading_zero zero = refl
leading_zero (suc f) = refl

leading_decimal : (f n : ℕ) → 1 ≤ n → n ≤ f → leading f n ≡ decimal n
unfolding leading decimal
leading_decimal f zero h p = absurd (omega arith)
leading_decimal zero (suc n) h p = absurd (omega arith)
leading_decimal (suc f) (suc n) h p = ap (λ (l : List ℕ). l ++ (figure (suc n % 10) ∷ [])) (same_leading f (suc n) (suc n / 10) (omega arith) (omega arith))

-- ---- One figure more, and two

decimal_last : (n : ℕ) → decimal n ≡ leading n (n / 10) ++ (figure (n % 10) ∷ [])
unfolding decimal
decimal_last n = refl

pub decimal_one : (n : ℕ) → n < 10 → decimal n ≡ figure n ∷ []
decimal_one n h =
    let q : n / 10 ≡ 0 = omega arith in
    let r : n % 10 ≡ n = omega arith in
    decimal_last n ∙ rw (q, r, leading_zero)

pub decimal_ten : (n : ℕ) → 10 ≤ n → decimal n ≡ decimal (n / 10) ++ (figure (n % 10) ∷ [])
decimal_ten n h = decimal_last n ∙ ap (λ (l : List ℕ). l ++ (figure (n % 10) ∷ [])) (leading_decimal n (n / 10) (omega arith) (omega arith))

pub decimal_two : (n : ℕ) → 10 ≤ n → n < 100 → decimal n ≡ pair n
decimal_two n h p = decimal_ten n h ∙ ap (λ (l : List ℕ). l ++ (figure (n % 10) ∷ [])) (decimal_one (n / 10) (omega arith))

pub decimal_hundred : (n : ℕ) → 100 ≤ n → decimal n ≡ decimal (n / 100) ++ pair (n % 100)
decimal_hundred n h =
    let a : n / 10 / 10 ≡ n / 100 = omega arith in
    let b : n / 10 % 10 ≡ n % 100 / 10 = omega arith in
    let d : n % 10 ≡ n % 100 % 10 = omega arith in
    decimal_ten n (omega arith)
    ∙ ap (λ (l : List ℕ). l ++ (figure (n % 10) ∷ [])) (decimal_ten (n / 10) (omega arith))
    ∙ append_assoc (decimal (n / 10 / 10)) (figure (n / 10 % 10) ∷ []) (figure (n % 10) ∷ [])
    ∙ rw (a, b, d)

-- ---- How many figures

-- a number below 10 ^ k has at most k figures, k above 0
pub figures_at_most : (k n : ℕ) → n < 10 ^ suc k → length (decimal n) ≤ suc k
figures_at_most zero n h = rw (decimal_one n h) (omega arith)
figures_at_most (suc k) n h = ⊎_elim few (λ p. more p (figures_at_most k (n / 10) (omega (arith, rw pow-succ' at h)))) (eq-zero-or-pos (n / 10)) where
  few : n / 10 ≡ 0 → length (decimal n) ≤ suc (suc k)
  few p = rw (decimal_one n (omega arith)) (omega arith)

  more : 0 < n / 10 → length (decimal (n / 10)) ≤ suc k → length (decimal n) ≤ suc (suc k)
  more p b = rw (decimal_ten n (omega arith), length-append) (omega arith)

-- ---- Reading back

read_last : (x : ℕ) (l : List ℕ) (d : ℕ) → read_after x (l ++ (d ∷ [])) ≡ 10 * read_after x l + (d - 48)
unfolding read_after
read_last x [] d = refl
read_last x (e ∷ l) d = read_last (10 * x + (e - 48)) l d

read_leading : (f n : ℕ) → n ≤ f → read_after 0 (leading f n) ≡ n
unfolding leading read_after
read_leading zero zero p = refl
read_leading zero (suc n) p = absurd (omega arith)
read_leading (suc f) zero p = refl
read_leading (suc f) (suc n) p = read_last 0 (leading f (suc n / 10)) (figure (suc n % 10)) ∙ omega (arith, read_leading f (suc n / 10) (omega arith))

first_in : (l : List ℕ) (x : ℕ) → 48 < get_or l 0 0 → 48 < get_or (l ++ (x ∷ [])) 0 0
first_in [] x h = absurd (omega arith)
first_in (y ∷ l) x h = h

first_figure : (f n : ℕ) → 1 ≤ n → n ≤ f → 48 < get_or (leading f n) 0 0
unfolding leading
first_figure zero zero h p = absurd (omega arith)
first_figure zero (suc n) h p = absurd (omega arith)
first_figure (suc f) zero h p = absurd (omega arith)
first_figure (suc f) (suc n) h p = ⊎_elim only (λ e. more (first_figure f (suc n / 10) e (omega arith))) (eq-zero-or-pos (suc n / 10)) where
  only : suc n / 10 ≡ 0 → 48 < get_or (leading f (suc n / 10) ++ (figure (suc n % 10) ∷ [])) 0 0
  only e = rw (e, leading_zero) (omega arith)

  more : 48 < get_or (leading f (suc n / 10)) 0 0 → 48 < get_or (leading f (suc n / 10) ++ (figure (suc n % 10) ∷ [])) 0 0
  more b = first_in (leading f (suc n / 10)) (figure (suc n % 10)) b

pub reads_back : DecimalReadsBack
unfolding DecimalReadsBack
reads_back n = (
  rw (decimal_last n, read_last) (omega (arith, read_leading n (n / 10) (omega arith))),
  λ h. rw (← leading_decimal n n h (omega arith)) (first_figure n n h (omega arith)),
)
