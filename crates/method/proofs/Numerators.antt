-- Vectors of fractions over one denominator, by their numerators: differences, inner products, the least, the greatest, a step of the
-- published method. Assumes nothing.
use mathlib.Core.Path.{◌≡◌, refl, sym, ap, ap₂, ◌∙◌}
use mathlib.Core.Bool.{Bool, true, false, not, ◌&&◌, ◌||◌, cond}
use mathlib.Core.List.{List, [], ◌∷◌}
use Prim.Native.Nat.{ℕ, zero, suc, ◌+◌, ◌*◌, ◌-◌, ◌≤◌}
use native.Mathlib.Omega.{arith}
use native.Mathlib.Nat.{one-mul, mul-one, one-le-mul}
use native.Mathlib.Numerals.{add-one}
use lib.IntN.{ℤ, pos, ◌+ℤ◌, ◌*ℤ◌}
use lib.ListN.{length, get_or, take, replicate}
use lib.Signed.{lt_z}
use Rattle.integers.proofs.Solver.{Expr, con, ◌⊕◌, ◌⊗◌, ◌⊝◌, x₀, x₁, x₂, x₃, solve}
use Rattle.integers.proofs.Facts.{plus_equation, le_not_lt}
use Rattle.frank_wolfe.specs.Vectors.{add, subtract, scale, weighted, sum}
use Rattle.method.specs.Problem.{Schedule, fixed, lent, share, weight}
use Rattle.method.specs.Minimum.{minimum}
use Rattle.method.specs.Iterates.{scores, argmin, active_from, gaps, maximum_from, maximum}
use Rattle.method.specs.Fractions.{Fraction, integer, IsRatio, ◌+ℚ◌, ◌-ℚ◌, ◌*ℚ◌, lt_q, fractions, difference, inner_product}
use Rattle.method.specs.Published.{unit_vector, linear_form, any_below, first_minimizer, active_minimizer, step_size, move, gap_terms, greatest_from, greatest}
use Rattle.method.proofs.Weights.{weight_suc, weight_twice}
use Rattle.method.proofs.Argmin.{any_belowℤ, first_minimizerℤ, argmin_first}
use Rattle.method.proofs.Picks.{any_below_minimum}
use Rattle.method.proofs.Fractions.{one, integer_value, ratio_value, add_value, subtract_value, multiply_value, lt_value, same_value}

abbrev O : Expr
O = con (pos 0)

abbrev two : Expr
two = con (pos 2)

-- an integer over any denominator
pub integer_over : (b : ℤ) {w : ℕ} → 1 ≤ w → IsRatio (integer b) (pos w *ℤ b) w
integer_over b {w} h = record { above_zero = h; cross = solve (b ∷ pos w ∷ []) (x₀ ⊗ x₁) (x₁ ⊗ x₀ ⊗ one) tt }

zero_over : {w : ℕ} → 1 ≤ w → IsRatio (integer (pos 0)) (pos 0) w
zero_over {w} h = record { above_zero = h; cross = solve (pos w ∷ []) (O ⊗ x₀) (O ⊗ one) tt }

-- shares as integers
unfoldable pub integers : List ℕ → List ℤ
integers [] = []
integers (q ∷ qs) = pos q ∷ integers qs

-- each fraction is the integer at its place over w
pub data Over (w : ℕ) : List Fraction → List ℤ → Type 0 where
  none : Over w [] []
  more : {p : Fraction} {a : ℤ} {x : List Fraction} {y : List ℤ} → IsRatio p a w → Over w x y → Over w (p ∷ x) (a ∷ y)

pub over_at : {w : ℕ} {x : List Fraction} {y : List ℤ} → 1 ≤ w → Over w x y → (i : ℕ) → IsRatio (get_or x i (integer (pos 0))) (get_or y i (pos 0)) w
over_at h none i = zero_over h
over_at h (more e o) zero = e
over_at h (more e o) (suc i) = over_at h o i

pub over_fractions : (v : List ℤ) → Over 1 (fractions v) v
unfolding fractions
over_fractions [] = none
over_fractions (a ∷ v) = more (integer_value a) (over_fractions v)

-- ---- Differences and inner products

pub over_difference : {w : ℕ} {x : List Fraction} {y : List ℤ} → Over w x y → (u : List ℤ) → Over w (difference x (fractions u)) (subtract y (scale w u))
unfolding difference fractions subtract scale
over_difference none u = none
over_difference (more e o) [] = none
over_difference (more e o) (b ∷ u) = more (subtract_value e (integer_over b e.above_zero)) (over_difference o u)

pub over_inner : (fs : List ℕ) {w v : ℕ} {x s : List Fraction} {y z : List ℤ} → 1 ≤ w → 1 ≤ v → Over w x y → Over v s z → IsRatio (inner_product fs x s) (weighted fs y z) (w * v)
unfolding inner_product weighted
over_inner [] hw hv n o = zero_over (one-le-mul hw hv)
over_inner (f ∷ fs) hw hv none o = zero_over (one-le-mul hw hv)
over_inner (f ∷ fs) hw hv (more d n) none = zero_over (one-le-mul hw hv)
over_inner (f ∷ fs) hw hv (more d n) (more e o) = add_value (rw one-mul at (multiply_value (integer_value (pos f)) (multiply_value d e))) (over_inner fs hw hv n o)

pub over_linear_form : (fs : List ℕ) {w : ℕ} {g : List Fraction} {r : List ℤ} → 1 ≤ w → Over w g r → (rs : List (List ℤ)) → Over w (linear_form fs g rs) (scores fs r rs)
unfolding linear_form scores
over_linear_form fs h o [] = none
over_linear_form fs {w} h o (v ∷ vs) = more (rw mul-one at (over_inner fs h (omega arith) o (over_fractions v))) (over_linear_form fs h o vs)

pub over_gap_terms : (fs : List ℕ) {w : ℕ} {g x : List Fraction} {r y : List ℤ} → 1 ≤ w → Over w g r → Over w x y → (rs : List (List ℤ)) →
    Over (w * w) (gap_terms fs g x rs) (gaps fs r y w rs)
unfolding gap_terms gaps
over_gap_terms fs h n o [] = none
over_gap_terms fs h n o (v ∷ vs) = more (over_inner fs h h n (over_difference o v)) (over_gap_terms fs h n o vs)

-- ---- The least and the greatest

over_any_below : {w : ℕ} {p : Fraction} {a : ℤ} {x : List Fraction} {y : List ℤ} → IsRatio p a w → Over w x y → any_below p x ≡ any_belowℤ a y
unfolding any_below any_belowℤ
over_any_below e none = refl
over_any_below e (more d o) = ap₂ (λ s t. s || t) (lt_value d e) (over_any_below e o)

over_first_minimizer : {w : ℕ} {x : List Fraction} {y : List ℤ} → Over w x y → first_minimizer x ≡ first_minimizerℤ y
unfolding first_minimizer first_minimizerℤ
over_first_minimizer none = refl
over_first_minimizer (more e o) = ap₂ (λ t n. cond t (suc n) 0) (over_any_below e o) (over_first_minimizer o)

-- the lowest-numbered of least score
pub over_argmin : {w : ℕ} {x : List Fraction} {y : List ℤ} → Over w x y → first_minimizer x ≡ argmin y
over_argmin {y} o = over_first_minimizer o ∙ sym (argmin_first y)

-- the lowest-numbered of least score and weight above 0
pub over_active : (i o : ℕ) {w v : ℕ} {all xs ws : List Fraction} {bs ps : List ℤ} (qs : List ℕ) → 1 ≤ v → 1 ≤ length bs →
    Over w all bs → Over w xs ps → Over v ws (integers qs) → active_minimizer i all o ws xs ≡ active_from i (minimum bs) o qs ps
unfolding active_minimizer active_from integers
over_active i o [] hv h a n none = refl
over_active i o (q ∷ qs) hv h a none (more e m) = refl
over_active i o {bs = bs} (q ∷ qs) hv h a (more {a = b} d n) (more e m) =
    ap₂ (λ t k. cond t i k)
    (ap₂ (λ s t. s && t) (lt_value (zero_over hv) e) (ap not (over_any_below d a ∙ any_below_minimum b bs h) ∙ sym (le_not_lt b (minimum bs))))
    (over_active (suc i) o qs hv h a n m)

none_active : (i o n : ℕ) (all xs : List Fraction) → active_minimizer i all o (replicate n (integer (pos 0))) xs ≡ o
unfolding active_minimizer lt_q
none_active i o zero all xs = refl
none_active i o (suc n) all [] = refl
none_active i o (suc n) all (x ∷ xs) = none_active (suc i) o n all xs

-- where all weight is at the first vertex, which is the lowest-numbered of any, the vertex is the lowest-numbered of least score
pub first_active : (n : ℕ) (xs : List Fraction) → active_minimizer 0 xs (first_minimizer xs) (unit_vector n 0) xs ≡ first_minimizer xs
unfolding active_minimizer unit_vector first_minimizer any_below
first_active zero xs = refl
first_active (suc n) [] = refl
first_active (suc n) (x ∷ xs) =
    ap (λ k. cond (lt_q (integer (pos 0)) (integer (pos 1)) && not (lt_q x x || any_below x xs)) 0 k)
    (none_active 1 (cond (any_below x xs) (suc (first_minimizer xs)) 0) n (x ∷ xs) xs)
    ∙ by (lt_q (integer (pos 0)) (integer (pos 1))) (lt_q x x) (any_below x xs)
  where
    by : (s t b : Bool) → cond (s && not (t || b)) 0 (cond b (suc (first_minimizer xs)) 0) ≡ cond b (suc (first_minimizer xs)) 0
    by false t b = refl
    by true true b = refl
    by true false true = refl
    by true false false = refl

over_greatest_from : {w : ℕ} {m : Fraction} {a : ℤ} {x : List Fraction} {y : List ℤ} → IsRatio m a w → Over w x y → IsRatio (greatest_from m x) (maximum_from a y) w
unfolding greatest_from maximum_from
over_greatest_from e none = e
over_greatest_from {w} {m} {a} e (more {p} {a = b} {x} {y} d o) = rw (lt_value e d) (go (lt_z a b) (over_greatest_from d o) (over_greatest_from e o))
  where
    go : (t : Bool) → IsRatio (greatest_from p x) (maximum_from b y) w → IsRatio (greatest_from m x) (maximum_from a y) w →
        IsRatio (greatest_from (cond t p m) x) (cond t (maximum_from b y) (maximum_from a y)) w
    go true h k = h
    go false h k = k

pub over_greatest : {w : ℕ} {x : List Fraction} {y : List ℤ} → 1 ≤ w → Over w x y → IsRatio (greatest x) (maximum y) w
unfolding greatest maximum
over_greatest h none = zero_over h
over_greatest h (more e o) = over_greatest_from e o

-- ---- A step

-- γ = a / (w + a): the shares a of the step over the total that includes them
step_ratio_fixed : (t w : ℕ) → 2 * w ≡ t * (t + 1) → IsRatio (step_size fixed t) (pos (suc t)) (w + suc t)
unfolding step_size
step_ratio_fixed t w h =
    same_value (ratio_value (pos 2) (t + 1)) (omega arith)
    (rw (← add-one t)
    (solve (pos t ∷ pos w ∷ []) (two ⊗ (x₁ ⊕ (x₀ ⊕ one))) ((x₀ ⊕ one) ⊗ (x₀ ⊕ one ⊕ one) ⊕ one ⊗ (two ⊗ x₁ ⊝ x₀ ⊗ (x₀ ⊕ one))) tt ∙ plus_equation _ (pos 1) (ap pos h)))

pub step_ratio : (a : Schedule) (t : ℕ) → 1 ≤ weight a (suc t) → IsRatio (step_size a t) (pos (share a t)) (weight a (suc t))
unfolding share
step_ratio fixed t h = rw (weight_suc fixed t) (step_ratio_fixed t (weight fixed t) (weight_twice t))
step_ratio (lent table) t h =
    unfold step_size in
    unfold weight in
    let w = sum (take (suc t) table) in
    let e : w - 1 + 1 ≡ w = omega (arith, h) in
    rw e at (ratio_value (pos (get_or table t 0)) (w - 1))

-- (1 - γ) p + γ b, with p = y / w and γ = a / (w + a), is (y + a b) / (w + a)
move_value : (a : ℕ) (b : ℤ) {γ p : Fraction} {y : ℤ} {w : ℕ} → IsRatio γ (pos a) (w + a) → IsRatio p y w →
    IsRatio ((integer (pos 1) -ℚ γ) *ℚ p +ℚ γ *ℚ integer b) (y +ℤ pos a *ℤ b) (w + a)
move_value a b {γ} {p} {y} {w} g e =
    same_value
    (add_value (multiply_value (subtract_value (integer_over (pos 1) g.above_zero) g) e)
    (same_value (multiply_value g (integer_value b)) (one-le-mul g.above_zero e.above_zero)
    (solve (pos a ∷ b ∷ pos w ∷ []) (x₀ ⊗ x₁ ⊗ ((x₂ ⊕ x₀) ⊗ x₂)) (x₀ ⊗ x₁ ⊗ x₂ ⊗ ((x₂ ⊕ x₀) ⊗ one)) tt)))
    g.above_zero
    (solve (pos a ∷ b ∷ y ∷ pos w ∷ []) (((((x₃ ⊕ x₀) ⊗ one) ⊝ x₀) ⊗ x₂ ⊕ x₀ ⊗ x₁ ⊗ x₃) ⊗ (x₃ ⊕ x₀)) ((x₂ ⊕ x₀ ⊗ x₁) ⊗ ((x₃ ⊕ x₀) ⊗ x₃)) tt)

-- the first step, γ = 1, leaves nothing of the point that it starts from
first_value : (a : ℕ) (b : ℤ) {γ : Fraction} (p : Fraction) → IsRatio γ (pos a) a → IsRatio ((integer (pos 1) -ℚ γ) *ℚ p +ℚ γ *ℚ integer b) (pos 0 +ℤ pos a *ℤ b) a
first_value a b {γ} p g =
    let e = ratio_value p.numerator p.below in
    same_value
    (add_value (multiply_value (subtract_value (integer_over (pos 1) g.above_zero) g) e)
    (same_value (multiply_value g (integer_value b)) (one-le-mul g.above_zero e.above_zero)
    (solve (pos a ∷ b ∷ pos p.below ∷ []) (x₀ ⊗ x₁ ⊗ (x₀ ⊗ (x₂ ⊕ one))) (x₀ ⊗ x₁ ⊗ (x₂ ⊕ one) ⊗ (x₀ ⊗ one)) tt)))
    g.above_zero
    (solve (pos a ∷ b ∷ p.numerator ∷ pos p.below ∷ []) (((x₀ ⊗ one ⊝ x₀) ⊗ x₂ ⊕ x₀ ⊗ x₁ ⊗ (x₃ ⊕ one)) ⊗ x₀) ((O ⊕ x₀ ⊗ x₁) ⊗ (x₀ ⊗ (x₃ ⊕ one))) tt)

pub over_step : {γ : Fraction} (a : ℕ) {w : ℕ} {x : List Fraction} {y : List ℤ} → IsRatio γ (pos a) (w + a) → Over w x y → (v : List ℤ) →
    Over (w + a) (move γ x (fractions v)) (add y (scale a v))
unfolding move fractions add scale
over_step a g none v = none
over_step a g (more e o) [] = none
over_step a g (more e o) (b ∷ v) = more (move_value a b g e) (over_step a g o v)

pub over_first : {γ : Fraction} (a : ℕ) → IsRatio γ (pos a) a → (x : List Fraction) (v : List ℤ) → Over a (move γ x (fractions v)) (add (replicate (length x) (pos 0)) (scale a v))
unfolding move fractions add scale
over_first a g [] v = none
over_first a g (p ∷ x) [] = none
over_first a g (p ∷ x) (b ∷ v) = more (first_value a b p g) (over_first a g x v)
