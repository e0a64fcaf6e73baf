-- Lists of integers, as vectors of the theorem: `factored fs`, with a natural factor for each column, is a space;
-- sums, multiples and mixtures of lists are those of the theorem. Assumes nothing.
use mathlib.Core.Path.{◌≡◌, refl, sym, ap, ap₂, ◌∙◌}
use mathlib.Core.List.{List, [], ◌∷◌}
use Prim.Native.Nat.{ℕ, zero, suc, ◌+◌, ◌*◌, ◌<◌}
use native.Mathlib.Omega.{arith}
use native.Mathlib.Nat.{add_comm}
use lib.IntN.{ℤ, pos, negsuc, ◌+ℤ◌, ◌-ℤ◌, ◌*ℤ◌, *ℤ_comm}
use lib.ListN.{length, get_or, set, replicate, length-replicate}
use lib.Signed.{◌≤ℤ◌}
use Rattle.integers.proofs.Solver.{Expr, con, ◌⊕◌, ◌⊗◌, ⊖◌, ◌⊝◌, x₀, x₁, x₂, x₃, x₄, x₅, x₆, x₇, solve}
use Rattle.integers.proofs.Facts.{◌≼◌, known, nat, square, equation, ◌⊞◌, ◌⊡◌, derive}
use Rattle.frank_wolfe.specs.Method.{Space, Plus, Residual, Mixture, none, more}
use Rattle.frank_wolfe.specs.Theorem.{Compared}
use Rattle.frank_wolfe.specs.Vectors.{add, subtract, scale, inner, weighted, weighted_norm, ones, squared_norm, Among, here, there, sum, combination}
use Rattle.frank_wolfe.proofs.Mixtures.{nonneg}

abbrev O : Expr
O = con (pos 0)

abbrev two : Expr
two = con (pos 2)

-- ---- The inner product with a factor for each column

weighted_nil : (fs : List ℕ) (x : List ℤ) → weighted fs x [] ≡ pos 0
unfolding weighted
weighted_nil [] x = refl
weighted_nil (f ∷ fs) [] = refl
weighted_nil (f ∷ fs) (a ∷ x) = refl

pub weighted_symmetric : (fs : List ℕ) (x y : List ℤ) → weighted fs x y ≡ weighted fs y x
unfolding weighted
weighted_symmetric [] x y = refl
weighted_symmetric (f ∷ fs) [] y = sym (weighted_nil (f ∷ fs) y)
weighted_symmetric (f ∷ fs) (a ∷ x) [] = refl
weighted_symmetric (f ∷ fs) (a ∷ x) (b ∷ y) = ap₂ (λ p q. pos f *ℤ p +ℤ q) (*ℤ_comm a b) (weighted_symmetric fs x y)

-- a² p + 2 a b q + b² r, with a and b for x₀ and x₁
abbrev form : (p q r : Expr) → Expr
form p q r = x₀ ⊗ x₀ ⊗ p ⊕ two ⊗ x₀ ⊗ x₁ ⊗ q ⊕ x₁ ⊗ x₁ ⊗ r

pub weighted_positive : (fs : List ℕ) (a b : ℤ) (x y : List ℤ) →
    pos 0 ≤ℤ (a *ℤ a *ℤ weighted fs x x +ℤ pos 2 *ℤ a *ℤ b *ℤ weighted fs x y +ℤ b *ℤ b *ℤ weighted fs y y)
unfolding weighted
weighted_positive [] a b x y = derive (a ∷ b ∷ []) (O ≼ form O O O) (nat 0) tt
weighted_positive (f ∷ fs) a b [] [] = derive (a ∷ b ∷ []) (O ≼ form O O O) (nat 0) tt
weighted_positive (f ∷ fs) a b [] (d ∷ y) =
    derive (a ∷ b ∷ pos f ∷ d ∷ weighted fs y y ∷ weighted fs [] [] ∷ weighted fs [] y ∷ []) (O ≼ form O O (x₂ ⊗ (x₃ ⊗ x₃) ⊕ x₄))
    (known (O ≼ x₂) (nonneg f) ⊡ square (x₁ ⊗ x₃) ⊞ known (O ≼ form x₅ x₆ x₄) (weighted_positive fs a b [] y)
    ⊞ equation (⊖ x₀ ⊗ x₀) x₅ O (weighted_nil fs []) ⊞ equation (⊖ two ⊗ x₀ ⊗ x₁) x₆ O (weighted_symmetric fs [] y ∙ weighted_nil fs y)) tt
weighted_positive (f ∷ fs) a b (c ∷ x) [] =
    derive (a ∷ b ∷ pos f ∷ c ∷ weighted fs x x ∷ weighted fs x [] ∷ weighted fs [] [] ∷ []) (O ≼ form (x₂ ⊗ (x₃ ⊗ x₃) ⊕ x₄) O O)
    (known (O ≼ x₂) (nonneg f) ⊡ square (x₀ ⊗ x₃) ⊞ known (O ≼ form x₄ x₅ x₆) (weighted_positive fs a b x [])
    ⊞ equation (⊖ two ⊗ x₀ ⊗ x₁) x₅ O (weighted_nil fs x) ⊞ equation (⊖ x₁ ⊗ x₁) x₆ O (weighted_nil fs [])) tt
weighted_positive (f ∷ fs) a b (c ∷ x) (d ∷ y) =
    derive (a ∷ b ∷ pos f ∷ c ∷ d ∷ weighted fs x x ∷ weighted fs x y ∷ weighted fs y y ∷ [])
    (O ≼ form (x₂ ⊗ (x₃ ⊗ x₃) ⊕ x₅) (x₂ ⊗ (x₃ ⊗ x₄) ⊕ x₆) (x₂ ⊗ (x₄ ⊗ x₄) ⊕ x₇))
    (known (O ≼ x₂) (nonneg f) ⊡ square (x₀ ⊗ x₃ ⊕ x₁ ⊗ x₄) ⊞ known (O ≼ form x₅ x₆ x₇) (weighted_positive fs a b x y)) tt

abbrev pub factored : List ℕ → Space
factored fs = record { Vec = List ℤ; inner = weighted fs; symmetric = weighted_symmetric fs; positive = weighted_positive fs }

-- ---- Every factor 1

pub weighted_ones : (c : ℕ) (x y : List ℤ) → length x ≡ c → weighted (ones c) x y ≡ inner x y
unfolding weighted inner
weighted_ones zero [] y e = refl
weighted_ones zero (a ∷ x) y e = absurd (omega arith)
weighted_ones (suc c) [] y e = absurd (omega arith)
weighted_ones (suc c) (a ∷ x) [] e = refl
weighted_ones (suc c) (a ∷ x) (b ∷ y) e = ap₂ (λ p q. p +ℤ q) (solve ((a *ℤ b) ∷ []) (con (pos 1) ⊗ x₀) x₀ tt) (weighted_ones c x y (omega arith))

pub norm_ones : (c : ℕ) (x : List ℤ) → length x ≡ c → weighted_norm (ones c) x ≡ squared_norm x
unfolding weighted_norm squared_norm
norm_ones zero [] e = refl
norm_ones zero (a ∷ x) e = absurd (omega arith)
norm_ones (suc c) [] e = absurd (omega arith)
norm_ones (suc c) (a ∷ x) e = let h : weighted_norm (ones c) x ≡ squared_norm x = norm_ones c x (omega arith) in omega arith

-- ---- Sums and multiples

pub weighted_add : (fs : List ℕ) (x y z : List ℤ) → length y ≡ length z → weighted fs x (add y z) ≡ weighted fs x y +ℤ weighted fs x z
unfolding weighted add
weighted_add [] x y z e = refl
weighted_add (f ∷ fs) [] y z e = refl
weighted_add (f ∷ fs) (a ∷ x) [] [] e = refl
weighted_add (f ∷ fs) (a ∷ x) [] (c ∷ z) e = absurd (omega arith)
weighted_add (f ∷ fs) (a ∷ x) (b ∷ y) [] e = absurd (omega arith)
weighted_add (f ∷ fs) (a ∷ x) (b ∷ y) (c ∷ z) e =
    ap (λ q. pos f *ℤ (a *ℤ (b +ℤ c)) +ℤ q) (weighted_add fs x y z (omega arith))
    ∙ solve (pos f ∷ a ∷ b ∷ c ∷ weighted fs x y ∷ weighted fs x z ∷ [])
    (x₀ ⊗ (x₁ ⊗ (x₂ ⊕ x₃)) ⊕ (x₄ ⊕ x₅)) (x₀ ⊗ (x₁ ⊗ x₂) ⊕ x₄ ⊕ (x₀ ⊗ (x₁ ⊗ x₃) ⊕ x₅)) tt

pub weighted_subtract : (fs : List ℕ) (x y z : List ℤ) → length y ≡ length z → weighted fs x (subtract y z) ≡ weighted fs x y -ℤ weighted fs x z
unfolding weighted subtract
weighted_subtract [] x y z e = refl
weighted_subtract (f ∷ fs) [] y z e = refl
weighted_subtract (f ∷ fs) (a ∷ x) [] [] e = refl
weighted_subtract (f ∷ fs) (a ∷ x) [] (c ∷ z) e = absurd (omega arith)
weighted_subtract (f ∷ fs) (a ∷ x) (b ∷ y) [] e = absurd (omega arith)
weighted_subtract (f ∷ fs) (a ∷ x) (b ∷ y) (c ∷ z) e =
    ap (λ q. pos f *ℤ (a *ℤ (b -ℤ c)) +ℤ q) (weighted_subtract fs x y z (omega arith))
    ∙ solve (pos f ∷ a ∷ b ∷ c ∷ weighted fs x y ∷ weighted fs x z ∷ [])
    (x₀ ⊗ (x₁ ⊗ (x₂ ⊝ x₃)) ⊕ (x₄ ⊝ x₅)) (x₀ ⊗ (x₁ ⊗ x₂) ⊕ x₄ ⊝ (x₀ ⊗ (x₁ ⊗ x₃) ⊕ x₅)) tt

pub weighted_scale : (fs : List ℕ) (x : List ℤ) (k : ℕ) (y : List ℤ) → weighted fs x (scale k y) ≡ pos k *ℤ weighted fs x y
unfolding weighted scale
weighted_scale [] x k y = solve (pos k ∷ []) O (x₀ ⊗ O) tt
weighted_scale (f ∷ fs) [] k y = solve (pos k ∷ []) O (x₀ ⊗ O) tt
weighted_scale (f ∷ fs) (a ∷ x) k [] = solve (pos k ∷ []) O (x₀ ⊗ O) tt
weighted_scale (f ∷ fs) (a ∷ x) k (b ∷ y) =
    ap (λ q. pos f *ℤ (a *ℤ (pos k *ℤ b)) +ℤ q) (weighted_scale fs x k y)
    ∙ solve (pos f ∷ a ∷ pos k ∷ b ∷ weighted fs x y ∷ []) (x₀ ⊗ (x₁ ⊗ (x₂ ⊗ x₃)) ⊕ x₂ ⊗ x₄) (x₂ ⊗ (x₀ ⊗ (x₁ ⊗ x₃) ⊕ x₄)) tt

pub weighted_zero : (fs : List ℕ) (x : List ℤ) (c : ℕ) → weighted fs x (replicate c (pos 0)) ≡ pos 0
unfolding weighted
weighted_zero [] x c = refl
weighted_zero (f ∷ fs) [] c = refl
weighted_zero (f ∷ fs) (a ∷ x) zero = refl
weighted_zero (f ∷ fs) (a ∷ x) (suc c) = ap (λ q. pos f *ℤ (a *ℤ pos 0) +ℤ q) (weighted_zero fs x c) ∙ solve (pos f ∷ a ∷ []) (x₀ ⊗ (x₁ ⊗ O) ⊕ O) O tt

-- ---- Lengths

pub length_add : (x y : List ℤ) → length x ≡ length y → length (add x y) ≡ length x
unfolding add
length_add [] y e = refl
length_add (a ∷ x) [] e = absurd (omega arith)
length_add (a ∷ x) (b ∷ y) e = ap suc (length_add x y (omega arith))

pub length_subtract : (x y : List ℤ) → length x ≡ length y → length (subtract x y) ≡ length x
unfolding subtract
length_subtract [] y e = refl
length_subtract (a ∷ x) [] e = absurd (omega arith)
length_subtract (a ∷ x) (b ∷ y) e = ap suc (length_subtract x y (omega arith))

pub length_scale : (k : ℕ) (x : List ℤ) → length (scale k x) ≡ length x
unfolding scale
length_scale k [] = refl
length_scale k (a ∷ x) = ap suc (length_scale k x)

-- ---- Sums and multiples, as lists

pub scale_one : (x : List ℤ) → scale 1 x ≡ x
unfolding scale
scale_one [] = refl
scale_one (a ∷ x) = ap₂ ◌∷◌ (solve (a ∷ []) (con (pos 1) ⊗ x₀) x₀ tt) (scale_one x)

pub add_associative : (x y z : List ℤ) → add (add x y) z ≡ add x (add y z)
unfolding add
add_associative [] y z = refl
add_associative (a ∷ x) [] z = refl
add_associative (a ∷ x) (b ∷ y) [] = refl
add_associative (a ∷ x) (b ∷ y) (d ∷ z) = ap₂ ◌∷◌ (solve (a ∷ b ∷ d ∷ []) (x₀ ⊕ x₁ ⊕ x₂) (x₀ ⊕ (x₁ ⊕ x₂)) tt) (add_associative x y z)

-- (q v + z) + k v = (q + k) v + z
pub scale_more : (q k : ℕ) (v z : List ℤ) → add (add (scale q v) z) (scale k v) ≡ add (scale (q + k) v) z
unfolding add scale
scale_more q k [] z = refl
scale_more q k (a ∷ v) [] = refl
scale_more q k (a ∷ v) (b ∷ z) =
    ap₂ ◌∷◌ (solve (pos q ∷ pos k ∷ a ∷ b ∷ []) (x₀ ⊗ x₂ ⊕ x₃ ⊕ x₁ ⊗ x₂) ((x₀ ⊕ x₁) ⊗ x₂ ⊕ x₃) tt) (scale_more q k v z)

-- (y + k s) - (w + k) u = (y - w u) + k (s - u)
pub residual_more : (y s u : List ℤ) (w k : ℕ) → subtract (add y (scale k s)) (scale (w + k) u) ≡ add (subtract y (scale w u)) (scale k (subtract s u))
unfolding add subtract scale
residual_more [] s u w k = refl
residual_more (a ∷ y) [] [] w k = refl
residual_more (a ∷ y) [] (d ∷ u) w k = refl
residual_more (a ∷ y) (b ∷ s) [] w k = refl
residual_more (a ∷ y) (b ∷ s) (d ∷ u) w k =
    ap₂ ◌∷◌ (solve (a ∷ b ∷ d ∷ pos w ∷ pos k ∷ []) (x₀ ⊕ x₄ ⊗ x₁ ⊝ (x₃ ⊕ x₄) ⊗ x₂) (x₀ ⊝ x₃ ⊗ x₂ ⊕ x₄ ⊗ (x₁ ⊝ x₂)) tt) (residual_more y s u w k)

-- 0 - 0 u = 0
pub subtract_zero : (c : ℕ) (u : List ℤ) → length u ≡ c → subtract (replicate c (pos 0)) (scale 0 u) ≡ replicate c (pos 0)
unfolding subtract scale
subtract_zero zero u e = refl
subtract_zero (suc c) [] e = absurd (omega arith)
subtract_zero (suc c) (a ∷ u) e = ap₂ ◌∷◌ (solve (a ∷ []) (O ⊝ O ⊗ x₀) O tt) (subtract_zero c u (omega arith))

-- 0 v + 0 = 0
add_zero : (c : ℕ) (v : List ℤ) → length v ≡ c → add (scale 0 v) (replicate c (pos 0)) ≡ replicate c (pos 0)
unfolding add scale
add_zero zero [] e = refl
add_zero zero (a ∷ v) e = absurd (omega arith)
add_zero (suc c) [] e = absurd (omega arith)
add_zero (suc c) (a ∷ v) e = ap₂ ◌∷◌ (solve (a ∷ []) (O ⊗ x₀ ⊕ O) O tt) (add_zero c v (omega arith))

-- ---- What the theorem asks of vectors, by lists of one length

pub plus_is : (fs : List ℕ) (y : List ℤ) (k : ℕ) (s : List ℤ) → length y ≡ length s → Plus (factored fs) y (pos k) s (add y (scale k s))
plus_is fs y k s e = record { along = λ x. weighted_add fs x y (scale k s) (e ∙ sym (length_scale k s)) ∙ ap (λ q. weighted fs x y +ℤ q) (weighted_scale fs x k s) }

pub residual_is : (fs : List ℕ) (y : List ℤ) (w : ℕ) (u : List ℤ) → length y ≡ length u → Residual (factored fs) y (pos w) u (subtract y (scale w u))
residual_is fs y w u e = record { along = λ x. weighted_subtract fs x y (scale w u) (e ∙ sym (length_scale w u)) ∙ ap (λ q. weighted fs x y -ℤ q) (weighted_scale fs x w u) }

-- every row has so many columns
pub record Wide (c : ℕ) (vs : List (List ℤ)) : Type 0 where
  pub each : (v : List ℤ) → Among vs v → length v ≡ c

pub wide_rest : {c : ℕ} {v : List ℤ} {vs : List (List ℤ)} → Wide c (v ∷ vs) → Wide c vs
wide_rest w = record { each = λ v a. w.each v (there a) }

pub length_combination : (c : ℕ) (qs : List ℕ) (vs : List (List ℤ)) → Wide c vs → length (combination c qs vs) ≡ c
unfolding combination
length_combination c [] vs w = length-replicate c (pos 0)
length_combination c (q ∷ qs) [] w = length-replicate c (pos 0)
length_combination c (q ∷ qs) (v ∷ vs) w =
    length_add (scale q v) (combination c qs vs) (length_scale q v ∙ w.each v here ∙ sym (length_combination c qs vs (wide_rest w))) ∙ length_scale q v ∙ w.each v here

-- ---- Lists of shares

pub sum_zero : (n : ℕ) → sum (replicate n 0) ≡ 0
unfolding sum
sum_zero zero = refl
sum_zero (suc n) = omega (arith, sum_zero n)

pub sum_ones : (n : ℕ) → sum (ones n) ≡ n
unfolding sum
sum_ones zero = refl
sum_ones (suc n) = omega (arith, sum_ones n)

pub combination_zero : (c : ℕ) (vs : List (List ℤ)) → Wide c vs → combination c (replicate (length vs) 0) vs ≡ replicate c (pos 0)
unfolding combination
combination_zero c [] wide = refl
combination_zero c (v ∷ vs) wide = rw (combination_zero c vs (wide_rest wide)) (add_zero c v (wide.each v here))

-- k shares more at i
pub sum_set : (qs : List ℕ) (i k : ℕ) → i < length qs → sum (set qs i (get_or qs i 0 + k)) ≡ sum qs + k
unfolding sum
sum_set [] i k h = absurd (omega arith)
sum_set (q ∷ qs) zero k h = omega arith
sum_set (q ∷ qs) (suc i) k h = omega (arith, sum_set qs i k (omega arith))

pub combination_set : (c : ℕ) (qs : List ℕ) (vs : List (List ℤ)) (i k : ℕ) → length qs ≡ length vs → i < length qs →
    add (combination c qs vs) (scale k (get_or vs i [])) ≡ combination c (set qs i (get_or qs i 0 + k)) vs
unfolding combination
combination_set c [] vs i k e h = absurd (omega arith)
combination_set c (q ∷ qs) [] i k e h = absurd (omega arith)
combination_set c (q ∷ qs) (v ∷ vs) zero k e h = scale_more q k v (combination c qs vs)
combination_set c (q ∷ qs) (v ∷ vs) (suc i) k e h =
    add_associative (scale q v) (combination c qs vs) (scale k (get_or vs i [])) ∙ ap (add (scale q v)) (combination_set c qs vs i k (omega arith) (omega arith))

mixture_among : (fs : List ℕ) (rs : List (List ℤ)) (c : ℕ) (qs : List ℕ) (vs : List (List ℤ)) → length qs ≡ length vs → Wide c vs → ((v : List ℤ) → Among vs v → Among rs v) →
    Mixture (factored fs) (Among rs) (sum qs) (combination c qs vs)
unfolding sum combination
mixture_among fs rs c [] vs e w f = none (record { along = λ x. weighted_zero fs x c })
mixture_among fs rs c (q ∷ qs) [] e w f = absurd (omega arith)
mixture_among fs rs c (q ∷ qs) (v ∷ vs) e w f =
    rw (add_comm q (sum qs))
    (more (mixture_among fs rs c qs vs (omega arith) (wide_rest w) (λ v a. f v (there a))) (f v here)
    (record {
      along = λ x.
          weighted_add fs x (scale q v) (combination c qs vs) (length_scale q v ∙ w.each v here ∙ sym (length_combination c qs vs (wide_rest w)))
          ∙ ap (λ p. p +ℤ weighted fs x (combination c qs vs)) (weighted_scale fs x q v)
          ∙ solve (pos q ∷ weighted fs x v ∷ weighted fs x (combination c qs vs) ∷ []) (x₀ ⊗ x₁ ⊕ x₂) (x₂ ⊕ x₀ ⊗ x₁) tt;
    }))

-- a list of shares, one a row, is a mixture of the rows
pub mixture_is : (fs : List ℕ) (c : ℕ) (qs : List ℕ) (vs : List (List ℤ)) → length qs ≡ length vs → Wide c vs → Mixture (factored fs) (Among vs) (sum qs) (combination c qs vs)
mixture_is fs c qs vs e w = mixture_among fs vs c qs vs e w (λ v a. a)

pub compared_is : (fs : List ℕ) (c : ℕ) (u : List ℤ) (qs : List ℕ) (vs : List (List ℤ)) → length u ≡ c → length qs ≡ length vs → Wide c vs →
    Compared (factored fs) (Among vs) u (sum qs) (combination c qs vs) (subtract (combination c qs vs) (scale (sum qs) u))
compared_is fs c u qs vs hu e w =
    record { mixture = mixture_is fs c qs vs e w; residual = residual_is fs (combination c qs vs) (sum qs) u (length_combination c qs vs w ∙ sym hu) }

pub norm_weighted : (fs : List ℕ) (x : List ℤ) → pos (weighted_norm fs x) ≡ weighted fs x x
unfolding weighted_norm weighted
norm_weighted [] x = refl
norm_weighted (f ∷ fs) [] = refl
norm_weighted (f ∷ fs) (pos n ∷ x) = ap (λ p. pos (f * (n * n)) +ℤ p) (norm_weighted fs x)
norm_weighted (f ∷ fs) (negsuc n ∷ x) = ap (λ p. pos (f * (suc n * suc n)) +ℤ p) (norm_weighted fs x)
