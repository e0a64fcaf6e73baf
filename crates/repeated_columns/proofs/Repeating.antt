-- A problem with factors and its plain one, whose columns stand as often as the factors say, have the same scores, gaps, shares and answers;
-- the plain one's points are the other's, repeated. Assumes nothing.
use mathlib.Core.Path.{◌≡◌, refl, sym, ap, ap₂, ◌∙◌}
use mathlib.Core.List.{List, [], ◌∷◌, ◌++◌, map}
use Prim.Native.Nat.{ℕ, zero, suc, ◌+◌, max}
use native.Mathlib.Numerals.{add-one}
use native.Mathlib.Omega.{arith}
use lib.IntN.{ℤ, pos, nat_abs, ◌+ℤ◌, ◌-ℤ◌, ◌*ℤ◌}
use lib.ListN.{length, get_or, replicate, length-append, length-map, length-replicate, get_or-map, replicate-append-replicate}
use Rattle.integers.proofs.Solver.{con, ◌⊕◌, ◌⊗◌, x₀, x₁, x₂, x₃, solve}
use Rattle.frank_wolfe.specs.Vectors.{add, subtract, scale, weighted, weighted_norm, sum, combination}
use Rattle.frank_wolfe.proofs.Vectors.{weighted_symmetric, weighted_zero, norm_weighted}
use Rattle.method.specs.declared.Test.{Test}
use Rattle.method.specs.declared.Test.TheVariants.{Sharper}
use Rattle.method.specs.Problem.{Problem, share, weight}
use Rattle.method.specs.Iterates.{Iterate, start, residual, row, direction, scores, active_argmin, pick, with_shares, step, iterate, distance, gaps, signed_gap, gap, farthest, row_diameter}
use Rattle.method.specs.Answers.{answer_at, steps_from, steps_used, run_iterate, run_answer}
use Rattle.method.specs.Bounds.{mixture_iterate, answer_of}
use Rattle.repeated_columns.specs.Repeating.{repeated, repeated_iterate, plain_of, PlainTwin}
use Rattle.method.proofs.Running.{next}

-- ---- One entry, f times

weighted_times : (f : ℕ) (a b : ℤ) (gs : List ℕ) (x y : List ℤ) →
    weighted (replicate f 1 ++ gs) (replicate f a ++ x) (replicate f b ++ y) ≡ pos f *ℤ (a *ℤ b) +ℤ weighted gs x y
unfolding weighted
weighted_times zero a b gs x y = solve (a ∷ b ∷ weighted gs x y ∷ []) x₂ (con (pos 0) ⊗ (x₀ ⊗ x₁) ⊕ x₂) tt
weighted_times (suc f) a b gs x y =
    ap (λ q. pos 1 *ℤ (a *ℤ b) +ℤ q) (weighted_times f a b gs x y)
    ∙ rw add-one at (solve (pos f ∷ a ∷ b ∷ weighted gs x y ∷ []) (con (pos 1) ⊗ (x₁ ⊗ x₂) ⊕ (x₀ ⊗ (x₁ ⊗ x₂) ⊕ x₃)) ((x₀ ⊕ con (pos 1)) ⊗ (x₁ ⊗ x₂) ⊕ x₃) tt)

add_times : (f : ℕ) (a b : ℤ) (x y : List ℤ) → add (replicate f a ++ x) (replicate f b ++ y) ≡ replicate f (a +ℤ b) ++ add x y
unfolding add
add_times zero a b x y = refl
add_times (suc f) a b x y = ap (◌∷◌ (a +ℤ b)) (add_times f a b x y)

subtract_times : (f : ℕ) (a b : ℤ) (x y : List ℤ) → subtract (replicate f a ++ x) (replicate f b ++ y) ≡ replicate f (a -ℤ b) ++ subtract x y
unfolding subtract
subtract_times zero a b x y = refl
subtract_times (suc f) a b x y = ap (◌∷◌ (a -ℤ b)) (subtract_times f a b x y)

scale_times : (k f : ℕ) (a : ℤ) (x : List ℤ) → scale k (replicate f a ++ x) ≡ replicate f (pos k *ℤ a) ++ scale k x
unfolding scale
scale_times k zero a x = refl
scale_times k (suc f) a x = ap (◌∷◌ (pos k *ℤ a)) (scale_times k f a x)

-- ---- Repeated lists

add_nil : (x : List ℤ) → add x [] ≡ []
unfolding add
add_nil [] = refl
add_nil (a ∷ x) = refl

subtract_nil : (x : List ℤ) → subtract x [] ≡ []
unfolding subtract
subtract_nil [] = refl
subtract_nil (a ∷ x) = refl

repeated_nil : (fs : List ℕ) → repeated fs [] ≡ []
unfolding repeated
repeated_nil [] = refl
repeated_nil (f ∷ fs) = refl

pub length_repeated : (fs : List ℕ) (x : List ℤ) → length x ≡ length fs → length (repeated fs x) ≡ sum fs
unfolding repeated sum
length_repeated [] x e = refl
length_repeated (f ∷ fs) [] e = absurd (omega arith)
length_repeated (f ∷ fs) (a ∷ x) e =
    length-append (replicate f a) (repeated fs x) ∙ ap₂ (λ m n. m + n) (length-replicate f a) (length_repeated fs x (omega arith))

pub repeated_add : (fs : List ℕ) (x y : List ℤ) → add (repeated fs x) (repeated fs y) ≡ repeated fs (add x y)
unfolding repeated add
repeated_add [] x y = refl
repeated_add (f ∷ fs) [] y = refl
repeated_add (f ∷ fs) (a ∷ x) [] = add_nil (replicate f a ++ repeated fs x)
repeated_add (f ∷ fs) (a ∷ x) (b ∷ y) = add_times f a b (repeated fs x) (repeated fs y) ∙ ap (◌++◌ (replicate f (a +ℤ b))) (repeated_add fs x y)

pub repeated_subtract : (fs : List ℕ) (x y : List ℤ) → subtract (repeated fs x) (repeated fs y) ≡ repeated fs (subtract x y)
unfolding repeated subtract
repeated_subtract [] x y = refl
repeated_subtract (f ∷ fs) [] y = refl
repeated_subtract (f ∷ fs) (a ∷ x) [] = subtract_nil (replicate f a ++ repeated fs x)
repeated_subtract (f ∷ fs) (a ∷ x) (b ∷ y) = subtract_times f a b (repeated fs x) (repeated fs y) ∙ ap (◌++◌ (replicate f (a -ℤ b))) (repeated_subtract fs x y)

pub repeated_scale : (fs : List ℕ) (k : ℕ) (x : List ℤ) → scale k (repeated fs x) ≡ repeated fs (scale k x)
unfolding repeated scale
repeated_scale [] k x = refl
repeated_scale (f ∷ fs) k [] = refl
repeated_scale (f ∷ fs) k (a ∷ x) = scale_times k f a (repeated fs x) ∙ ap (◌++◌ (replicate f (pos k *ℤ a))) (repeated_scale fs k x)

pub repeated_zero : (fs : List ℕ) (c : ℕ) → length fs ≡ c → replicate (sum fs) (pos 0) ≡ repeated fs (replicate c (pos 0))
unfolding repeated sum
repeated_zero [] c e = refl
repeated_zero (f ∷ fs) zero e = absurd (omega arith)
repeated_zero (f ∷ fs) (suc c) e = sym (replicate-append-replicate f (sum fs) (pos 0)) ∙ ap (◌++◌ (replicate f (pos 0))) (repeated_zero fs c (omega arith))

pub repeated_combination : (fs : List ℕ) (c : ℕ) → length fs ≡ c → (qs : List ℕ) (vs : List (List ℤ)) →
    combination (sum fs) qs (map (repeated fs) vs) ≡ repeated fs (combination c qs vs)
unfolding combination
repeated_combination fs c e [] vs = repeated_zero fs c e
repeated_combination fs c e (q ∷ qs) [] = repeated_zero fs c e
repeated_combination fs c e (q ∷ qs) (v ∷ vs) = ap₂ add (repeated_scale fs q v) (repeated_combination fs c e qs vs) ∙ repeated_add fs (scale q v) (combination c qs vs)

pub repeated_row : (fs : List ℕ) (vs : List (List ℤ)) (i : ℕ) → row (map (repeated fs) vs) i ≡ repeated fs (row vs i)
unfolding row
repeated_row fs vs i = ap (get_or (map (repeated fs) vs) i) (sym (repeated_nil fs)) ∙ get_or-map (repeated fs) vs i []

-- ---- Inner products

-- <x', y'> of the repeated vectors is the sum of factor times product
pub repeated_weighted : (fs : List ℕ) (x y : List ℤ) → weighted (replicate (sum fs) 1) (repeated fs x) (repeated fs y) ≡ weighted fs x y
unfolding weighted repeated sum
repeated_weighted [] x y = refl
repeated_weighted (f ∷ fs) [] y = weighted_symmetric (replicate (f + sum fs) 1) [] (repeated (f ∷ fs) y) ∙ weighted_zero (replicate (f + sum fs) 1) (repeated (f ∷ fs) y) 0
repeated_weighted (f ∷ fs) (a ∷ x) [] = weighted_zero (replicate (f + sum fs) 1) (repeated (f ∷ fs) (a ∷ x)) 0
repeated_weighted (f ∷ fs) (a ∷ x) (b ∷ y) =
    rw (← replicate-append-replicate {A = ℕ} f (sum fs) 1)
    (weighted_times f a b (replicate (sum fs) 1) (repeated fs x) (repeated fs y) ∙ ap (λ q. pos f *ℤ (a *ℤ b) +ℤ q) (repeated_weighted fs x y))

pub repeated_norm : (fs : List ℕ) (x : List ℤ) → weighted_norm (replicate (sum fs) 1) (repeated fs x) ≡ weighted_norm fs x
repeated_norm fs x = ap nat_abs (norm_weighted (replicate (sum fs) 1) (repeated fs x) ∙ repeated_weighted fs x x ∙ sym (norm_weighted fs x))

pub repeated_scores : (fs : List ℕ) (g : List ℤ) (vs : List (List ℤ)) → scores (replicate (sum fs) 1) (repeated fs g) (map (repeated fs) vs) ≡ scores fs g vs
unfolding scores
repeated_scores fs g [] = refl
repeated_scores fs g (v ∷ vs) = ap₂ ◌∷◌ (repeated_weighted fs g v) (repeated_scores fs g vs)

pub repeated_gaps : (fs : List ℕ) (r y : List ℤ) (w : ℕ) (vs : List (List ℤ)) →
    gaps (replicate (sum fs) 1) (repeated fs r) (repeated fs y) w (map (repeated fs) vs) ≡ gaps fs r y w vs
unfolding gaps
repeated_gaps fs r y w [] = refl
repeated_gaps fs r y w (v ∷ vs) =
    ap₂ ◌∷◌ (rw (repeated_scale fs w v, repeated_subtract fs y (scale w v)) (repeated_weighted fs r (subtract y (scale w v)))) (repeated_gaps fs r y w vs)

pub repeated_farthest : (fs : List ℕ) (v : List ℤ) (vs : List (List ℤ)) → farthest (replicate (sum fs) 1) (repeated fs v) (map (repeated fs) vs) ≡ farthest fs v vs
unfolding farthest
repeated_farthest fs v [] = refl
repeated_farthest fs v (w ∷ vs) = ap₂ max (rw (repeated_subtract fs v w) (repeated_norm fs (subtract v w))) (repeated_farthest fs v vs)

pub repeated_diameter : (fs : List ℕ) (vs : List (List ℤ)) → row_diameter (replicate (sum fs) 1) (map (repeated fs) vs) ≡ row_diameter fs vs
unfolding row_diameter
repeated_diameter fs [] = refl
repeated_diameter fs (v ∷ vs) = ap₂ max (repeated_farthest fs v vs) (repeated_diameter fs vs)

-- ---- Steps and answers, from the same shares at the repeated point

module _ (p : Problem) where
  abbrev fs : List ℕ
  fs = p.factors

  pub plain_residual : (t : ℕ) (x : Iterate) → residual (plain_of p) t (repeated_iterate fs x) ≡ repeated fs (residual p t x)
  unfolding residual plain_of
  plain_residual t x =
      let w = weight p.schedule t in
      ap (subtract (repeated fs x.point)) (repeated_scale fs w p.target) ∙ repeated_subtract fs x.point (scale w p.target)

  pub plain_direction : (t : ℕ) (x : Iterate) → direction (plain_of p) t (repeated_iterate fs x) ≡ repeated fs (direction p t x)
  unfolding direction plain_of
  plain_direction zero x =
      ap (λ v. subtract v (repeated fs p.target)) (repeated_row fs p.vertices 0) ∙ repeated_subtract fs (row p.vertices 0) p.target
  plain_direction (suc t) x = plain_residual (suc t) x

  pub plain_pick : (g : List ℤ) (x : Iterate) → pick (plain_of p) (repeated fs g) (repeated_iterate fs x) ≡ pick p g x
  unfolding pick plain_of
  plain_pick g x = ap (active_argmin x.shares) (repeated_scores fs g p.vertices)

  pub plain_step : (t : ℕ) (g : List ℤ) (x : Iterate) →
      step (plain_of p) t (repeated fs g) (repeated_iterate fs x) ≡ repeated_iterate fs (step p t g x)
  unfolding step with_shares plain_of
  plain_step t g x =
      let k = share p.schedule t in
      let v = row p.vertices (pick p g x) in
      rw (plain_pick g x, repeated_row fs p.vertices (pick p g x), repeated_scale fs k v, repeated_add fs x.point (scale k v))

  pub plain_next : (t : ℕ) (x : Iterate) → next (plain_of p) t (repeated_iterate fs x) ≡ repeated_iterate fs (next p t x)
  plain_next t x = rw (plain_direction t x) (plain_step t (direction p t x) x)

  pub plain_distance : (t : ℕ) (x : Iterate) → distance (plain_of p) t (repeated_iterate fs x) ≡ distance p t x
  unfolding distance plain_of
  plain_distance t x = rw (plain_residual t x) (repeated_norm fs (residual p t x))

  pub plain_gap : (t : ℕ) (x : Iterate) → gap (plain_of p) t (repeated_iterate fs x) ≡ gap p t x
  unfolding gap signed_gap plain_of
  plain_gap t x = rw (plain_residual t x, repeated_gaps fs (residual p t x) x.point (weight p.schedule t) p.vertices)

  pub plain_answer_at : (test : Test) (t : ℕ) (x : Iterate) → answer_at test (plain_of p) t (repeated_iterate fs x) ≡ answer_at test p t x
  unfolding answer_at plain_of
  plain_answer_at test t x = rw (plain_distance t x, plain_gap t x)

  pub plain_steps_from : (n t : ℕ) (x : Iterate) → steps_from n t (plain_of p) (repeated_iterate fs x) ≡ steps_from n t p x
  unfolding steps_from plain_of
  plain_steps_from zero t x = refl
  plain_steps_from (suc n) t x = rw (plain_next t x, plain_answer_at Sharper (suc t) (next p t x), plain_steps_from n (suc t) (next p t x))

-- ---- The run, and the answer of any shares, where there is a factor for each column

module _ (p : Problem) (e : length p.factors ≡ p.columns) where
  pub plain_start : start (plain_of p) ≡ repeated_iterate p.factors (start p)
  unfolding start plain_of
  plain_start = rw (length-map, repeated_zero p.factors p.columns e)

  pub plain_iterate : (t : ℕ) → iterate (plain_of p) t ≡ repeated_iterate p.factors (iterate p t)
  unfolding iterate
  plain_iterate zero = plain_start
  plain_iterate (suc t) = ap (next (plain_of p) t) (plain_iterate t) ∙ plain_next p t (iterate p t)

  pub plain_steps_used : steps_used (plain_of p) ≡ steps_used p
  unfolding steps_used plain_of
  plain_steps_used = ap (steps_from p.steps 0 (plain_of p)) plain_start ∙ plain_steps_from p p.steps 0 (start p)

  pub plain_run_iterate : run_iterate (plain_of p) ≡ repeated_iterate p.factors (run_iterate p)
  unfolding run_iterate
  plain_run_iterate = rw plain_steps_used (plain_iterate (steps_used p))

  pub plain_run_answer : run_answer (plain_of p) ≡ run_answer p
  unfolding run_answer
  plain_run_answer = rw (plain_steps_used, plain_run_iterate) (plain_answer_at p Sharper (steps_used p) (run_iterate p))

  pub plain_mixture : (qs : List ℕ) → mixture_iterate (plain_of p) qs ≡ repeated_iterate p.factors (mixture_iterate p qs)
  unfolding plain_of
  plain_mixture qs = rw (repeated_combination p.factors p.columns e qs p.vertices)

  pub plain_answer_of : (test : Test) (qs : List ℕ) (t : ℕ) → answer_of test (plain_of p) qs t ≡ answer_of test p qs t
  plain_answer_of test qs t = ap (answer_at test (plain_of p) t) (plain_mixture qs) ∙ plain_answer_at p test t (mixture_iterate p qs)

pub plain_twin : PlainTwin
unfolding PlainTwin plain_of
plain_twin p e =
    record {
      same_iterate = plain_iterate p e;
      same_answer = plain_run_answer p e;
      same_shares = ap (λ x. x.shares) (plain_run_iterate p e);
      same_of = plain_answer_of p e;
      same_diameter = repeated_diameter p.factors p.vertices;
    }
