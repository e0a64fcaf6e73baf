-- The Frank-Wolfe method over exact fractions, as published: M. Jaggi, Revisiting Frank-Wolfe: Projection-Free Sparse Convex
-- Optimization, Algorithm 1, for f(x) = ½ |x - u|² over the convex hull of the vertices, from the first of them on. The inner product
-- is the problem's, with a factor for each column, and so are the length |x| and the gradient. Among minimizers the algorithm may take
-- any; here one that x gives weight to goes first.
-- Definitions only; nothing of the method in whole numbers is used. Assumes nothing.
use Rattle.std.specs.Prelude.{Bool, false, not, ◌&&◌, ◌||◌, cond, List, [], ◌∷◌, ℕ, zero, suc, ◌+◌, ◌-◌, length, get_or, take, replicate, ℤ, pos}
use Rattle.frank_wolfe.specs.Vectors.{sum}
use Rattle.method.specs.Problem.{Schedule, fixed, lent, Problem}
use Rattle.method.specs.Fractions.{Fraction, ratio, integer, ◌+ℚ◌, ◌-ℚ◌, ◌*ℚ◌, lt_q, fractions, difference, inner_product}

-- a point as a convex combination of the vertices: the weight of each, and the point x
pub record ConvexCombination : Type 0 where
  pub weights : List Fraction
  pub point : List Fraction

-- of so many weights, 1 at vertex i and 0 elsewhere
unfoldable pub unit_vector : (count i : ℕ) → List Fraction
unit_vector zero i = []
unit_vector (suc n) zero = integer (pos 1) ∷ replicate n (integer (pos 0))
unit_vector (suc n) (suc i) = integer (pos 0) ∷ unit_vector n i

-- the gradient of f at x: x - u
unfoldable pub gradient : (u : List ℤ) → (x : List Fraction) → List Fraction
gradient u x = difference x (fractions u)

-- the linear form <g, ·> at each vertex
unfoldable pub linear_form : (factors : List ℕ) → (g : List Fraction) → (rs : List (List ℤ)) → List Fraction
linear_form fs g [] = []
linear_form fs g (v ∷ vs) = inner_product fs g (fractions v) ∷ linear_form fs g vs

-- whether a number of the list is below p
unfoldable pub any_below : (p : Fraction) → List Fraction → Bool
any_below p [] = false
any_below p (q ∷ qs) = lt_q q p || any_below p qs

-- the lowest index at which the number is least, 0 of none
unfoldable pub first_minimizer : List Fraction → ℕ
first_minimizer [] = 0
first_minimizer (p ∷ ps) = cond (any_below p ps) (suc (first_minimizer ps)) 0

-- the step size γ of step k, counted from 0: 2 / (k + 2), or a table's entry over the total of the entries up to it; a total of 0, which no
-- accepted table has, counts as 1
unfoldable pub step_size : Schedule → (k : ℕ) → Fraction
step_size fixed k = ratio (pos 2) (k + 1)
step_size (lent table) k = ratio (pos (get_or table k 0)) (sum (take (suc k) table) - 1)

-- (1 - γ) x + γ s
unfoldable pub move : (γ : Fraction) → (x s : List Fraction) → List Fraction
move γ [] s = []
move γ (p ∷ x) [] = []
move γ (p ∷ x) (q ∷ s) = ((integer (pos 1) -ℚ γ) *ℚ p +ℚ γ *ℚ q) ∷ move γ x s

-- the lowest index at which the weight is above 0 and no number of `all` is below the number, `other` where there is none
unfoldable pub active_minimizer : (i : ℕ) → (all : List Fraction) → (other : ℕ) → (weights numbers : List Fraction) → ℕ
active_minimizer i all other [] xs = other
active_minimizer i all other (w ∷ ws) [] = other
active_minimizer i all other (w ∷ ws) (x ∷ xs) = cond (lt_q (integer (pos 0)) w && not (any_below x all)) i (active_minimizer (suc i) all other ws xs)

-- a vertex at which the linear form of the gradient at x is least: the lowest-numbered of weight above 0, else the lowest-numbered
unfoldable pub minimizer : Problem → ConvexCombination → ℕ
minimizer p z =
    let xs = linear_form p.factors (gradient p.target z.point) p.vertices in
    active_minimizer 0 xs (first_minimizer xs) z.weights xs

-- the iterate after k steps: x and the weights move towards the vertex s
unfoldable pub published_iterate : Problem → (k : ℕ) → ConvexCombination
published_iterate p zero = record { weights = unit_vector (length p.vertices) 0; point = fractions (get_or p.vertices 0 []) }
published_iterate p (suc k) =
    let z = published_iterate p k in
    let s = minimizer p z in
    record {
      weights = move (step_size p.schedule k) z.weights (unit_vector (length p.vertices) s);
      point = move (step_size p.schedule k) z.point (fractions (get_or p.vertices s []));
    }

-- ---- Of the iterate after k steps

-- the vertex that the next step moves towards
unfoldable pub published_pick : Problem → (k : ℕ) → ℕ
published_pick p k = minimizer p (published_iterate p k)

-- the squared distance |x - u|²
unfoldable pub published_distance : Problem → (k : ℕ) → Fraction
published_distance p k =
    let g = gradient p.target (published_iterate p k).point in
    inner_product p.factors g g

-- <g, x - v> for each vertex v
unfoldable pub gap_terms : (factors : List ℕ) → (g x : List Fraction) → (rs : List (List ℤ)) → List Fraction
gap_terms fs g x [] = []
gap_terms fs g x (v ∷ vs) = inner_product fs g (difference x (fractions v)) ∷ gap_terms fs g x vs

unfoldable pub greatest_from : (m : Fraction) → List Fraction → Fraction
greatest_from m [] = m
greatest_from m (p ∷ ps) = greatest_from (cond (lt_q m p) p m) ps

-- the greatest number, 0 of none
unfoldable pub greatest : List Fraction → Fraction
greatest [] = integer (pos 0)
greatest (p ∷ ps) = greatest_from p ps

-- the duality gap: the greatest <gradient, x - v> over the vertices v
unfoldable pub published_gap : Problem → (k : ℕ) → Fraction
published_gap p k =
    let x = (published_iterate p k).point in
    greatest (gap_terms p.factors (gradient p.target x) x p.vertices)

-- the squared distance less twice the gap
unfoldable pub published_floor : Problem → (k : ℕ) → Fraction
published_floor p k = published_distance p k -ℚ integer (pos 2) *ℚ published_gap p k
