-- The Frank-Wolfe method in whole numbers: iterates, scores, E and G. Definitions only. Assumes nothing.
-- Inner products <x, y> and squared lengths have the problem's factors; u is its target. After t steps the shares total W; the sum over
-- the vertices of share times vertex is y, and the iterate is the point y / W.
use Rattle.std.specs.Prelude.{◌&&◌, cond, List, [], ◌∷◌, ℕ, zero, suc, ◌+◌, max, eqb, ltb, length, get_or, set, replicate, ℤ, pos, negsuc}
use Rattle.std.specs.Int.Signed.{lt_z, le_z}
use Rattle.frank_wolfe.specs.Vectors.{add, subtract, scale, weighted, weighted_norm, sum, combination}
use Rattle.method.specs.Problem.{Problem, share, weight}
use Rattle.method.specs.Minimum.{minimum}

-- the shares, one a vertex, and y
pub record Iterate : Type 0 where
  pub shares : List ℕ
  pub point : List ℤ

unfoldable pub start : Problem → Iterate
start p = record { shares = replicate (length p.vertices) 0; point = replicate p.columns (pos 0) }

-- r = y - W u, which is W times the gradient of ½ |x - u|² at y / W
unfoldable pub residual : Problem → (t : ℕ) → Iterate → List ℤ
residual p t x = subtract x.point (scale (weight p.schedule t) p.target)

unfoldable pub row : List (List ℤ) → (i : ℕ) → List ℤ
row rs i = get_or rs i []

-- what the step after t steps is scored with: the first vertex less u before the first step, then the residual
unfoldable pub direction : Problem → (t : ℕ) → Iterate → List ℤ
direction p zero x = subtract (row p.vertices 0) p.target
direction p (suc t) x = residual p (suc t) x

-- the score of each vertex: the linear form <g, ·> at it
unfoldable pub scores : (factors : List ℕ) → (g : List ℤ) → (rs : List (List ℤ)) → List ℤ
scores fs g [] = []
scores fs g (v ∷ vs) = weighted fs g v ∷ scores fs g vs

-- the index of the least number, the lowest index among equals: `best` holds the least so far, `i` is the index of the first number left
unfoldable pub argmin_from : (i best : ℕ) → (least : ℤ) → List ℤ → ℕ
argmin_from i best least [] = best
argmin_from i best least (p ∷ ps) = cond (lt_z p least) (argmin_from (suc i) i p ps) (argmin_from (suc i) best least ps)

unfoldable pub argmin : List ℤ → ℕ
argmin [] = 0
argmin (p ∷ ps) = argmin_from 1 0 p ps

-- the lowest index at which shares are held and the number is not above `least`, `other` where there is none; `i` is the index of the first number left
unfoldable pub active_from : (i : ℕ) → (least : ℤ) → (other : ℕ) → (shares : List ℕ) → List ℤ → ℕ
active_from i least other [] ps = other
active_from i least other (q ∷ qs) [] = other
active_from i least other (q ∷ qs) (p ∷ ps) = cond (ltb 0 q && le_z p least) i (active_from (suc i) least other qs ps)

-- among the indices of the least number the lowest of the active set, which is those that hold shares; where none of them holds any, the lowest
unfoldable pub active_argmin : (shares : List ℕ) → List ℤ → ℕ
active_argmin qs ps = active_from 0 (minimum ps) (argmin ps) qs ps

-- the vertex that a step from x, scored with g, takes: of those of least score the lowest-numbered that holds shares, else the lowest-numbered
unfoldable pub pick : Problem → (g : List ℤ) → Iterate → ℕ
pick p g x = active_argmin x.shares (scores p.factors g p.vertices)

-- so many shares more at vertex i
unfoldable pub with_shares : Problem → (k i : ℕ) → Iterate → Iterate
with_shares p k i x =
    record { shares = set x.shares i (get_or x.shares i 0 + k); point = add x.point (scale k (row p.vertices i)) }

-- step t + 1, scored with g
unfoldable pub step : Problem → (t : ℕ) → (g : List ℤ) → Iterate → Iterate
step p t g x = with_shares p (share p.schedule t) (pick p g x) x

-- the iterate after t steps
unfoldable pub iterate : Problem → (t : ℕ) → Iterate
iterate p zero = start p
iterate p (suc t) = step p t (direction p t (iterate p t)) (iterate p t)

-- E: W² times the squared distance
unfoldable pub distance : Problem → (t : ℕ) → Iterate → ℕ
distance p t x = weighted_norm p.factors (residual p t x)

-- <r, y - W v> for each vertex v
unfoldable pub gaps : (factors : List ℕ) → (r y : List ℤ) → (w : ℕ) → (rs : List (List ℤ)) → List ℤ
gaps fs r y w [] = []
gaps fs r y w (v ∷ vs) = weighted fs r (subtract y (scale w v)) ∷ gaps fs r y w vs

unfoldable pub maximum_from : (greatest : ℤ) → List ℤ → ℤ
maximum_from m [] = m
maximum_from m (p ∷ ps) = cond (lt_z m p) (maximum_from p ps) (maximum_from m ps)

-- the greatest number, 0 of none
unfoldable pub maximum : List ℤ → ℤ
maximum [] = pos 0
maximum (p ∷ ps) = maximum_from p ps

-- W² times the duality gap, as an integer
unfoldable pub signed_gap : Problem → (t : ℕ) → Iterate → ℤ
signed_gap p t x = maximum (gaps p.factors (residual p t x) x.point (weight p.schedule t) p.vertices)

-- an integer as a natural number; one below 0, which no gap is, as 0
unfoldable pub natural : ℤ → ℕ
natural (pos n) = n
natural (negsuc n) = 0

-- G
unfoldable pub gap : Problem → (t : ℕ) → Iterate → ℕ
gap p t x = natural (signed_gap p t x)

-- ---- Any mixture of the vertices

-- N² times its squared distance to u, where N is the total of its shares
unfoldable pub mixture_distance : Problem → (shares : List ℕ) → ℕ
mixture_distance p qs = weighted_norm p.factors (subtract (combination p.columns qs p.vertices) (scale (sum qs) p.target))

-- the greatest squared distance from v to a row
unfoldable pub farthest : (factors : List ℕ) → (v : List ℤ) → (rs : List (List ℤ)) → ℕ
farthest fs v [] = 0
farthest fs v (w ∷ ws) = max (weighted_norm fs (subtract v w)) (farthest fs v ws)

-- between two rows
unfoldable pub row_diameter : (factors : List ℕ) → (rs : List (List ℤ)) → ℕ
row_diameter fs [] = 0
row_diameter fs (v ∷ vs) = max (farthest fs v vs) (row_diameter fs vs)

-- D²: the greatest squared distance between two vertices
abbrev pub diameter : Problem → ℕ
diameter p = row_diameter p.factors p.vertices

-- how many vertices hold shares
unfoldable pub support : (shares : List ℕ) → ℕ
support [] = 0
support (q ∷ qs) = cond (eqb q 0) 0 1 + support qs
