-- Mixtures of some rows and of others: the same mixture, and what a mixture reaches. Definitions only.
-- A mixture of rows is a share for each of them, of a total N above 0. A mixture drawn from both books is one of the rows of the first
-- followed by the rows of the second.
use Rattle.std.specs.Prelude.{◌≡◌, List, ◌++◌, ℕ, ◌*◌, ◌≤◌, length, ℤ, pos}
use Rattle.frank_wolfe.specs.Vectors.{sum, combination}
use Rattle.files.specs.Book.{rows}
use Rattle.method.specs.Problem.{Problem}
use Rattle.method.specs.Iterates.{mixture_distance}
use Rattle.method.specs.Fractions.{Fraction, IsRatio}

-- the rows of the first book, then all of the second
abbrev pub both_rows : (first second : List ℕ) → List (List ℤ)
both_rows a b = rows a ++ rows b

-- shares for the rows ws that have the total of the shares qs for the rows vs and the same sum of share times row
pub record SameMixture (columns : ℕ) (vs : List (List ℤ)) (qs : List ℕ) (ws : List (List ℤ)) : Type 0 where
  pub shares : List ℕ
  -- one a row
  pub share_count : length shares ≡ length ws
  pub total : sum shares ≡ sum qs
  pub point : combination columns shares ws ≡ combination columns qs vs

-- every mixture of the rows vs is one of the rows ws
abbrev pub MixturesOf : (columns : ℕ) → (vs ws : List (List ℤ)) → Type 0
MixturesOf c vs ws = (qs : List ℕ) → length qs ≡ length vs → SameMixture c vs qs ws

-- ---- What is reached

-- the same problem with other vertices
abbrev pub with_vertices : (vertices : List (List ℤ)) → Problem → Problem
with_vertices vs p =
    record {
      columns = p.columns;
      vertices = vs;
      target = p.target;
      factors = p.factors;
      schedule = p.schedule;
      tolerance = p.tolerance;
      steps = p.steps;
    }

-- a mixture of the vertices, of total n, has the squared distance q / n² to the target, by the problem's factors
pub record Reaches (p : Problem) (q n : ℕ) : Type 0 where
  pub shares : List ℕ
  pub share_count : length shares ≡ length p.vertices
  pub total : sum shares ≡ n
  pub some_share : 1 ≤ n
  pub distance : mixture_distance p shares ≡ q

-- a fraction is the squared distance of a mixture of the vertices
pub record Reachable (p : Problem) (x : Fraction) : Type 0 where
  pub q : ℕ
  pub n : ℕ
  pub reached : Reaches p q n
  pub distance_is : IsRatio x (pos q) (n * n)
