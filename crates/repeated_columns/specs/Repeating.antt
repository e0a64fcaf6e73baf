-- A problem with factors as a plain one, every factor 1: each column stands as often as its factor says, so no inner product changes.
-- Definitions only. Assumes nothing.
use Rattle.std.specs.Prelude.{◌≡◌, List, [], ◌∷◌, ◌++◌, map, ℕ, ℤ, length, replicate}
use Rattle.frank_wolfe.specs.Vectors.{ones, sum}
use Rattle.method.specs.declared.Test.{Test}
use Rattle.method.specs.Problem.{Problem}
use Rattle.method.specs.Iterates.{Iterate, iterate, diameter}
use Rattle.method.specs.Answers.{run_answer, run_iterate}
use Rattle.method.specs.Bounds.{answer_of}

-- each entry as often as its factor says: 0 leaves it out
unfoldable pub repeated : (factors : List ℕ) → List ℤ → List ℤ
repeated [] x = []
repeated (f ∷ fs) [] = []
repeated (f ∷ fs) (a ∷ x) = replicate f a ++ repeated fs x

-- the same shares, at the repeated point
abbrev pub repeated_iterate : (factors : List ℕ) → Iterate → Iterate
repeated_iterate fs x = record { shares = x.shares; point = repeated fs x.point }

-- a problem with these factors in place of its own
abbrev pub with_factors : (factors : List ℕ) → Problem → Problem
with_factors fs p =
    record {
      columns = p.columns;
      vertices = p.vertices;
      target = p.target;
      factors = fs;
      schedule = p.schedule;
      tolerance = p.tolerance;
      steps = p.steps;
    }

-- the plain twin of a problem
unfoldable pub plain_of : Problem → Problem
plain_of p =
    record {
      columns = sum p.factors;
      vertices = map (repeated p.factors) p.vertices;
      target = repeated p.factors p.target;
      factors = ones (sum p.factors);
      schedule = p.schedule;
      tolerance = p.tolerance;
      steps = p.steps;
    }

-- what a problem with one factor a column shares with its plain twin
pub record SameRuns (p : Problem) : Type 0 where
  -- after each step the same shares, at the repeated point
  pub same_iterate : (t : ℕ) → iterate (plain_of p) t ≡ repeated_iterate p.factors (iterate p t)
  -- the same run
  pub same_answer : run_answer (plain_of p) ≡ run_answer p
  pub same_shares : (run_iterate (plain_of p)).shares ≡ (run_iterate p).shares
  -- the same answer of any shares
  pub same_of : (test : Test) (shares : List ℕ) (t : ℕ) → answer_of test (plain_of p) shares t ≡ answer_of test p shares t
  -- the same D²
  pub same_diameter : diameter (plain_of p) ≡ diameter p

unfoldable pub PlainTwin : Type 0
PlainTwin = (p : Problem) → length p.factors ≡ p.columns → SameRuns p
