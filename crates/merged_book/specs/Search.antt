-- A search on the merged book: its answer is bounded against mixtures of either yard's boats, and of boats of both. Definitions only.
use Rattle.std.specs.Prelude.{◌≡◌, List, ℕ, ◌+◌, ◌*◌, ◌≤◌, ◌<◌, length}
use Rattle.frank_wolfe.specs.Vectors.{sum}
use Rattle.files.specs.Book.{rows}
use Rattle.method.specs.declared.Answer.{Answer}
use Rattle.method.specs.Problem.{Problem, problem}
use Rattle.method.specs.Iterates.{mixture_distance, diameter}
use Rattle.method.specs.Answers.{verdict_number}
use Rattle.method.specs.Bounds.{RunBounds, StepBound}
use Rattle.merged_book.specs.Merging.{merged_book, merge_refusal}
use Rattle.merged_book.specs.Mixtures.{both_rows, with_vertices}

-- what RunBounds says of an answer to the problem p against every mixture of its vertices, said of every mixture of another problem m
pub record BoundedAgainst (p : Problem) (a : Answer) (m : Problem) : Type 0 where
  -- no squared distance is below the answer's less twice the gap
  pub gap_bound : (qs : List ℕ) → length qs ≡ length m.vertices → 1 ≤ sum qs →
      a.distance * (sum qs * sum qs) ≤ mixture_distance m qs * (a.weight * a.weight) + 2 * a.gap * (sum qs * sum qs)
  -- nor below the answer's less the bound of its steps
  pub step_bound : (qs : List ℕ) → length qs ≡ length m.vertices → 1 ≤ sum qs →
      StepBound p.schedule a.steps (diameter p) a.distance (a.weight * a.weight) (sum qs) (mixture_distance m qs)
  -- Beyond: every squared distance is above the tolerance
  pub beyond : verdict_number a.verdict ≡ 2 → (qs : List ℕ) → length qs ≡ length m.vertices → 1 ≤ sum qs →
      p.tolerance * (sum qs * sum qs) < mixture_distance m qs
  -- Spent: none is below the tolerance less that bound
  pub spent : verdict_number a.verdict ≡ 3 → (qs : List ℕ) → length qs ≡ length m.vertices → 1 ≤ sum qs →
      StepBound p.schedule a.steps (diameter p) p.tolerance 1 (sum qs) (mixture_distance m qs)

-- the answer of a search of the merged book of a and b with a sheet s, against the boats of a, of b and of both with that sheet
unfoldable pub BothYardsBounded : Type 0
BothYardsBounded =
    (a b s : List ℕ) (room : ℕ) (answer : Answer) (shares : List ℕ) →
    merge_refusal a b room ≡ 0 → RunBounds (problem (merged_book a b) s) answer shares →
    BoundedAgainst (problem (merged_book a b) s) answer (problem a s)
    × (BoundedAgainst (problem (merged_book a b) s) answer (problem b s)
    × BoundedAgainst (problem (merged_book a b) s) answer (with_vertices (both_rows a b) (problem a s)))
