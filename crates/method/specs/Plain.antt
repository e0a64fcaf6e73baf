-- The problem that the code of a run is about: some shares, and every factor 1, whatever the sheet's are. A sheet with other factors is searched
-- through a book and a sheet in which each column stands as often as its factor says. Definitions only. Assumes nothing.
use Rattle.std.specs.Prelude.{List, ℕ}
use Rattle.frank_wolfe.specs.Vectors.{ones}
use Rattle.files.specs.Book.{columns}
use Rattle.method.specs.Problem.{Schedule, Problem, problem_with}

unfoldable pub plain_problem : Schedule → (book sheet : List ℕ) → Problem
plain_problem a b s = problem_with a (ones (columns b)) b s
