-- What the method is given: vertices, a target, a factor for each column, a tolerance, and how many steps may be taken with which shares;
-- and the problem that a call sets with its files and its terms.
-- Definitions only. Assumes nothing.
use Rattle.std.specs.Prelude.{List, ℕ, suc, ◌+◌, ◌*◌, ◌/◌, min, length, get_or, take, ℤ}
use Rattle.frank_wolfe.specs.Vectors.{sum}
use Rattle.files.specs.Book.{rows, columns}
use Rattle.files.specs.Sheet.{sheet}
use Rattle.method.specs.ReleasedBoats.{Usable, every, gather}

-- how many shares each step gives
pub data Schedule : Type 0 where
  -- 1, 2, 3, ..
  fixed : Schedule
  -- the entries of a table, in their order; a step past its end gives none
  lent : (table : List ℕ) → Schedule

-- the share of step k + 1
unfoldable pub share : Schedule → (k : ℕ) → ℕ
share fixed k = suc k
share (lent table) k = get_or table k 0

-- W: the total of the first t shares
unfoldable pub weight : Schedule → (t : ℕ) → ℕ
weight fixed t = t * (t + 1) / 2
weight (lent table) t = sum (take t table)

-- how many of n steps may be taken: no more than a table has entries
abbrev pub allowed_steps : Schedule → (n : ℕ) → ℕ
allowed_steps fixed n = n
allowed_steps (lent table) n = min n (length table)

-- a mixture of the vertices is looked for whose squared distance to the target is at most the tolerance
pub record Problem : Type 0 where
  -- how many entries each vertex and the target have
  pub columns : ℕ
  -- the rows of the boats that are mixed, one each
  pub vertices : List (List ℤ)
  -- u
  pub target : List ℤ
  -- one a column: inner products and squared distances take a column as many times as its factor says
  pub factors : List ℕ
  pub schedule : Schedule
  pub tolerance : ℕ
  -- how many steps a run may take
  pub steps : ℕ

-- the terms of a call: what it is given beside its files
pub record Terms : Type 0 where
  -- a table of shares where one is lent, else the fixed shares
  pub schedule : Schedule
  -- the boats that a set names where the call is limited to one, else all
  pub released : Usable

-- those of a call that is given its files alone
abbrev pub plain_terms : Terms
plain_terms = record { schedule = fixed; released = every }

-- the steps that a call asks for: the sheet's number, or a lent table's where that is less
abbrev pub call_steps : Terms → (sheet : List ℕ) → ℕ
call_steps m s = allowed_steps m.schedule (sheet s).steps

-- the problem of a fleet book and a sheet, as bytes, with these shares and factors: a vertex for every boat
abbrev pub problem_with : Schedule → (factors book sheet : List ℕ) → Problem
problem_with a fs b s =
    record {
      columns = columns b;
      vertices = rows b;
      target = (sheet s).target;
      factors = fs;
      schedule = a;
      tolerance = (sheet s).tolerance;
      steps = allowed_steps a (sheet s).steps;
    }

-- a problem whose vertices are the boats that may be used, the lowest-numbered first
abbrev pub on_released : Usable → Problem → Problem
on_released u p =
    record {
      columns = p.columns;
      vertices = gather u p.vertices;
      target = p.target;
      factors = p.factors;
      schedule = p.schedule;
      tolerance = p.tolerance;
      steps = p.steps;
    }

-- the problem of all boats of the book, with the sheet's factors and a call's shares
abbrev pub fleet_problem : Terms → (book sheet : List ℕ) → Problem
fleet_problem m b s = problem_with m.schedule (sheet s).factors b s

-- the problem that a call sets: of the boats that may be used
unfoldable pub call_problem : Terms → (book sheet : List ℕ) → Problem
call_problem m b s = on_released m.released (fleet_problem m b s)

-- the problem of a fleet book and a sheet alone: step k gives k shares
abbrev pub problem : (book sheet : List ℕ) → Problem
problem b s = call_problem plain_terms b s
