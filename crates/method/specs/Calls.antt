-- The terms of a call, from what its caller hands in, and what refuses it ahead of its share list, buffer or card: 49 to 51 of a table of
-- shares that is lent, then what refuses the files, with 52 of a set of boats between book and sheet. Definitions only. Assumes nothing.
use Rattle.std.specs.Prelude.{Bool, true, false, not, ◌&&◌, cond, List, [], ◌∷◌, ℕ, zero, suc, ◌+◌, ◌*◌, ltb, leb, length, Option, Some, None}
use Rattle.frank_wolfe.specs.Vectors.{sum}
use Rattle.files.specs.Bytes.{between}
use Rattle.files.specs.Limits.{step_limit, total_limit}
use Rattle.files.specs.Book.{boats, book_refusal}
use Rattle.files.specs.Sheet.{files_refusal}
use Rattle.method.specs.declared.Released.{Released}
use Rattle.method.specs.ReleasedBoats.{Usable, every, only, usable, set_refusal}
use Rattle.method.specs.Problem.{Schedule, fixed, lent, Terms}

-- ---- A table that is lent

-- whether each entry, after entries of a total w, is above 0, and its square at most twice the running total that includes it
unfoldable pub shares_fit : (w : ℕ) → List ℕ → Bool
shares_fit w [] = true
shares_fit w (a ∷ table) = (ltb 0 a && leb (a * a) (2 * (w + a))) && shares_fit (w + a) table

-- 49: no entry or more than 360; 50: an entry that does not fit; 51: a final total above 64,980
unfoldable pub table_refusal : (table : List ℕ) → ℕ
table_refusal table =
    cond (not (between 1 step_limit (length table))) 49
    (cond (not (shares_fit 0 table)) 50
    (cond (leb (sum table) total_limit) 0 51))

-- the fixed shares are never refused
abbrev pub schedule_refusal : Schedule → ℕ
schedule_refusal fixed = 0
schedule_refusal (lent table) = table_refusal table

-- ---- The terms of a call

-- with no table the shares are the fixed ones; an empty table that is lent is a table of no entries
abbrev pub schedule_in : (table : Option (List ℕ)) → Schedule
schedule_in (Some table) = lent table
schedule_in None = fixed

-- from C a table comes beside a flag, and counts only where that says that it is lent
abbrev pub lent_table : (lent : Bool) → (table : List ℕ) → Option (List ℕ)
lent_table true table = Some table
lent_table false table = None

abbrev pub schedule_of : (lent : Bool) → (table : List ℕ) → Schedule
schedule_of l table = schedule_in (lent_table l table)

-- with all boats of the book
abbrev pub terms : (table : Option (List ℕ)) → Terms
terms table = record { schedule = schedule_in table; released = every }

-- with a set as well, which counts only where the call is limited to it
abbrev pub terms_in : Released → (table : Option (List ℕ)) → Terms
terms_in r table = record { schedule = schedule_in table; released = usable r }

-- the same from C
abbrev pub call_terms : Released → (lent : Bool) → (table : List ℕ) → Terms
call_terms r l table = terms_in r (lent_table l table)

-- the first number, unless it is 0: else the later one
abbrev pub before : (first later : ℕ) → ℕ
before zero later = later
before (suc n) later = suc n

-- 1 to 17 and 46 of the files; where there is a set, its 52 after 1 to 6 of the book and ahead of the sheet
abbrev pub released_refusal : Usable → (book sheet : List ℕ) → ℕ
released_refusal every b s = files_refusal b s
released_refusal (only set) b s = before (book_refusal b) (before (set_refusal (boats b) (only set)) (files_refusal b s))

-- 49 to 51 of a lent table, then those
abbrev pub call_refusal : Terms → (book sheet : List ℕ) → ℕ
call_refusal m b s = before (schedule_refusal m.schedule) (released_refusal m.released b s)
