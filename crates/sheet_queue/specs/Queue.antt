-- The queue of a fleet book and sheets that stand back to back in one buffer: the sheets, what refuses the queue, and the records and slots
-- that it leaves. Definitions only.
use Rattle.std.specs.Prelude.{false, ◌&&◌, ◌||◌, not, cond, List, [], ◌∷◌, ◌++◌, map, ℕ, zero, suc, ◌*◌, eqb, ltb, length, take, drop}
use Rattle.frank_wolfe.specs.Vectors.{sum}
use Rattle.files.specs.Bytes.{between}
use Rattle.files.specs.Book.{columns, book_refusal}
use Rattle.files.specs.Sheet.{sheet_refusal}
use Rattle.method.specs.Problem.{Problem, problem}
use Rattle.method.specs.Answers.{verdict_number, steps_used, run_iterate, run_answer, slots_after}
use Rattle.sheet_queue.specs.declared.SheetRecord.{SheetRecord}
use Rattle.sheet_queue.specs.Rounds.{steps_got}

-- ---- The sheets

-- what stands past the end of a queue
abbrev pub blank : SheetRecord
blank = record { asked = 0; used = 0; finished = false; distance = 0; gap = 0; verdict = 0; length = 0 }

-- the lengths that the caller gives
unfoldable pub lengths : List SheetRecord → List ℕ
lengths rs = map (λ r. r.length) rs

-- the sheets of these lengths, from the buffer's first byte on
unfoldable pub sheets_of : (lengths buffer : List ℕ) → List (List ℕ)
sheets_of [] bs = []
sheets_of (n ∷ ns) bs = take n bs ∷ sheets_of ns (drop n bs)

-- the problems that they make with the book
unfoldable pub problems : (book : List ℕ) → (sheets : List (List ℕ)) → List Problem
problems b ss = map (problem b) ss

-- a problem with so many steps
abbrev pub with_steps : (steps : ℕ) → Problem → Problem
with_steps k p =
    record {
      columns = p.columns;
      vertices = p.vertices;
      target = p.target;
      factors = p.factors;
      schedule = p.schedule;
      tolerance = p.tolerance;
      steps = k;
    }

-- the steps that their runs alone take, and those that they get of an allowance
unfoldable pub own_steps : List Problem → List ℕ
own_steps ps = map steps_used ps

unfoldable pub queue_steps : (allowance : ℕ) → List Problem → List ℕ
queue_steps a ps = steps_got a (own_steps ps)

-- ---- Refusals

-- the number of the first sheet that is refused, for a book of so many columns
unfoldable pub sheets_refusal : (columns : ℕ) → (sheets : List (List ℕ)) → ℕ
sheets_refusal c [] = 0
sheets_refusal c (s ∷ ss) = cond (eqb (sheet_refusal c s) 0) (sheets_refusal c ss) (sheet_refusal c s)

-- how many sheets are accepted ahead of the first that is refused
unfoldable pub accepted_ahead : (columns : ℕ) → (sheets : List (List ℕ)) → ℕ
accepted_ahead c [] = 0
accepted_ahead c (s ∷ ss) = cond (eqb (sheet_refusal c s) 0) (suc (accepted_ahead c ss)) 0

-- ahead of n sheets: 1 to 6 of the book; 44, n is not 1 to 16 or the lengths do not total the buffer; 45, an allowance below n or above
-- 5,760; 0 if none applies
unfoldable pub refusal_ahead : (n : ℕ) → (book lengths buffer : List ℕ) → (allowance : ℕ) → ℕ
refusal_ahead n b ns bs a =
    cond (not (eqb (book_refusal b) 0)) (book_refusal b)
    (cond (not (between 1 16 n && eqb (sum ns) (length bs))) 44
    (cond (ltb a n || ltb 5760 a) 45
    0))

-- of n sheets: the number ahead of them; 11 to 17 and 46, sheet by sheet; 21, fewer than 256 slots a sheet; 0 if none applies
unfoldable pub refusal_of : (n : ℕ) → (book lengths buffer : List ℕ) → (allowance slots : ℕ) → ℕ
refusal_of n b ns bs a slots =
    let ahead = refusal_ahead n b ns bs a in
    let in_sheets = sheets_refusal (columns b) (sheets_of ns bs) in
    cond (not (eqb ahead 0)) ahead
    (cond (not (eqb in_sheets 0)) in_sheets (cond (ltb slots (256 * n)) 21 0))

-- how many of n sheets are accepted ahead of the one that refuses the queue, all where none does; 0 where the number ahead of them refuses it
unfoldable pub accepted_of : (n : ℕ) → (book lengths buffer : List ℕ) → (allowance : ℕ) → ℕ
accepted_of n b ns bs a = cond (eqb (refusal_ahead n b ns bs a) 0) (accepted_ahead (columns b) (sheets_of ns bs)) 0

abbrev pub queue_refusal : (book lengths buffer : List ℕ) → (allowance slots : ℕ) → ℕ
queue_refusal b ns bs a slots = refusal_of (length ns) b ns bs a slots

-- ---- Records and slots

-- the record of a sheet of n bytes that took k steps: the answer is that of its run alone with its steps set to k, and it is finished where
-- that is its own run
unfoldable pub record_of : (n : ℕ) → Problem → (k : ℕ) → SheetRecord
record_of n p k =
    let a = run_answer (with_steps k p) in
    record {
      asked = p.steps;
      used = k;
      finished = eqb k (steps_used p);
      distance = a.distance;
      gap = a.gap;
      verdict = verdict_number a.verdict;
      length = n;
    }

unfoldable pub records_of : (lengths : List ℕ) → List Problem → (used : List ℕ) → List SheetRecord
records_of (n ∷ ns) (p ∷ ps) (k ∷ ks) = record_of n p k ∷ records_of ns ps ks
records_of (n ∷ ns) (p ∷ ps) [] = []
records_of (n ∷ ns) [] ks = []
records_of [] ps ks = []

-- the shares of each sheet, those of the same run
unfoldable pub shares_of : List Problem → (used : List ℕ) → List (List ℕ)
shares_of (p ∷ ps) (k ∷ ks) = (run_iterate (with_steps k p)).shares ∷ shares_of ps ks
shares_of (p ∷ ps) [] = []
shares_of [] ks = []

-- a share list with 256 slots a sheet: the first of them have its shares, one a boat, as a search leaves them; every other slot is as it was
unfoldable pub filled : (shares : List (List ℕ)) → (slots : List ℕ) → List ℕ
filled [] slots = slots
filled (qs ∷ qss) slots = slots_after 0 qs (take 256 slots) ++ filled qss (drop 256 slots)

-- ---- What a call leaves

-- the records, as they were where the queue is refused
unfoldable pub records_after : (refusal : ℕ) → (book buffer : List ℕ) → (allowance : ℕ) → (queue : List SheetRecord) → List SheetRecord
records_after zero b bs a rs =
    let ps = problems b (sheets_of (lengths rs) bs) in
    records_of (lengths rs) ps (queue_steps a ps)
records_after (suc n) b bs a rs = rs

-- the slots, as they were where the queue is refused
unfoldable pub queue_slots_after : (refusal : ℕ) → (book buffer : List ℕ) → (allowance : ℕ) → (queue : List SheetRecord) → (slots : List ℕ) → List ℕ
queue_slots_after zero b bs a rs slots =
    let ps = problems b (sheets_of (lengths rs) bs) in
    filled (shares_of ps (queue_steps a ps)) slots
queue_slots_after (suc n) b bs a rs slots = slots
