-- A list of records read and written by the functions inside. Definitions only.
use Rattle.std.specs.Prelude.{Bool, true, false, List, ℕ, zero, suc, ltb, get_or, set, replicate}
use Rattle.sheet_queue.specs.declared.SheetRecord.{SheetRecord}
use Rattle.sheet_queue.specs.Queue.{blank}
use Rattle.queue_rounds.specs.declared.Plan.{Plan}
use Rattle.queue_rounds.specs.Outcomes.{Outcome}
use Rattle.exported_queue.specs.declared.Lengths.{Lengths}

unfoldable pub no_lengths : Lengths
no_lengths = record { at = replicate 16 0 }

abbrev pub noted : Bool → Lengths → (k : ℕ) → SheetRecord → Lengths
noted true l k r = record { at = set l.at k r.length }
noted false l k r = l

-- the length of record k, where k is below 16
abbrev pub with_length : Lengths → (k : ℕ) → SheetRecord → Lengths
with_length l k r = noted (ltb k 16) l k r

-- the lengths of the first n records, of 16 at most
unfoldable pub lengths_to : List SheetRecord → (n : ℕ) → Lengths
lengths_to rs zero = no_lengths
lengths_to rs (suc n) = with_length (lengths_to rs n) n (get_or rs n blank)

abbrev pub plan_of : Lengths → (count : ℕ) → Plan
plan_of l n = record { count = n; lengths = l.at }

-- the first n records of a queue replaced by those of an outcome
unfoldable pub stored : List SheetRecord → Outcome → (n : ℕ) → List SheetRecord
stored rs o zero = rs
stored rs o (suc n) = set (stored rs o n) n (get_or o.records n blank)
