-- What a queue leaves, and what the code gives back for it. Definitions only.
use Rattle.std.specs.Prelude.{List, ℕ, replicate, Result, Ok, Err}
use Rattle.refusals.specs.Numbers.{number}
use Rattle.sheet_queue.specs.declared.SheetRecord.{SheetRecord}
use Rattle.sheet_queue.specs.Queue.{blank}
use Rattle.queue_rounds.specs.declared.Refused.{Refused}
use Rattle.queue_rounds.specs.declared.Served.{Served}

-- the number that refuses it, or 0; how many records there are, none on a refusal; the records; and how many sheets are accepted ahead of
-- the one that refuses it
pub record Outcome : Type 0 where
  pub refusal : ℕ
  pub count : ℕ
  pub records : List SheetRecord
  pub accepted : ℕ

abbrev pub outcome : Result Served Refused → Outcome
outcome (Ok s) = record { refusal = 0; count = s.count; records = s.records; accepted = s.count }
outcome (Err r) = record { refusal = number r.reason; count = 0; records = replicate 16 blank; accepted = r.accepted }

-- of a result: the number that refuses, 0 where nothing does
abbrev pub judged_number : {value : Type 0} → Result value Refused → ℕ
judged_number (Ok x) = 0
judged_number (Err r) = number r.reason

-- and how many of n sheets are accepted ahead of the one that refuses, all where none does
abbrev pub judged_accepted : {value : Type 0} → (n : ℕ) → Result value Refused → ℕ
judged_accepted n (Ok x) = n
judged_accepted n (Err r) = r.accepted
