-- Queues that ask for the same: a sheet exchanged for its other edition, or files behind other front text. Definitions only.
use Rattle.std.specs.Prelude.{◌≡◌, ◌⊎◌, List, [], ◌∷◌, map, ℕ, length}
use Rattle.frank_wolfe.specs.Vectors.{sum}
use Rattle.files.specs.Editions.{Editions}
use Rattle.sheet_queue.specs.declared.SheetRecord.{SheetRecord}
use Rattle.sheet_queue.specs.Queue.{lengths, sheets_of, queue_refusal, records_after, queue_slots_after}

-- as many sheets, and each as its own of the others
pub data Each (Alike : List ℕ → List ℕ → Type 0) : List (List ℕ) → List (List ℕ) → Type 0 where
  no_sheet : Each Alike [] []
  one_more : {s s' : List ℕ} {ss ss' : List (List ℕ)} → Alike s s' → Each Alike ss ss' → Each Alike (s ∷ ss) (s' ∷ ss')

-- the sheet itself, or its other edition with every factor 1
abbrev pub SameOrEdition : List ℕ → List ℕ → Type 0
SameOrEdition s s' = (s' ≡ s) ⊎ Editions s s'

-- the lengths of a queue total its buffer, and each of its sheets is as its own of another queue, whose lengths total its buffer too
pub record Exchanged (Alike : List ℕ → List ℕ → Type 0) (queue : List SheetRecord) (bs : List ℕ) (other : List SheetRecord) (bs' : List ℕ) : Type 0 where
  pub total : sum (lengths queue) ≡ length bs
  pub other_total : sum (lengths other) ≡ length bs'
  pub each : Each Alike (sheets_of (lengths queue) bs) (sheets_of (lengths other) bs')

-- a record without its length
unfoldable pub unmeasured : SheetRecord → SheetRecord
unmeasured r =
    record {
      asked = r.asked;
      used = r.used;
      finished = r.finished;
      distance = r.distance;
      gap = r.gap;
      verdict = r.verdict;
      length = 0;
    }

-- two queues are refused by the same number; where none refuses, their records are the same but for the lengths; their slots are the same
pub record SameQueue (b bs : List ℕ) (a : ℕ) (queue : List SheetRecord) (b' bs' : List ℕ) (other : List SheetRecord) (slots : List ℕ) : Type 0 where
  pub refusal : queue_refusal b' (lengths other) bs' a (length slots) ≡ queue_refusal b (lengths queue) bs a (length slots)
  pub records : map unmeasured (records_after 0 b' bs' a other) ≡ map unmeasured (records_after 0 b bs a queue)
  pub shares : queue_slots_after 0 b' bs' a other slots ≡ queue_slots_after 0 b bs a queue slots
