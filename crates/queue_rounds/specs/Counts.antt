-- What the code's functions promise of sheets whose runs alone take the steps `ts`. Definitions only. Assumes nothing.
use Rattle.std.specs.Prelude.{◌≡◌, Bool, false, not, ◌&&◌, List, ℕ, ◌+◌, ◌-◌, ◌≤◌, ◌<◌, eqb, ltb, length, get_or, set, take, drop}
use Rattle.frank_wolfe.specs.Vectors.{sum}
use Rattle.queue_rounds.specs.declared.Rounds.{Rounds}
use Rattle.sheet_queue.specs.Rounds.{turn, round}

pub record Sheets (ts : List ℕ) : Type 0 where
  pub few : length ts ≤ 16
  pub one : (i : ℕ) → i < length ts → 1 ≤ get_or ts i 0
  pub most : (i : ℕ) → i < length ts → get_or ts i 0 ≤ 360

-- a sheet is marked finished where it has used the steps of its own
pub record Kept (ts : List ℕ) (q : Rounds) : Type 0 where
  pub sheets : Sheets ts
  pub used_long : length q.used ≡ 16
  pub finished_long : length q.finished ≡ 16
  pub within_own : (i : ℕ) → i < length ts → get_or q.used i 0 ≤ get_or ts i 0
  pub finished_are : (i : ℕ) → i < length ts → get_or q.finished i false ≡ eqb (get_or q.used i 0) (get_or ts i 0)

abbrev pub turn_of : (ts : List ℕ) → (i : ℕ) → Rounds → ℕ
turn_of ts i q = turn q.left (get_or ts i 0) (get_or q.used i 0)

abbrev pub is_due : (i : ℕ) → Rounds → Bool
is_due i q = ltb 0 q.left && not (get_or q.finished i false)

-- after a step of sheet i, which ended its run or not
abbrev pub taken : (i : ℕ) → (ended : Bool) → Rounds → Rounds
taken i b q = record { used = set q.used i (get_or q.used i 0 + 1); finished = set q.finished i b; left = q.left - 1 }

-- sheet i's turn takes the rounds q to the rounds r
pub record Turned (ts : List ℕ) (i : ℕ) (q r : Rounds) : Type 0 where
  pub kept : Kept ts r
  pub used_is : r.used ≡ set q.used i (get_or q.used i 0 + turn_of ts i q)
  pub left_is : r.left ≡ q.left - turn_of ts i q

-- a round takes the rounds q to the rounds r; slots after the last sheet stay
pub record Rounded (ts : List ℕ) (q r : Rounds) : Type 0 where
  pub kept : Kept ts r
  pub used_is : take (length ts) r.used ≡ round q.left ts (take (length ts) q.used)
  pub rest_is : drop (length ts) r.used ≡ drop (length ts) q.used
  pub left_is : r.left + sum (take (length ts) r.used) ≡ q.left + sum (take (length ts) q.used)
