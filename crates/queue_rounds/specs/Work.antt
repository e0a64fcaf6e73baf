-- A queue between two turns, and what it leaves. Definitions only.
use Rattle.std.specs.Prelude.{◌≡◌, List, [], ℕ, zero, suc, ◌*◌, ◌≤◌, ◌<◌, length, get_or, take, drop, ℤ, pos}
use Rattle.files.specs.Book.{boats}
use Rattle.method.specs.Problem.{fixed, problem}
use Rattle.method.specs.Iterates.{iterate}
use Rattle.iteration.specs.declared.State.{State}
use Rattle.iteration.specs.States.{Holds}
use Rattle.sheet_queue.specs.declared.SheetRecord.{SheetRecord}
use Rattle.sheet_queue.specs.Queue.{blank, problems, queue_steps, refusal_of, accepted_of, record_of, records_of, shares_of, filled}
use Rattle.sheet_queue.specs.Promise.{part}
use Rattle.sheet_turn.specs.Turns.{plain_book, plain_sheet, TurnScores}
use Rattle.queue_rounds.specs.declared.Plan.{Plan}
use Rattle.queue_rounds.specs.Outcomes.{Outcome}
use Rattle.queue_rounds.specs.declared.Work.{Work}
use Rattle.queue_rounds.specs.Plans.{plan_lengths, plan_sheets, sheet_of, own_of, Accepted}
use Rattle.queue_rounds.specs.Counts.{Kept}

abbrev pub no_state : State
no_state = record { steps = 0; weight = 0; distance = 0; target_score = pos 0; best = 0; least = pos 0 }

-- the first states
pub record Started (b : List ℕ) (p : Plan) (bs : List ℕ) (xs : List State) : Type 0 where
  pub long : length xs ≡ 16
  pub each : (i : ℕ) → i < p.count → Holds fixed (plain_book b (sheet_of p bs i)) (plain_sheet (sheet_of p bs i)) 0 (get_or xs i no_state)

-- a sheet that took k steps: its state, its record, its slots and its scores
pub record SheetAt (b s : List ℕ) (k : ℕ) (x : State) (r : SheetRecord) (slots : List ℕ) (scores : List ℤ) : Type 0 where
  pub held : Holds fixed (plain_book b s) (plain_sheet s) k x
  pub recorded : 1 ≤ k → r ≡ record_of (length s) (problem b s) k
  pub shared : take (boats b) slots ≡ (iterate (problem b s) k).shares
  pub scored : TurnScores b s k scores

-- all sheets
pub record Working (b : List ℕ) (p : Plan) (bs : List ℕ) (w : Work) (slots : List ℕ) (scores : List ℤ) : Type 0 where
  pub accepted : Accepted b p bs
  pub room : 256 * p.count ≤ length slots
  pub kept : Kept (own_of b p bs) w.rounds
  pub states_long : length w.states ≡ 16
  pub records_long : length w.records ≡ 16
  pub scores_long : length scores ≡ 4096
  pub each : (i : ℕ) → i < p.count →
      SheetAt b (sheet_of p bs i) (get_or w.rounds.used i 0) (get_or w.states i no_state) (get_or w.records i blank) (part i slots) (take 256 (drop (256 * i) scores))

-- a share list of n sheets in which only shares changed
pub record SameRest (b : List ℕ) (n : ℕ) (old new : List ℕ) : Type 0 where
  pub long : length new ≡ length old
  pub parts : (i : ℕ) → i < n → drop (boats b) (part i new) ≡ drop (boats b) (part i old)
  pub rest : drop (256 * n) new ≡ drop (256 * n) old

-- the records, and the shares in the slots, of an allowance that was served
pub record ServedAll (b : List ℕ) (p : Plan) (bs : List ℕ) (a : ℕ) (rs : List SheetRecord) (slots : List ℕ) : Type 0 where
  pub records_long : length rs ≡ 16
  pub records_are : take p.count rs ≡ records_of (plan_lengths p) (problems b (plan_sheets p bs)) (queue_steps a (problems b (plan_sheets p bs)))
  pub shares_are : (i : ℕ) → i < p.count → take (boats b) (part i slots) ≡ get_or (shares_of (problems b (plan_sheets p bs)) (queue_steps a (problems b (plan_sheets p bs)))) i []

-- ---- What the queue of a plan leaves

-- how many records, none on a refusal
unfoldable pub count_after : (refusal : ℕ) → Plan → ℕ
count_after zero p = p.count
count_after (suc n) p = 0

unfoldable pub plan_records : (refusal : ℕ) → (b : List ℕ) → Plan → (bs : List ℕ) → (a : ℕ) → List SheetRecord
plan_records zero b p bs a = records_of (plan_lengths p) (problems b (plan_sheets p bs)) (queue_steps a (problems b (plan_sheets p bs)))
plan_records (suc n) b p bs a = []

unfoldable pub plan_slots : (refusal : ℕ) → (b : List ℕ) → Plan → (bs : List ℕ) → (a : ℕ) → (slots : List ℕ) → List ℕ
plan_slots zero b p bs a slots = filled (shares_of (problems b (plan_sheets p bs)) (queue_steps a (problems b (plan_sheets p bs)))) slots
plan_slots (suc n) b p bs a slots = slots

pub record Ran (b : List ℕ) (p : Plan) (bs : List ℕ) (a : ℕ) (slots : List ℕ) (r : Outcome) (slots' : List ℕ) : Type 0 where
  pub refusal_is : r.refusal ≡ refusal_of p.count b (plan_lengths p) bs a (length slots)
  pub count_is : r.count ≡ count_after r.refusal p
  pub count_few : r.count ≤ 16
  pub records_long : length r.records ≡ 16
  pub records_are : take r.count r.records ≡ plan_records r.refusal b p bs a
  pub slots_are : slots' ≡ plan_slots r.refusal b p bs a slots
  pub accepted_is : r.accepted ≡ accepted_of p.count b (plan_lengths p) bs a
