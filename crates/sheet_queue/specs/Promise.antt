-- What is promised of a queue of sheets on one allowance. Definitions only.
use Rattle.std.specs.Prelude.{◌≡◌, true, false, ◌⊎◌, ◌↔◌, List, [], map, ℕ, ◌+◌, ◌*◌, ◌/◌, ◌≤◌, ◌<◌, min, length, get_or, take, drop}
use Rattle.frank_wolfe.specs.Vectors.{sum}
use Rattle.files.specs.Book.{boats}
use Rattle.files.specs.Front.{SameBook, SameSheet}
use Rattle.method.specs.Problem.{Problem, problem}
use Rattle.method.specs.Answers.{verdict_number, steps_used, run_iterate, run_answer}
use Rattle.method.specs.Promise.{RunRight}
use Rattle.sheet_queue.specs.declared.SheetRecord.{SheetRecord}
use Rattle.sheet_queue.specs.Alike.{SameOrEdition, Exchanged, SameQueue}
use Rattle.sheet_queue.specs.Queue.{blank, lengths, sheets_of, problems, with_steps, own_steps, queue_refusal}

-- sheets whose runs alone take the steps `ts` get the steps `ks` of the allowance `a`
pub record Fair (a : ℕ) (ts ks : List ℕ) : Type 0 where
  pub one_each : length ks ≡ length ts
  pub within_allowance : sum ks ≤ a
  pub within_own : (i : ℕ) → get_or ks i 0 ≤ get_or ts i 0
  -- all are finished, or the allowance is gone
  pub done_or_gone : (ks ≡ ts) ⊎ (sum ks ≡ a)
  -- a sheet is finished, or has its part of the allowance
  pub share : (i : ℕ) → i < length ts → (get_or ks i 0 ≡ get_or ts i 0) ⊎ (a / length ts ≤ get_or ks i 0)
  -- an unfinished sheet has no fewer steps than a later one, and at most one fewer than an earlier one
  pub ahead : (i j : ℕ) → i < j → get_or ks i 0 < get_or ts i 0 → get_or ks j 0 ≤ get_or ks i 0
  pub behind : (i j : ℕ) → i < j → get_or ks j 0 < get_or ts j 0 → get_or ks i 0 ≤ get_or ks j 0 + 1

-- of the problem p of one sheet among n that share the allowance a, its record, and its 256 slots
pub record SheetRight (a n : ℕ) (b : List ℕ) (p : Problem) (r : SheetRecord) (slots : List ℕ) : Type 0 where
  pub asked : r.asked ≡ p.steps
  -- ---- The steps
  pub some_step : 1 ≤ r.used
  pub most_steps : r.used ≤ p.steps
  -- at least the smaller of its own steps and its part of the allowance, unless it finished earlier
  pub share : r.finished ≡ false → min p.steps (a / n) ≤ r.used
  -- finished exactly where it has a verdict of its own: its run alone takes as many steps
  pub finished : (r.finished ≡ true) ↔ (r.used ≡ steps_used p)
  -- ---- Its run alone with its steps set to those that it used
  pub alone_steps : (run_answer (with_steps r.used p)).steps ≡ r.used
  pub alone_distance : r.distance ≡ (run_answer (with_steps r.used p)).distance
  pub alone_gap : r.gap ≡ (run_answer (with_steps r.used p)).gap
  pub alone_verdict : r.verdict ≡ verdict_number (run_answer (with_steps r.used p)).verdict
  pub alone_shares : take (boats b) slots ≡ (run_iterate (with_steps r.used p)).shares
  -- all that a search promises of an answer and its shares
  pub right : RunRight (with_steps r.used p) (run_answer (with_steps r.used p)) (take (boats b) slots)
  -- a finished sheet has the answer of its own run, and one that was cut off is Spent
  pub own : r.finished ≡ true → run_answer (with_steps r.used p) ≡ run_answer p
  pub cut : r.finished ≡ false → r.verdict ≡ 3

-- the steps used
unfoldable pub used_steps : List SheetRecord → List ℕ
used_steps rs = map (λ r. r.used) rs

-- the slots of sheet i
abbrev pub part : (i : ℕ) → (slots : List ℕ) → List ℕ
part i slots = take 256 (drop (256 * i) slots)

-- of the sheets of a call that is not refused, and the queue and the slots that it leaves
pub record Served (b : List ℕ) (a : ℕ) (ss : List (List ℕ)) (queue : List SheetRecord) (slots : List ℕ) : Type 0 where
  pub fair : Fair a (own_steps (problems b ss)) (used_steps queue)
  pub each : (i : ℕ) → i < length queue → SheetRight a (length queue) b (problem b (get_or ss i [])) (get_or queue i blank) (part i slots)

-- of a call: the queue and the slots before it, its number, the queue and the slots after it
pub record QueueRight (b bs : List ℕ) (a : ℕ) (queue : List SheetRecord) (slots : List ℕ) (refusal : ℕ) (queue' : List SheetRecord) (slots' : List ℕ) : Type 0 where
  -- its number is that of the first test that fails, 0 where none does
  pub number : refusal ≡ queue_refusal b (lengths queue) bs a (length slots)
  -- lengths are never written
  pub lengths_kept : lengths queue' ≡ lengths queue
  pub slots_kept : length slots' ≡ length slots
  -- a refusal has written nothing
  pub refused : 1 ≤ refusal → (queue' ≡ queue) × (slots' ≡ slots)
  pub served : refusal ≡ 0 → Served b a (sheets_of (lengths queue) bs) queue' slots'
  -- every slot that no sheet has is as it was: behind a sheet's shares, and behind the last sheet
  pub other_slots : (i j : ℕ) → i < length queue → boats b ≤ j → j < 256 → get_or slots' (256 * i + j) 0 ≡ get_or slots (256 * i + j) 0
  pub later_slots : drop (256 * length queue) slots' ≡ drop (256 * length queue) slots
  -- sheets of the other edition that ask for the same, every factor 1, give the same but for the lengths
  pub editions : (other : List SheetRecord) (bs' : List ℕ) → Exchanged SameOrEdition queue bs other bs' → SameQueue b bs a queue b bs' other slots
  -- front text is never read
  pub fronts : (b' : List ℕ) (other : List SheetRecord) (bs' : List ℕ) → SameBook b b' → Exchanged SameSheet queue bs other bs' → SameQueue b bs a queue b' bs' other slots
