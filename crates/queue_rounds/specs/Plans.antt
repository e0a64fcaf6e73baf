-- The sheets of a plan. Definitions only.
use Rattle.std.specs.Prelude.{◌≡◌, List, [], ℕ, ◌≤◌, ◌<◌, length, get_or, take}
use Rattle.frank_wolfe.specs.Vectors.{sum}
use Rattle.files.specs.Sheet.{files_refusal}
use Rattle.sheet_queue.specs.Queue.{sheets_of, problems, own_steps}
use Rattle.queue_rounds.specs.declared.Plan.{Plan}

abbrev pub plan_lengths : Plan → List ℕ
plan_lengths p = take p.count p.lengths

abbrev pub plan_sheets : Plan → (buffer : List ℕ) → List (List ℕ)
plan_sheets p bs = sheets_of (plan_lengths p) bs

abbrev pub sheet_of : Plan → (buffer : List ℕ) → (i : ℕ) → List ℕ
sheet_of p bs i = get_or (plan_sheets p bs) i []

-- the steps that the sheets' runs alone take
abbrev pub own_of : (book : List ℕ) → Plan → (buffer : List ℕ) → List ℕ
own_of b p bs = own_steps (problems b (plan_sheets p bs))

-- few sheets, that are the whole buffer, and none of them is refused
pub record Accepted (b : List ℕ) (p : Plan) (bs : List ℕ) : Type 0 where
  pub long : length p.lengths ≡ 16
  pub some : 1 ≤ p.count
  pub few : p.count ≤ 16
  pub total : sum (plan_lengths p) ≡ length bs
  pub each : (i : ℕ) → i < p.count → files_refusal b (sheet_of p bs i) ≡ 0
