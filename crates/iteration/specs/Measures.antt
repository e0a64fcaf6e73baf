-- The answer of W, E and two scores, and of a residual: G and the verdict, as the code finds them. Assumes nothing.
use Rattle.std.specs.Prelude.{List, ℕ, ◌≤◌, length, take, drop, ℤ, pos, ◌+ℤ◌, ◌-ℤ◌, ◌*ℤ◌}
use Rattle.files.specs.Bytes.{values}
use Rattle.files.specs.Sheet.{sheet}
use Rattle.files.specs.Limits.{entry_limit}
use Rattle.frank_wolfe.specs.Vectors.{inner, squared_norm}
use Rattle.method.specs.Iterates.{natural}
use Rattle.method.specs.Answers.{verdict}
use Rattle.verdicts.specs.Sizes.{Judgeable}
use Rattle.method.specs.declared.Test.{Test}
use Rattle.method.specs.declared.Answer.{Answer}
use Rattle.sums.specs.Operands.{Bounded, Span, GapSized}
use Rattle.iteration.specs.declared.Layout.{Layout}

abbrev pub tolerance_of : (s : List ℕ) → ℕ
tolerance_of s = (sheet s).tolerance

-- G by the target's score and the least score: E + w (target-score - least)
abbrev pub gap_by : (w e : ℕ) → (target-score least : ℤ) → ℤ
gap_by w e target-score least = pos e +ℤ pos w *ℤ (target-score -ℤ least)

-- the answer after t steps, of total w, distance e, the target's score and the least score, judged by the test
unfoldable pub answer_by : Test → (t w tolerance e : ℕ) → (target-score least : ℤ) → Answer
answer_by test t w tolerance e target-score least =
    let g = natural (gap_by w e target-score least) in
    record { steps = t; weight = w; distance = e; gap = g; verdict = verdict test tolerance w e g }

-- its numbers keep to the machine's
pub record Answerable (e w : ℕ) (target-score least : ℤ) (s : List ℕ) : Type 0 where
  pub whole : 16 ≤ length s
  pub sized : GapSized e w target-score least
  pub judged : Judgeable (sheet s).tolerance w e (natural (gap_by w e target-score least))

-- the answer of a residual r for the target u
abbrev pub measure : Test → (t w tolerance : ℕ) → (r u : List ℤ) → (least : ℤ) → Answer
measure test t w tolerance r u least = answer_by test t w tolerance (squared_norm r) (inner r u) least

-- its numbers keep to the machine's
pub record Measurable (r : List ℤ) (w : ℕ) (least : ℤ) (s : List ℕ) (l : Layout) : Type 0 where
  pub target : Span s l.target l.columns
  pub entries : Bounded entry_limit l.columns r
  pub numbers : Answerable (squared_norm (take l.columns r)) w (inner (take l.columns r) (values l.columns (drop l.target s))) least s
