-- The needs of `answered` and `measured`: their callees' results put together are the definition's answer. Assumes nothing.
use mathlib.Core.Path.{◌≡◌, ap, ◌∙◌}
use mathlib.Core.List.{List}
use Prim.Native.Nat.{ℕ}
use native.Mathlib.Omega.{arith}
use lib.ListN.{take, drop}
use lib.IntN.{ℤ, pos, ◌+ℤ◌, ◌-ℤ◌, ◌*ℤ◌}
use mir.Syntax.{w64}
use mir.Val.{to_z, of_z}
use Rattle.integers.proofs.Bounds.{read}
use Rattle.files.specs.Bytes.{values}
use Rattle.files.specs.Sheet.{sheet}
use Rattle.frank_wolfe.specs.Vectors.{inner, squared_norm}
use Rattle.method.specs.Iterates.{natural}
use Rattle.method.specs.Answers.{verdict}
use Rattle.verdicts.specs.Sizes.{Judgeable}
use Rattle.method.specs.declared.Test.{Test}
use Rattle.method.specs.declared.Answer.{Answer}
use Rattle.method.specs.declared.Verdict.{Verdict}
use Rattle.iteration.specs.declared.Layout.{Layout}
use Rattle.iteration.specs.Measures.{gap_by, answer_by, measure, Answerable, Measurable}

pub natural_pos : {g : ℕ} {z : ℤ} → pos g ≡ z → g ≡ natural z
unfolding natural
natural_pos e = ap natural e

module _ {e w : ℕ} {target-score least : ℤ} {s : List ℕ} (m : Answerable e w target-score least s) where
  -- the scores as a callee reads them
  pub target_score_kept : to_z w64 (of_z w64 target-score) ≡ target-score
  target_score_kept = read w64 33269760000000 (omega (arith, m.sized.first, m.sized.few_shares)) tt

  pub least_kept : to_z w64 (of_z w64 least) ≡ least
  least_kept = read w64 33269760000000 (omega (arith, m.sized.second, m.sized.few_shares)) tt

  module _ {g : ℕ} (eg : pos g ≡ pos e +ℤ pos w *ℤ (to_z w64 (of_z w64 target-score) -ℤ to_z w64 (of_z w64 least))) {τ : ℕ} (et : τ ≡ (sheet s).tolerance) where
    gap_is : g ≡ natural (gap_by w e target-score least)
    gap_is = natural_pos (eg ∙ rw (target_score_kept, least_kept))

    pub judgeable : Judgeable τ w e g
    judgeable = rw (et, gap_is) m.judged

    pub answer_is : (test : Test) (t : ℕ) {v : Verdict} → v ≡ verdict test τ w e g →
        ◌≡◌ {A = Answer} (record { steps = t; weight = w; distance = e; gap = g; verdict = v }) (answer_by test t w (sheet s).tolerance e target-score least)
    unfolding answer_by
    answer_is test t ev = rw (ev, et, gap_is)

-- the answer of a residual
module _ {r : List ℤ} {w : ℕ} {least : ℤ} {s : List ℕ} {l : Layout} (m : Measurable r w least s l) {e : ℕ} {a x : ℤ}
    (ee : e ≡ squared_norm (take l.columns r)) (ea : a ≡ inner (take l.columns r) (values l.columns (drop l.target s))) (ex : x ≡ a) where
  pub measured_asks : Answerable e w x (to_z w64 (of_z w64 least)) s
  measured_asks = rw (ee, ex, ea, least_kept m.numbers) m.numbers

  pub measured_is : (test : Test) (t τ : ℕ) {y : Answer} → y ≡ answer_by test t w τ e x (to_z w64 (of_z w64 least)) →
      y ≡ measure test t w τ (take l.columns r) (values l.columns (drop l.target s)) least
  measured_is test t τ f = f ∙ rw (ee, ex, ea, least_kept m.numbers)
