-- A pass over the rows of a fleet book: where row i stands, its score, and what the pass keeps. Assumes nothing.
use mathlib.Core.Path.{◌≡◌, sym, ◌∙◌}
use mathlib.Core.Bool.{true, false}
use mathlib.Core.List.{List, ◌++◌}
use Prim.Native.Nat.{ℕ, ◌+◌, ◌*◌, ◌≤◌, ◌<◌}
use native.Mathlib.Nat.{suc-mul, zero-mul, one-mul, mul-le-mul_right}
use native.Mathlib.Omega.{arith}
use native.Mathlib.Numerals.{add-one}
use lib.IntN.{ℤ, pos}
use lib.Signed.{lt_z}
use lib.ListN.{length, get_or, drop, set}
use Rattle.integers.proofs.Filling.{Filled, filled_start, filled_long, filled_more, filled_end}
use Rattle.files.specs.Bytes.{values}
use Rattle.files.specs.Book.{rows_from}
use Rattle.files.proofs.Rows.{length_rows_from, row_of_rows}
use Rattle.frank_wolfe.specs.Vectors.{inner, ones}
use Rattle.frank_wolfe.proofs.Vectors.{weighted_ones}
use Rattle.method.specs.Iterates.{scores, row}
use Rattle.method.proofs.Argmin.{length_scores, score_at}
use Rattle.sums.specs.Operands.{Bounded, Span, Grid, RowsBounded}
use Rattle.scoring.specs.declared.Least.{Least}
use Rattle.scoring.specs.Scores.{least_of}
use Rattle.scoring.proofs.Scans.{Ahead, ahead_start, ahead_better, ahead_same, ahead_end}

module _ (g : List ℤ) (bs : List ℕ) (at n c : ℕ) where
  -- the scores of the n rows at `at`, every factor 1
  abbrev pub all : List ℤ
  all = scores (ones c) g (rows_from n c (drop at bs))

  -- row i stands at p, and the boat of least score so far is known
  pub record Passed (best : ℕ) (low : ℤ) (p i : ℕ) : Type 0 where
    pub long : length g ≡ c
    pub ahead : Ahead all best low i
    pub place : p ≡ at + 2 * (i * c)

  -- row i stands at p, and the scores of the rows before it are stored
  pub record Stored (old new : List ℤ) (p i : ℕ) : Type 0 where
    pub long : length g ≡ c
    pub filled : Filled old all i new
    pub place : p ≡ at + 2 * (i * c)

module _ {bs : List ℕ} {at n c : ℕ} (gr : Grid bs at n c) where
  count : (g : List ℤ) → length (all g bs at n c) ≡ n
  count g = length_scores (ones c) g (rows_from n c (drop at bs)) ∙ length_rows_from n c (drop at bs)

  pub first_place : at ≡ at + 2 * (0 * c)
  first_place = omega (arith, zero-mul c)

  module _ {p i : ℕ} (h : i < n) (e : p ≡ at + 2 * (i * c)) where
    pub row_span : Span bs p c
    row_span = record { few_columns = gr.few_columns; inside = omega (arith, mul-le-mul_right c h, suc-mul i c, gr.inside) }

    pub row_range : RowsBounded (rows_from n c (drop at bs)) c → Bounded 2000 c (values c (drop p bs))
    row_range r = rw (e, ← row_of_rows n c i at bs h) (r.each_row i (rw length_rows_from h))

    next_place : p + 2 * c ≡ at + 2 * ((i + 1) * c)
    next_place = let k = add-one i in rw (k, suc-mul) (omega arith)

    score_there : (g : List ℤ) → length g ≡ c → {s : ℤ} → s ≡ inner g (values c (drop p bs)) → s ≡ get_or (all g bs at n c) i (pos 0)
    unfolding row
    score_there g l es = es ∙ sym (score_at (ones c) g (rows_from n c (drop at bs)) i ∙ rw (row_of_rows n c i at bs h, ← e) (weighted_ones c g (values c (drop p bs)) l))

  -- ---- The least score

  pub passed_start : {g : List ℤ} → length g ≡ c → {s low : ℤ} → s ≡ inner g (values c (drop at bs)) → low ≡ s → Passed g bs at n c 0 low (at + 2 * c) 1
  passed_start {g} l es e =
      record {
        long = l;
        ahead = ahead_start (rw (count g) gr.some_boats) (e ∙ score_there gr.some_boats first_place g l es);
        place = omega (arith, one-mul c);
      }

  module _ {g : List ℤ} {best : ℕ} {low : ℤ} {p i : ℕ} (d : Passed g bs at n c best low p i) where
    module _ (h : i < n) {s : ℤ} (es : s ≡ inner g (values c (drop p bs))) where
      pub passed_better : {low' : ℤ} → low' ≡ s → lt_z s low ≡ true → Passed g bs at n c i low' (p + 2 * c) (i + 1)
      passed_better e t = record { long = d.long; ahead = ahead_better d.ahead (rw (count g) h) (score_there h d.place g d.long es) e t; place = next_place h d.place }

      pub passed_same : lt_z s low ≡ false → Passed g bs at n c best low (p + 2 * c) (i + 1)
      passed_same t = record { long = d.long; ahead = ahead_same d.ahead (rw (count g) h) (score_there h d.place g d.long es) t; place = next_place h d.place }

    pub passed_end : n ≤ i → {z : ℤ} → z ≡ low → ◌≡◌ {A = Least} (record { boat = best; score = z }) (least_of (all g bs at n c))
    passed_end h ez = ahead_end d.ahead (rw (count g) h) ez

  -- ---- All scores

  pub stored_start : {g old : List ℤ} → length g ≡ c → Stored g bs at n c old old at 0
  stored_start l = record { long = l; filled = filled_start; place = first_place }

  module _ {g old new : List ℤ} {p i : ℕ} (d : Stored g bs at n c old new p i) where
    pub stored_long : n ≤ length old → length new ≡ length old
    stored_long room = filled_long d.filled (rw (count g) room)

    pub stored_more : n ≤ length old → i < n → {s z : ℤ} → s ≡ inner g (values c (drop p bs)) → z ≡ s → Stored g bs at n c old (set new i z) (p + 2 * c) (i + 1)
    stored_more room h es ez =
        record { long = d.long; filled = filled_more d.filled (rw (count g) room) (pos 0) (rw (count g) h) (ez ∙ score_there h d.place g d.long es); place = next_place h d.place }

    pub stored_end : n ≤ i → new ≡ all g bs at n c ++ drop n old
    stored_end h = let f = filled_end d.filled (rw (count g) h) in rw (count g) at f
