-- The answer of shares, one a boat, that total what t steps give: what the residual and the scores give is that of the definitions.
use mathlib.Core.Path.{◌≡◌, sym, ap, ◌∙◌}
use mathlib.Core.List.{List}
use Prim.Native.Nat.{ℕ, ◌*◌, ◌≤◌}
use native.Mathlib.Omega.{arith}
use lib.IntN.{ℤ}
use lib.ListN.{length, take, drop}
use lib.Seq.{length-take-le}
use mir.Syntax.{w64}
use mir.Val.{to_z, of_z}
use Rattle.integers.proofs.Bounds.{read}
use Rattle.frank_wolfe.specs.Vectors.{subtract, scale, ones, sum, combination}
use Rattle.files.specs.Bytes.{values}
use Rattle.files.specs.Book.{boats, columns, rows, rows_from}
use Rattle.files.specs.Sheet.{sheet, files_refusal}
use Rattle.files.proofs.Access.{rows_at}
use Rattle.files.specs.Limits.{step_limit, total_limit, entry_limit}
use Rattle.method.specs.declared.Test.{Test}
use Rattle.method.specs.declared.Answer.{Answer}
use Rattle.method.specs.Problem.{Schedule, weight}
use Rattle.method.specs.Plain.{plain_problem}
use Rattle.method.specs.Iterates as M
use Rattle.method.specs.Iterates.{Iterate, residual}
use Rattle.method.specs.Bounds.{mixture_iterate, answer_of}
use Rattle.method.specs.Minimum.{minimum}
use Rattle.method.proofs.Schedules.{ScheduleSized}
use Rattle.method.proofs.Argmin.{argmin_at}
use Rattle.method.proofs.Shares.{Mixed, shares_mixed}
use Rattle.method.proofs.Mixtures.{residual_bounded}
use Rattle.method.proofs.Plain.{in_range}
use Rattle.scoring.specs.declared.Least.{Least}
use Rattle.sums.specs.Operands.{Bounded, Grid}
use Rattle.scoring.specs.Scores.{least_of}
use Rattle.iteration.specs.declared.Layout.{Layout}
use Rattle.iteration.specs.States.{file_layout}
use Rattle.iteration.specs.Measures.{measure, Measurable}
use Rattle.iteration.proofs.Mixed.{least_size, mixed_answerable, mixed_answer}
use Rattle.iteration.proofs.States.{book_fits, target_span, target_is, grid, bounded_front}

pub all_rows : (b s : List ℕ) → files_refusal b s ≡ 0 → {l : Layout} → l ≡ file_layout b s → Grid b l.rows l.boats l.columns
unfolding file_layout
all_rows b s ok e = rw e (grid b s ok)

module _ (b s : List ℕ) (ok : files_refusal b s ≡ 0) {a : Schedule} (S : ScheduleSized a) {l : Layout} (e : l ≡ file_layout b s) (shares : List ℕ) {t : ℕ} (some : 1 ≤ t) (few : t ≤ step_limit)
    (total : sum (take (boats b) shares) ≡ weight a t) where
  pub few_shares : sum (take (boats b) shares) ≤ total_limit
  few_shares = rw total (S.most_total t few)

  module _ (slots : length shares ≡ 256) where
    abbrev x : Iterate
    x = mixture_iterate (plain_problem a b s) (take (boats b) shares)

    abbrev r : List ℤ
    r = residual (plain_problem a b s) t (mixture_iterate (plain_problem a b s) (take (boats b) shares))

    abbrev w : ℕ
    w = weight a t

    mixed : Mixed (plain_problem a b s) t x
    unfolding plain_problem
    mixed =
        shares_mixed (plain_problem a b s) t (take (boats b) shares)
        (length-take-le (boats b) shares (omega (arith, (book_fits b s ok).most_boats)) ∙ sym (book_fits b s ok).row_count) total

    -- ---- The residual and the scores of the code

    module _ (now : List ℤ) (n : length now ≡ 64)
        (en : take (columns b) now ≡ subtract (combination (columns b) (take (boats b) shares) (rows b)) (scale (sum (take (boats b) shares)) (sheet s).target)) where
      residual_is : take (columns b) now ≡ r
      unfolding plain_problem residual
      residual_is = en ∙ rw total

      pub entries : Bounded entry_limit l.columns now
      unfolding plain_problem file_layout
      entries = rw e (bounded_front b s ok (4000 * w) now r n residual_is (residual_bounded (in_range b s ok S) mixed).each (omega (arith, S.most_total t few)))

      module _ {lo : Least} (h : lo ≡ least_of (M.scores (ones l.columns) (take l.columns now) (rows_from l.boats l.columns (drop l.rows b)))) where
        scored : lo ≡ least_of (M.scores (ones (columns b)) r (rows b))
        unfolding file_layout
        scored = rw (e, residual_is, ← rows_at b) at h

        least_is : lo.score ≡ minimum (M.scores (ones (columns b)) r (rows b))
        unfolding least_of
        least_is = ap (λ (x : Least). x.score) scored ∙ argmin_at (M.scores (ones (columns b)) r (rows b))

        -- the least score as the machine has it
        least_read : to_z w64 (of_z w64 lo.score) ≡ minimum (M.scores (ones (columns b)) r (rows b))
        least_read = rw least_is (read w64 33269760000000 (omega (arith, least_size b s ok S some few mixed, S.most_total t few)) tt)

        pub measurable : Measurable now (weight a t) (to_z w64 (of_z w64 lo.score)) s l
        unfolding file_layout
        measurable =
            rw (e, least_read)
            (record {
              target = target_span b s ok;
              entries = rw e at entries;
              numbers = rw (residual_is, target_is b s ok) (mixed_answerable b s ok S some few mixed);
            })

        pub answered : (test : Test) {z : Answer} →
            z ≡ measure test t (weight a t) (sheet s).tolerance (take l.columns now) (values l.columns (drop l.target s)) (to_z w64 (of_z w64 lo.score)) →
            z ≡ answer_of test (plain_problem a b s) (take (boats b) shares) t
        unfolding file_layout
        answered test f = f ∙ rw (e, least_read, residual_is, target_is b s ok) (mixed_answer b s ok S some few mixed test)
