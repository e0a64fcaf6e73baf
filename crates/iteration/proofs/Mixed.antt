-- What the code finds of any mixture of an accepted fleet book's boats, with plain inner products, is what the definitions say
-- with every factor 1: E, G, how large they are, and the answer. Assumes nothing.
use mathlib.Core.Path.{◌≡◌, sym, ◌∙◌}
use mathlib.Core.List.{List}
use Prim.Native.Nat.{ℕ, ◌*◌, ◌≤◌, ◌<◌}
use native.Mathlib.Nat.{le_refl, lt_of_le_of_lt}
use native.Mathlib.Omega.{arith}
use lib.ListN.{length}
use lib.IntN.{ℤ, pos, nat_abs}
use Rattle.integers.proofs.Order.{≤→≤ℤ}
use Rattle.files.specs.Book.{columns, rows}
use Rattle.files.specs.Sheet.{sheet, files_refusal}
use Rattle.files.specs.Limits.{step_limit, sum_limit}
use Rattle.frank_wolfe.specs.Vectors.{inner, weighted, weighted_norm, ones, squared_norm}
use Rattle.frank_wolfe.proofs.Vectors.{weighted_ones, norm_ones}
use Rattle.method.specs.declared.Test.{Test}
use Rattle.method.specs.Problem.{Schedule, weight}
use Rattle.method.specs.Plain.{plain_problem}
use Rattle.method.specs.Iterates as M
use Rattle.method.specs.Iterates.{Iterate, residual, distance, gap, natural, argmin, row}
use Rattle.method.specs.Answers.{answer_at}
use Rattle.method.specs.Minimum.{minimum}
use Rattle.method.proofs.Weights.{weight_positive, weight_fits}
use Rattle.method.proofs.Schedules.{ScheduleSized}
use Rattle.method.proofs.Argmin.{argmin_below, among_row, least_score}
use Rattle.method.proofs.Shares.{Mixed, mixed_length}
use Rattle.method.proofs.Mixtures.{length_residual, gap_by_distance, gap_is, score_most, distance_most, gap_most}
use Rattle.method.proofs.Plain.{well_formed, in_range}
use Rattle.iteration.specs.Measures.{gap_by, answer_by, measure, Answerable}
use Rattle.iteration.proofs.States.{sheet_fits}

module _ (b s : List ℕ) (ok : files_refusal b s ≡ 0) {a : Schedule} (S : ScheduleSized a) {t : ℕ} {x : Iterate} (some : 1 ≤ t) (few : t ≤ step_limit) (m : Mixed (plain_problem a b s) t x) where
  abbrev u : List ℤ
  u = (sheet s).target

  abbrev r : List ℤ
  r = residual (plain_problem a b s) t x

  abbrev w : ℕ
  w = weight a t

  abbrev scores : List ℤ
  scores = M.scores (ones (columns b)) (residual (plain_problem a b s) t x) (rows b)

  some_weight : 1 ≤ w
  some_weight = weight_positive S.fits some

  long : length x.point ≡ columns b
  unfolding plain_problem
  long = mixed_length (well_formed b s ok S).wide m

  residual_long : length r ≡ columns b
  unfolding plain_problem
  residual_long = length_residual (well_formed b s ok S) t x long

  pub norm_is : weighted_norm (ones (columns b)) r ≡ squared_norm r
  norm_is = norm_ones (columns b) r residual_long

  pub target_inner : weighted (ones (columns b)) r u ≡ inner r u
  target_inner = weighted_ones (columns b) r u residual_long

  gap_integer : gap_by w (squared_norm r) (inner r u) (minimum scores) ≡ pos (gap (plain_problem a b s) t x)
  unfolding plain_problem distance
  gap_integer = rw (← norm_is, ← target_inner) (sym (gap_by_distance (well_formed b s ok S) t x long some_weight) ∙ gap_is (well_formed b s ok S) some_weight m)

  pub least_size : nat_abs (minimum (M.scores (ones (columns b)) r (rows b))) ≤ 512000000 * w
  unfolding plain_problem
  least_size =
      rw (← least_score (ones (columns b)) r (rows b))
      (score_most (well_formed b s ok S) (in_range b s ok S) m (row (rows b) (argmin scores))
      ((in_range b s ok S).rows_bounded _ (among_row (rows b) (argmin scores) (argmin_below (ones (columns b)) r (rows b) (well_formed b s ok S).some_row))))

  square : squared_norm r < sum_limit
  unfolding plain_problem distance
  square = rw (← norm_is) (lt_of_le_of_lt (distance_most (well_formed b s ok S) (in_range b s ok S) m) (weight_fits (S.most_total t few) (le_refl 1024000000)))

  pub mixed_answerable : Answerable (squared_norm r) w (inner r u) (minimum (M.scores (ones (columns b)) r (rows b))) s
  unfolding plain_problem natural
  mixed_answerable =
      record {
        whole = (sheet_fits b s ok).at_least;
        sized = record {
          distance = square;
          few_shares = S.most_total t few;
          first = rw (← target_inner) (score_most (well_formed b s ok S) (in_range b s ok S) m u (in_range b s ok S).target_bounded);
          second = least_size;
          sign = rw gap_integer (≤→≤ℤ {m = 0} {n = gap (plain_problem a b s) t x} (omega arith));
        };
        judged = rw gap_integer (record {
          limit = weight_fits (S.most_total t few) (sheet_fits b s ok).most_tolerance;
          distance = square;
          gap = lt_of_le_of_lt (gap_most (well_formed b s ok S) (in_range b s ok S) m some_weight) (weight_fits (S.most_total t few) (le_refl 1024000000));
        });
      }

  pub mixed_answer : (test : Test) → measure test t w (sheet s).tolerance r u (minimum (M.scores (ones (columns b)) r (rows b))) ≡ answer_at test (plain_problem a b s) t x
  unfolding plain_problem answer_by answer_at distance natural
  mixed_answer test = rw (gap_integer, norm_is)
