-- An accepted fleet book and sheet with some shares and every factor 1: what the code needs of its iterates.
use mathlib.Core.Path.{◌≡◌}
use mathlib.Core.List.{List}
use Prim.Native.Nat.{ℕ, ◌*◌, ◌≤◌}
use native.Mathlib.Omega.{arith}
use lib.IntN.{pos, nat_abs}
use lib.ListN.{length, get_or}
use Rattle.files.specs.Book.{boats, columns}
use Rattle.files.specs.Sheet.{files_refusal}
use Rattle.files.proofs.Accepted.{files_accepted}
use Rattle.frank_wolfe.specs.Vectors.{ones, sum}
use Rattle.frank_wolfe.proofs.Vectors.{sum_ones}
use Rattle.method.specs.Problem.{Schedule, weight}
use Rattle.method.specs.Plain.{plain_problem}
use Rattle.method.specs.Iterates.{residual, iterate}
use Rattle.method.proofs.Shares.{Mixed, mixed_length}
use Rattle.method.proofs.Mixtures.{WellFormed, InRange, length_residual, residual_bounded}
use Rattle.method.proofs.Schedules.{ScheduleSized}
use Rattle.method.proofs.Accepted.{well_formed_with, in_range_with, mixed_with, share_count_with}

module _ (b s : List ℕ) (ok : files_refusal b s ≡ 0) where
  pub few_ones : sum (ones (columns b)) ≤ 64
  few_ones = omega (arith, sum_ones (columns b), (files_accepted b s ok).0.most_columns)

  module _ {a : Schedule} (S : ScheduleSized a) where
    pub well_formed : WellFormed (plain_problem a b s)
    unfolding plain_problem
    well_formed = well_formed_with b s ok S (ones (columns b)) few_ones

    pub in_range : InRange (plain_problem a b s)
    unfolding plain_problem
    in_range = in_range_with b s ok S (ones (columns b)) few_ones

    pub mixed : (t : ℕ) → Mixed (plain_problem a b s) t (iterate (plain_problem a b s) t)
    unfolding plain_problem
    mixed = mixed_with b s ok S (ones (columns b)) few_ones

    pub residual_length : (t : ℕ) → length (residual (plain_problem a b s) t (iterate (plain_problem a b s) t)) ≡ columns b
    unfolding plain_problem
    residual_length t = length_residual well_formed t _ (mixed_length well_formed.wide (mixed t))

    pub residual_entries : (t j : ℕ) → nat_abs (get_or (residual (plain_problem a b s) t (iterate (plain_problem a b s) t)) j (pos 0)) ≤ 4000 * weight a t
    unfolding plain_problem
    residual_entries t j = (residual_bounded in_range (mixed t)).each j

    pub share_count : (t : ℕ) → length (iterate (plain_problem a b s) t).shares ≡ boats b
    unfolding plain_problem
    share_count = share_count_with b s ok S (ones (columns b)) few_ones
