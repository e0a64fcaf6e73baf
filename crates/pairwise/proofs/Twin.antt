-- The moves of a problem with factors are those of its plain twin.
use mathlib.Core.Path.{◌≡◌, refl, ap₂, ◌∙◌}
use mathlib.Core.List.{List}
use Prim.Native.Nat.{ℕ, zero, suc}
use lib.IntN.{ℤ}
use lib.ListN.{length}
use Rattle.frank_wolfe.specs.Vectors.{subtract, scale, sum, combination}
use Rattle.method.specs.declared.Test.TheVariants.{Sharper}
use Rattle.method.specs.Problem.{Problem}
use Rattle.method.specs.Iterates.{row}
use Rattle.method.specs.Answers.{run_iterate, run_answer}
use Rattle.repeated_columns.specs.Repeating.{repeated, plain_of, PlainTwin, SameRuns}
use Rattle.repeated_columns.proofs.Repeating.{repeated_subtract, repeated_scale, repeated_combination, repeated_row, repeated_norm, repeated_scores, plain_twin}
use Rattle.pairwise.specs.Moves.{shares_residual, shares_scores, giver, taker, slope, apart, amount, moved, moves, moves_made, worked_shares, worked_answer}
use Rattle.pairwise.specs.Twin.{SameMoves, WorkedTwin}

module _ (p : Problem) (e : length p.factors ≡ p.columns) where
  abbrev fs : List ℕ
  fs = p.factors

  abbrev vs : List (List ℤ)
  vs = p.vertices

  pub plain_residual : (qs : List ℕ) → shares_residual (plain_of p) qs ≡ repeated fs (shares_residual p qs)
  unfolding shares_residual plain_of
  plain_residual qs =
      ap₂ subtract (repeated_combination fs p.columns e qs vs) (repeated_scale fs (sum qs) p.target)
      ∙ repeated_subtract fs (combination p.columns qs vs) (scale (sum qs) p.target)

  pub plain_scores : (qs : List ℕ) → shares_scores (plain_of p) qs ≡ shares_scores p qs
  unfolding shares_scores plain_of
  plain_scores qs = rw (plain_residual qs) (repeated_scores fs (shares_residual p qs) vs)

  plain_giver : (qs : List ℕ) → giver (plain_of p) qs ≡ giver p qs
  unfolding giver
  plain_giver qs = rw (plain_scores qs)

  plain_taker : (qs : List ℕ) → taker (plain_of p) qs ≡ taker p qs
  unfolding taker
  plain_taker qs = rw (plain_scores qs)

  plain_slope : (qs : List ℕ) → slope (plain_of p) qs ≡ slope p qs
  unfolding slope
  plain_slope qs = rw (plain_giver qs, plain_taker qs, plain_scores qs)

  plain_apart : (qs : List ℕ) → apart (plain_of p) qs ≡ apart p qs
  unfolding apart plain_of
  plain_apart qs =
      let v = row vs (giver p qs) in
      let s = row vs (taker p qs) in
      rw (plain_giver qs, plain_taker qs, repeated_row fs vs (giver p qs), repeated_row fs vs (taker p qs), repeated_subtract fs v s) (repeated_norm fs (subtract v s))

  plain_amount : (qs : List ℕ) → amount (plain_of p) qs ≡ amount p qs
  unfolding amount
  plain_amount qs = rw (plain_slope qs, plain_giver qs, plain_apart qs)

  plain_moved : (qs : List ℕ) → moved (plain_of p) qs ≡ moved p qs
  unfolding moved
  plain_moved qs = rw (plain_giver qs, plain_taker qs, plain_amount qs)

  plain_moves : (n : ℕ) (qs : List ℕ) → moves n (plain_of p) qs ≡ moves n p qs
  unfolding moves
  plain_moves zero qs = refl
  plain_moves (suc n) qs = rw (plain_amount qs, plain_moved qs, plain_moves n (moved p qs))

  plain_made : (n : ℕ) (qs : List ℕ) → moves_made n (plain_of p) qs ≡ moves_made n p qs
  unfolding moves_made
  plain_made zero qs = refl
  plain_made (suc n) qs = rw (plain_amount qs, plain_moved qs, plain_made n (moved p qs))

  runs : SameRuns p
  unfolding PlainTwin
  runs = plain_twin p e

  plain_shares : (n : ℕ) → worked_shares (plain_of p) n ≡ worked_shares p n
  unfolding worked_shares
  plain_shares n = rw runs.same_shares (plain_moves n (run_iterate p).shares)

  plain_answer : (n : ℕ) → worked_answer (plain_of p) n ≡ worked_answer p n
  unfolding worked_answer
  plain_answer n = rw (plain_shares n, runs.same_answer) (runs.same_of Sharper (worked_shares p n) (run_answer p).steps)

  pub same_moves : SameMoves p
  same_moves =
      record {
        same_giver = plain_giver;
        same_taker = plain_taker;
        same_slope = plain_slope;
        same_apart = plain_apart;
        same_amount = plain_amount;
        same_moves = plain_moves;
        same_made = plain_made;
        same_shares = plain_shares;
        same_answer = plain_answer;
      }

pub worked_twin : WorkedTwin
unfolding WorkedTwin
worked_twin p e = same_moves p e
