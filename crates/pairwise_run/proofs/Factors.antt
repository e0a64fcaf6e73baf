-- The moves on the files that serve: those of a sheet whose factors are all 1 are the call's, and so are those on derived files.
use mathlib.Core.Path.{◌≡◌, ap, ◌∙◌}
use mathlib.Core.Bool.{Bool, true}
use mathlib.Core.List.{List, ◌++◌}
use Prim.Native.Nat.{ℕ}
use lib.ListN.{length, take, drop, replicate}
use Rattle.frank_wolfe.specs.Vectors.{sum}
use Rattle.files.specs.Book.{boats}
use Rattle.files.specs.Sheet.{sheet, files_refusal}
use Rattle.files.proofs.Accepted.{files_accepted}
use Rattle.factors.specs.Factors.{all_ones}
use Rattle.method.specs.Problem.{Problem, fixed, weight, plain_terms, call_problem, problem}
use Rattle.method.specs.Plain.{plain_problem}
use Rattle.repeated_columns.specs.Repeating.{plain_of}
use Rattle.buffers.specs.Placed.{placed}
use Rattle.derived_files.specs.Derived.{derived_book, derived_sheet}
use Rattle.factored_run.proofs.Factored.{plain_is, twin, book_is, sheet_is, derived_boats}
use Rattle.pairwise.specs.Moves.{moves}
use Rattle.pairwise.specs.Twin.{SameMoves, WorkedTwin}
use Rattle.pairwise.proofs.Twin.{worked_twin}

module _ (b s : List ℕ) (ok : files_refusal b s ≡ 0) where
  pub plain_moves : {t : Bool} → t ≡ all_ones (sheet s).factors → t ≡ true → (allowed : ℕ) (qs rest : List ℕ) {now : List ℕ} →
      now ≡ moves allowed (plain_problem fixed b s) qs ++ rest → now ≡ moves allowed (problem b s) qs ++ rest
  plain_moves e h allowed qs rest q = q ∙ ap (λ (p : Problem). moves allowed p qs ++ rest) (plain_is b s ok e plain_terms h)

  same : SameMoves (problem b s)
  unfolding call_problem WorkedTwin
  same = worked_twin (problem b s) (files_accepted b s ok).1.factor_count

  -- the derived book put into 32,780 bytes, and the sheet into 144
  module _ {fs : List ℕ} (ef : fs ≡ (sheet s).factors) {own : List ℕ} (eo : own ≡ placed (replicate 32780 0) 0 (derived_book fs b)) {n : ℕ} (en : n ≡ length (derived_book fs b))
      {own' : List ℕ} (eo' : own' ≡ placed (replicate 144 0) 0 (derived_sheet fs s)) {k : ℕ} (ek : k ≡ length (derived_sheet fs s)) where
    derived_is : plain_problem fixed (take n own) (take k own') ≡ plain_of (problem b s)
    unfolding call_problem
    derived_is = rw (book_is b s ok ef eo en, sheet_is b s ok ef eo en eo' ek) ((twin b s ok).plain_twin plain_terms)

    derived_steps : (sheet (take k own')).steps ≡ (sheet s).steps
    unfolding plain_problem plain_of call_problem
    derived_steps = ap (λ (p : Problem). p.steps) derived_is

    pub derived_total : (shares : List ℕ) → sum (take (boats b) shares) ≡ weight fixed (sheet s).steps → sum (take (boats (take n own)) shares) ≡ weight fixed (sheet (take k own')).steps
    derived_total shares q = rw (derived_boats b s ok ef eo en eo' ek, derived_steps) q

    pub derived_moves : (allowed : ℕ) (shares : List ℕ) {now : List ℕ} →
        now ≡ moves allowed (plain_problem fixed (take n own) (take k own')) (take (boats (take n own)) shares) ++ drop (boats (take n own)) shares →
        now ≡ moves allowed (problem b s) (take (boats b) shares) ++ drop (boats b) shares
    derived_moves allowed shares q = q ∙ rw (derived_is, derived_boats b s ok ef eo en eo' ek, same.same_moves)
