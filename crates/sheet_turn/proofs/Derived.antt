-- What holds on the files of the plain twin holds on the bytes that a call derives, and the other way round.
use mathlib.Core.Path.{◌≡◌, subst}
use mathlib.Core.List.{List, ◌++◌}
use Prim.Native.Nat.{ℕ}
use lib.ListN.{length, take, drop, replicate}
use lib.IntN.{ℤ}
use Rattle.files.specs.Book.{boats}
use Rattle.files.specs.Sheet.{sheet, files_refusal}
use Rattle.buffers.specs.Placed.{placed}
use Rattle.derived_files.specs.Derived.{derived_book, derived_sheet}
use Rattle.derived_files.specs.Accepted.{twin_book, twin_sheet}
use Rattle.method.specs.Problem.{fixed}
use Rattle.factored_run.proofs.Factored.{book_is, sheet_is}
use Rattle.iteration.specs.declared.State.{State}
use Rattle.iteration.specs.States.{iterate_of, Holds}
use Rattle.run_loop.specs.Runs.{SharesAt, ScoresAt}

module _ (b s : List ℕ) (ok : files_refusal b s ≡ 0) {fs : List ℕ} (ef : fs ≡ (sheet s).factors)
    {own : List ℕ} (eo : own ≡ placed (replicate 32780 0) 0 (derived_book fs b)) {n : ℕ} (en : n ≡ length (derived_book fs b))
    {own' : List ℕ} (eo' : own' ≡ placed (replicate 144 0) 0 (derived_sheet fs s)) {m : ℕ} (em : m ≡ length (derived_sheet fs s)) where
  there : (P : List ℕ → List ℕ → Type 0) → P (twin_book b s) (twin_sheet s) → P (take n own) (take m own')
  there P h = rw (book_is b s ok ef eo en, sheet_is b s ok ef eo en eo' em) h

  back : (P : List ℕ → List ℕ → Type 0) → P (take n own) (take m own') → P (twin_book b s) (twin_sheet s)
  back P h = subst (λ (x : List ℕ). P x (twin_sheet s)) (book_is b s ok ef eo en) (subst (λ (y : List ℕ). P (take n own) y) (sheet_is b s ok ef eo en eo' em) h)

  pub holds_there : {t : ℕ} {x : State} → Holds fixed (twin_book b s) (twin_sheet s) t x → Holds fixed (take n own) (take m own') t x
  holds_there {t} {x} h = there (λ (c d : List ℕ). Holds fixed c d t x) h

  pub holds_back : {t : ℕ} {x : State} → Holds fixed (take n own) (take m own') t x → Holds fixed (twin_book b s) (twin_sheet s) t x
  holds_back {t} {x} h = back (λ (c d : List ℕ). Holds fixed c d t x) h

  pub shares_there : {t : ℕ} {qs : List ℕ} → SharesAt fixed (twin_book b s) (twin_sheet s) t qs → SharesAt fixed (take n own) (take m own') t qs
  shares_there {t} {qs} h = there (λ (c d : List ℕ). SharesAt fixed c d t qs) h

  pub shares_back : (t : ℕ) (old : List ℕ) {qs : List ℕ} → qs ≡ (iterate_of fixed (take n own) (take m own') t).shares ++ drop (boats (take n own)) old →
      qs ≡ (iterate_of fixed (twin_book b s) (twin_sheet s) t).shares ++ drop (boats (twin_book b s)) old
  shares_back t old {qs} h = back (λ (c d : List ℕ). qs ≡ (iterate_of fixed c d t).shares ++ drop (boats c) old) h

  pub scores_there : {t : ℕ} {ps : List ℤ} → ScoresAt fixed (twin_book b s) (twin_sheet s) t ps → ScoresAt fixed (take n own) (take m own') t ps
  scores_there {t} {ps} h = there (λ (c d : List ℕ). ScoresAt fixed c d t ps) h

  pub scores_back : {t : ℕ} {ps : List ℤ} → ScoresAt fixed (take n own) (take m own') t ps → ScoresAt fixed (twin_book b s) (twin_sheet s) t ps
  scores_back {t} {ps} h = back (λ (c d : List ℕ). ScoresAt fixed c d t ps) h
