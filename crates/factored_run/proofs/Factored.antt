-- A sheet whose factors are all 1 makes a plain problem; any other is of the edition WSH2, and its derived files have the same run and answers.
use mathlib.Core.Path.{◌≡◌, sym, ap, ◌∙◌}
use mathlib.Core.Bool.{Bool, true, false}
use mathlib.Core.List.{List, ◌++◌}
use Prim.Native.Nat.{ℕ, ◌≤◌}
use lib.ListN.{length, take, drop, replicate}
use Rattle.frank_wolfe.specs.Vectors.{ones, sum}
use Rattle.files.specs.Book.{boats, columns, book_refusal}
use Rattle.files.specs.Sheet.{sheet, SheetWhole, WSH2, sheet_lettered, files_refusal}
use Rattle.files.specs.Fits.{BookFits, SheetFits}
use Rattle.files.proofs.Accepted.{files_accepted}
use Rattle.factors.specs.Factors.{all_ones}
use Rattle.factors.proofs.Factors.{all_ones_are, second_edition}
use Rattle.method.specs.declared.Test.{Test}
use Rattle.method.specs.declared.Answer.{Answer}
use Rattle.method.specs.Problem.{Problem, Terms, weight, call_problem}
use Rattle.method.specs.Plain.{plain_problem}
use Rattle.method.specs.Answers.{run_answer, run_iterate}
use Rattle.method.specs.Bounds.{answer_of}
use Rattle.method.specs.Promise.{without_set}
use Rattle.repeated_columns.specs.Repeating.{plain_of, PlainTwin, SameRuns}
use Rattle.repeated_columns.proofs.Repeating.{plain_twin}
use Rattle.buffers.specs.Placed.{placed}
use Rattle.buffers.proofs.Writing.{front_inside, front_taken}
use Rattle.derived_files.specs.Derived.{derived_book, derived_sheet}
use Rattle.derived_files.specs.Accepted.{twin_book, twin_sheet, TwinFiles, FilesTwin}
use Rattle.derived_files.proofs.Files.{book_passed, files_twin}

module _ (b s : List ℕ) (ok : files_refusal b s ≡ 0) where
  f : BookFits b
  f = (files_accepted b s ok).0

  g : SheetFits (columns b) s
  g = (files_accepted b s ok).1

  pub whole : SheetWhole s
  whole = g.whole

  -- ---- Every factor 1
  module _ {t : Bool} (e : t ≡ all_ones (sheet s).factors) where
    module _ (m : Terms) (h : t ≡ true) where
      pub plain_is : plain_problem m.schedule b s ≡ call_problem (without_set m) b s
      unfolding call_problem plain_problem
      plain_is =
          let n : (sheet s).factors ≡ ones (columns b) = all_ones_are (sheet s).factors (sym e ∙ h) ∙ ap ones g.factor_count in
          rw n

      pub plain_run : {a : Answer} → a ≡ run_answer (plain_problem m.schedule b s) → a ≡ run_answer (call_problem (without_set m) b s)
      plain_run q = q ∙ ap run_answer plain_is

      pub plain_shares : (rest : List ℕ) {now : List ℕ} → now ≡ (run_iterate (plain_problem m.schedule b s)).shares ++ rest → now ≡ (run_iterate (call_problem (without_set m) b s)).shares ++ rest
      plain_shares rest q = q ∙ ap (λ (p : Problem). (run_iterate p).shares ++ rest) plain_is

      pub plain_answer : (test : Test) (qs : List ℕ) (k : ℕ) {a : Answer} → a ≡ answer_of test (plain_problem m.schedule b s) qs k → a ≡ answer_of test (call_problem (without_set m) b s) qs k
      plain_answer test qs k q = q ∙ ap (λ (p : Problem). answer_of test p qs k) plain_is

    pub lettered : t ≡ false → sheet_lettered WSH2 s ≡ true
    lettered h = second_edition s whole (sym e ∙ h)

  -- ---- Derived files
  pub twin : TwinFiles b s
  unfolding FilesTwin
  twin = files_twin b s ok

  pub same : (m : Terms) → SameRuns (call_problem (without_set m) b s)
  unfolding call_problem PlainTwin
  same m = plain_twin (call_problem (without_set m) b s) g.factor_count

  module _ {fs : List ℕ} (ef : fs ≡ (sheet s).factors) where
    pub book_derivable : (book_refusal b ≡ 0) × ((length fs ≡ columns b) × (sum fs ≤ 64))
    book_derivable = (book_passed b s ok, rw ef (g.factor_count, g.few_factors))

    pub sheet_derivable : SheetFits (length fs) s × ((length fs ≤ 64) × (sum fs ≤ 64))
    sheet_derivable = rw ef (rw g.factor_count (g, (f.most_columns, g.few_factors)))

    -- the book put into 32,780 bytes, and the sheet into 144
    module _ {own : List ℕ} (eo : own ≡ placed (replicate 32780 0) 0 (derived_book fs b)) {n : ℕ} (en : n ≡ length (derived_book fs b)) where
      room : length (derived_book fs b) ≤ 32780
      room = rw ef twin.book_fits

      pub book_inside : n ≤ length own
      book_inside = front_inside (replicate 32780 0) (derived_book fs b) eo en room

      pub book_is : take n own ≡ twin_book b s
      book_is = front_taken (replicate 32780 0) (derived_book fs b) eo en room ∙ rw ef

      module _ {own' : List ℕ} (eo' : own' ≡ placed (replicate 144 0) 0 (derived_sheet fs s)) {k : ℕ} (ek : k ≡ length (derived_sheet fs s)) where
        room' : length (derived_sheet fs s) ≤ 144
        room' = rw ef twin.sheet_fits

        pub sheet_inside : k ≤ length own'
        sheet_inside = front_inside (replicate 144 0) (derived_sheet fs s) eo' ek room'

        pub sheet_is : take k own' ≡ twin_sheet s
        sheet_is = front_taken (replicate 144 0) (derived_sheet fs s) eo' ek room' ∙ rw ef

        pub derived_passed : files_refusal (take n own) (take k own') ≡ 0
        derived_passed = rw (book_is, sheet_is) twin.accepted

        pub derived_boats : boats (take n own) ≡ boats b
        derived_boats = rw book_is twin.same_boats

        derived_is : (m : Terms) → plain_problem m.schedule (take n own) (take k own') ≡ plain_of (call_problem (without_set m) b s)
        unfolding call_problem
        derived_is m = rw (book_is, sheet_is) (twin.plain_twin m)

        pub derived_run : (m : Terms) {a : Answer} → a ≡ run_answer (plain_problem m.schedule (take n own) (take k own')) → a ≡ run_answer (call_problem (without_set m) b s)
        derived_run m q = q ∙ ap run_answer (derived_is m) ∙ (same m).same_answer

        pub derived_shares : (m : Terms) (slots : List ℕ) {now : List ℕ} → now ≡ (run_iterate (plain_problem m.schedule (take n own) (take k own'))).shares ++ drop (boats (take n own)) slots →
            now ≡ (run_iterate (call_problem (without_set m) b s)).shares ++ drop (boats b) slots
        derived_shares m slots q = q ∙ rw (derived_is m, (same m).same_shares, derived_boats)

        pub derived_answer : (m : Terms) (test : Test) (shares : List ℕ) (t : ℕ) {a : Answer} →
            a ≡ answer_of test (plain_problem m.schedule (take n own) (take k own')) (take (boats (take n own)) shares) t → a ≡ answer_of test (call_problem (without_set m) b s) (take (boats b) shares) t
        derived_answer m test shares t q = q ∙ rw (derived_is m, derived_boats, (same m).same_of)

        pub derived_total : (m : Terms) (shares : List ℕ) (t : ℕ) → sum (take (boats b) shares) ≡ weight m.schedule t → sum (take (boats (take n own)) shares) ≡ weight m.schedule t
        derived_total m shares t q = rw derived_boats q
