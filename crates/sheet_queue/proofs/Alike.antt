-- Queues that ask for the same give the same.
use mathlib.Core.Path.{◌≡◌, refl, sym, ap, ◌∙◌}
use mathlib.Core.Logic.{◌⊎◌, ⊎_elim}
use mathlib.Core.Bool.{cond}
use mathlib.Core.List.{List, [], ◌∷◌, map}
use Prim.Native.Nat.{ℕ, suc}
use native.Mathlib.Omega.{arith}
use native.Mathlib.Nat.{suc_inj}
use borrow.Author.Tests.{eq-eqb}
use lib.Dec.{eqb}
use lib.ListN.{length}
use Rattle.frank_wolfe.specs.Vectors.{sum}
use Rattle.files.specs.Book.{columns, book_refusal}
use Rattle.files.specs.Sheet.{sheet_refusal}
use Rattle.files.specs.Editions.{Editions, EditionsAlike}
use Rattle.files.specs.Front.{SheetFrontUnread, FilesFrontUnread, FilesAlike, SameBook, SameSheet, same_file, other_front}
use Rattle.files.proofs.Editions.{editions_alike}
use Rattle.files.proofs.Front.{sheet_front_unread, files_front_unread}
use Rattle.method.specs.Problem.{Problem, plain_terms, problem}
use Rattle.method.proofs.Promise.{same_problem, problem_behind}
use Rattle.sheet_queue.specs.declared.SheetRecord.{SheetRecord}
use Rattle.sheet_queue.specs.Queue.{lengths, sheets_of, problems, queue_steps, sheets_refusal, refusal_ahead, refusal_of, record_of, records_of, shares_of, filled, records_after, queue_slots_after}
use Rattle.sheet_queue.specs.Alike.{Each, no_sheet, one_more, SameOrEdition, Exchanged, unmeasured, SameQueue}
use Rattle.sheet_queue.proofs.Records.{lengths_count, sheets_count}

-- records without their lengths do not depend on lengths
lengths_aside : (ns ms : List ℕ) → length ms ≡ length ns → (ps : List Problem) (ks : List ℕ) → map unmeasured (records_of ms ps ks) ≡ map unmeasured (records_of ns ps ks)
unfolding records_of unmeasured record_of
lengths_aside [] [] h ps ks = refl
lengths_aside [] (m ∷ ms) h ps ks = absurd (omega arith)
lengths_aside (n ∷ ns) [] h ps ks = absurd (omega arith)
lengths_aside (n ∷ ns) (m ∷ ms) h [] ks = refl
lengths_aside (n ∷ ns) (m ∷ ms) h (p ∷ ps) [] = refl
lengths_aside (n ∷ ns) (m ∷ ms) h (p ∷ ps) (k ∷ ks) = ap (λ (rs : List SheetRecord). unmeasured (record_of n p k) ∷ rs) (lengths_aside ns ms (suc_inj h) ps ks)

alike_count : {Alike : List ℕ → List ℕ → Type 0} {ss ss' : List (List ℕ)} → Each Alike ss ss' → length ss' ≡ length ss
alike_count no_sheet = refl
alike_count (one_more d e) = ap suc (alike_count e)

-- of sheets that are alike: the same problems, the same refusal
module _ {Alike : List ℕ → List ℕ → Type 0} (b b' : List ℕ) (same_columns : columns b' ≡ columns b) (same_numbers : book_refusal b' ≡ book_refusal b)
    (of_sheet : (s s' : List ℕ) → Alike s s' → (problem b' s' ≡ problem b s) × (sheet_refusal (columns b) s' ≡ sheet_refusal (columns b) s)) where
  alike_problems : {ss ss' : List (List ℕ)} → Each Alike ss ss' → problems b' ss' ≡ problems b ss
  unfolding problems
  alike_problems no_sheet = refl
  alike_problems (one_more {s} {s'} {ss} {ss'} d e) = ap (λ (p : Problem). p ∷ map (problem b') ss') (of_sheet s s' d).0 ∙ ap (λ (ps : List Problem). problem b s ∷ ps) (alike_problems e)

  alike_refusal : {ss ss' : List (List ℕ)} → Each Alike ss ss' → sheets_refusal (columns b) ss' ≡ sheets_refusal (columns b) ss
  unfolding sheets_refusal
  alike_refusal no_sheet = refl
  alike_refusal (one_more {s} {s'} {ss} {ss'} d e) = rw ((of_sheet s s' d).1, alike_refusal e)

  module _ (a : ℕ) {queue other : List SheetRecord} {bs bs' : List ℕ} (x : Exchanged Alike queue bs other bs') (slots : List ℕ) where
    same_count : length (lengths other) ≡ length (lengths queue)
    same_count = sym (sheets_count (lengths other) bs') ∙ alike_count x.each ∙ sheets_count (lengths queue) bs

    same_problems : problems b' (sheets_of (lengths other) bs') ≡ problems b (sheets_of (lengths queue) bs)
    same_problems = alike_problems x.each

    same_refusal : refusal_of (length (lengths other)) b' (lengths other) bs' a (length slots) ≡ refusal_of (length (lengths queue)) b (lengths queue) bs a (length slots)
    unfolding refusal_ahead refusal_of
    same_refusal = rw (same_count, same_columns, same_numbers, alike_refusal x.each, eq-eqb (sum (lengths other)) (length bs') x.other_total, eq-eqb (sum (lengths queue)) (length bs) x.total)

    same_records : map unmeasured (records_after 0 b' bs' a other) ≡ map unmeasured (records_after 0 b bs a queue)
    unfolding records_after
    same_records = rw same_problems (lengths_aside (lengths queue) (lengths other) same_count (problems b (sheets_of (lengths queue) bs)) (queue_steps a (problems b (sheets_of (lengths queue) bs))))

    same_slots : queue_slots_after 0 b' bs' a other slots ≡ queue_slots_after 0 b bs a queue slots
    unfolding queue_slots_after
    same_slots = rw same_problems

    pub same_queue : SameQueue b bs a queue b' bs' other slots
    same_queue = record { refusal = same_refusal; records = same_records; shares = same_slots }

-- what editions and front text leave the same of a sheet
pub of_edition : (b s s' : List ℕ) → SameOrEdition s s' → (problem b s' ≡ problem b s) × (sheet_refusal (columns b) s' ≡ sheet_refusal (columns b) s)
unfolding EditionsAlike
of_edition b s s' d =
    ⊎_elim (λ (e : s' ≡ s). (rw e, rw e)) (λ (e : Editions s s'). (same_problem plain_terms b s s' e, sym ((editions_alike s s' e).1 (columns b) (columns b)))) d

front_refusal : (c : ℕ) (s s' : List ℕ) → SameSheet s s' → sheet_refusal c s' ≡ sheet_refusal c s
unfolding SheetFrontUnread
front_refusal c s s' same_file = refl
front_refusal c s s' (other_front f g x w h k) = (sheet_front_unread g f x c c w k h).1

fronts_alike : (b b' s s' : List ℕ) → SameBook b b' → SameSheet s s' → FilesAlike b s b' s'
unfolding FilesFrontUnread
fronts_alike b b' s s' d e = files_front_unread b s b' s' d e

pub book_alike : (b b' : List ℕ) → SameBook b b' → (columns b' ≡ columns b) × (book_refusal b' ≡ book_refusal b)
book_alike b b' d = let f = fronts_alike b b' [] [] d same_file in (f.columns, f.book_refusal)

pub of_front : (b b' : List ℕ) → SameBook b b' → (s s' : List ℕ) → SameSheet s s' → (problem b' s' ≡ problem b s) × (sheet_refusal (columns b) s' ≡ sheet_refusal (columns b) s)
of_front b b' d s s' e = (problem_behind plain_terms (fronts_alike b b' s s' d e), front_refusal (columns b) s s' e)
