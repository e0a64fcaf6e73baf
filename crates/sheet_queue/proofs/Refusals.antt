-- The tests of a queue in their order: what an accepted one passes, and the number of each test that fails.
use mathlib.Core.Path.{◌≡◌, refl, sym, ap, ◌∙◌}
use mathlib.Core.Bool.{Bool, true, false, ◌&&◌, ◌||◌, not, cond}
use mathlib.Core.List.{List, [], ◌∷◌}
use Prim.Native.Nat.{ℕ, zero, suc, ◌+◌, ◌*◌, ◌≤◌, ◌<◌}
use native.Mathlib.Omega.{arith}
use borrow.Author.Tests.{eqb-true, eqb-false, eq-eqb, ne_eqb, ltb-true, ltb-false, lt-ltb, le-ltb}
use lib.Dec.{eqb, ltb, eqb-suc-zero}
use lib.ListN.{length, get_or, take, drop}
use lib.Seq.{drop-cons}
use Rattle.frank_wolfe.specs.Vectors.{sum}
use Rattle.files.specs.Bytes.{between}
use Rattle.files.specs.Book.{columns, book_refusal}
use Rattle.files.specs.Sheet.{sheet_refusal, files_refusal}
use Rattle.files.proofs.Refusal.{and_true, between_true, between_said}
use Rattle.sheet_queue.specs.Queue.{sheets_of, sheets_refusal, accepted_ahead, refusal_ahead, refusal_of, accepted_of}
use Rattle.sheet_queue.proofs.Records.{sheets_count}

-- ---- Sheet by sheet

pub sheets_passed : (c : ℕ) (ss : List (List ℕ)) → sheets_refusal c ss ≡ 0 → (i : ℕ) → i < length ss → sheet_refusal c (get_or ss i []) ≡ 0
unfolding sheets_refusal
sheets_passed c [] e i h = absurd (omega arith)
sheets_passed c (s ∷ ss) e i h = by (λ z j l. sheets_passed c ss z j l) (eqb (sheet_refusal c s) 0) refl e i h
  where
    by : (sheets_refusal c ss ≡ 0 → (i : ℕ) → i < length ss → sheet_refusal c (get_or ss i []) ≡ 0) → (t : Bool) → eqb (sheet_refusal c s) 0 ≡ t → cond t (sheets_refusal c ss) (sheet_refusal c s) ≡ 0 → (i : ℕ) → i < suc (length ss) → sheet_refusal c (get_or (s ∷ ss) i []) ≡ 0
    by more true q e zero h = eqb-true (sheet_refusal c s) 0 q
    by more true q e (suc i) h = more e i (omega arith)
    by more false q e i h = absurd (eqb-false (sheet_refusal c s) 0 q e)

-- what is left of the sheets decides as all do, where those before are not refused
module _ (c : ℕ) (ss : List (List ℕ)) (i : ℕ) (small : i < length ss) where
  left : sheets_refusal c (drop i ss) ≡ cond (eqb (sheet_refusal c (get_or ss i [])) 0) (sheets_refusal c (drop (suc i) ss)) (sheet_refusal c (get_or ss i []))
  unfolding sheets_refusal
  left = rw (drop-cons ss i [] small)

  pub sheet_more : sheet_refusal c (get_or ss i []) ≡ 0 → sheets_refusal c (drop i ss) ≡ sheets_refusal c (drop (suc i) ss)
  sheet_more e = left ∙ rw (eq-eqb (sheet_refusal c (get_or ss i [])) 0 e)

  pub sheet_stops : (sheet_refusal c (get_or ss i []) ≡ 0 → ⊥) → sheets_refusal c (drop i ss) ≡ sheet_refusal c (get_or ss i [])
  sheet_stops h = left ∙ rw (ne_eqb (sheet_refusal c (get_or ss i [])) 0 h)

  left_accepted : accepted_ahead c (drop i ss) ≡ cond (eqb (sheet_refusal c (get_or ss i [])) 0) (suc (accepted_ahead c (drop (suc i) ss))) 0
  unfolding accepted_ahead
  left_accepted = rw (drop-cons ss i [] small)

  pub accepted_more : sheet_refusal c (get_or ss i []) ≡ 0 → accepted_ahead c (drop i ss) ≡ suc (accepted_ahead c (drop (suc i) ss))
  accepted_more e = left_accepted ∙ rw (eq-eqb (sheet_refusal c (get_or ss i [])) 0 e)

  pub accepted_stops : (sheet_refusal c (get_or ss i []) ≡ 0 → ⊥) → accepted_ahead c (drop i ss) ≡ 0
  accepted_stops h = left_accepted ∙ rw (ne_eqb (sheet_refusal c (get_or ss i [])) 0 h)

-- ---- Ahead of the sheets

pub record Ahead (n : ℕ) (b ns bs : List ℕ) (a : ℕ) : Type 0 where
  pub book : book_refusal b ≡ 0
  pub some : 1 ≤ n
  pub most : n ≤ 16
  pub total : sum ns ≡ length bs
  pub enough : n ≤ a
  pub allowance : a ≤ 5760

module _ (n : ℕ) (b ns bs : List ℕ) (a : ℕ) where
  pub by_book : (book_refusal b ≡ 0 → ⊥) → refusal_ahead n b ns bs a ≡ book_refusal b
  unfolding refusal_ahead
  by_book h = rw (ne_eqb (book_refusal b) 0 h)

  module _ (h1 : book_refusal b ≡ 0) where
    -- the number of sheets alone, whatever the lengths
    pub by_count : between 1 16 n ≡ false → refusal_ahead n b ns bs a ≡ 44
    unfolding refusal_ahead
    by_count h = rw (eq-eqb (book_refusal b) 0 h1, h)

    pub by_total : between 1 16 n ≡ true → (sum ns ≡ length bs → ⊥) → refusal_ahead n b ns bs a ≡ 44
    unfolding refusal_ahead
    by_total g h = rw (eq-eqb (book_refusal b) 0 h1, g, ne_eqb (sum ns) (length bs) h)

    module _ (h2 : between 1 16 n ≡ true) (h3 : sum ns ≡ length bs) where
      past : refusal_ahead n b ns bs a ≡ cond (ltb a n || ltb 5760 a) 45 0
      unfolding refusal_ahead
      past = rw (eq-eqb (book_refusal b) 0 h1, h2, eq-eqb (sum ns) (length bs) h3)

      pub by_least : a < n → refusal_ahead n b ns bs a ≡ 45
      by_least h = past ∙ rw (lt-ltb a n h)

      module _ (h4 : n ≤ a) where
        pub by_most : 5760 < a → refusal_ahead n b ns bs a ≡ 45
        by_most h = past ∙ rw (le-ltb a n h4, lt-ltb 5760 a h)

        pub none_ahead : a ≤ 5760 → refusal_ahead n b ns bs a ≡ 0
        none_ahead h = past ∙ rw (le-ltb a n h4, le-ltb 5760 a h)

  pub ahead_passes : refusal_ahead n b ns bs a ≡ 0 → Ahead n b ns bs a
  unfolding refusal_ahead
  ahead_passes e = by (eqb (book_refusal b) 0) refl (between 1 16 n) refl (eqb (sum ns) (length bs)) refl (ltb a n) refl (ltb 5760 a) refl e
    where
      by : (t1 : Bool) → eqb (book_refusal b) 0 ≡ t1 → (t2 : Bool) → between 1 16 n ≡ t2 → (t3 : Bool) → eqb (sum ns) (length bs) ≡ t3 → (t4 : Bool) → ltb a n ≡ t4 → (t5 : Bool) → ltb 5760 a ≡ t5 →
          cond (not t1) (book_refusal b) (cond (not (t2 && t3)) 44 (cond (t4 || t5) 45 0)) ≡ 0 → Ahead n b ns bs a
      by false e1 t2 e2 t3 e3 t4 e4 t5 e5 e = absurd (eqb-false (book_refusal b) 0 e1 e)
      by true e1 false e2 t3 e3 t4 e4 t5 e5 e = absurd (omega arith)
      by true e1 true e2 false e3 t4 e4 t5 e5 e = absurd (omega arith)
      by true e1 true e2 true e3 true e4 t5 e5 e = absurd (omega arith)
      by true e1 true e2 true e3 false e4 true e5 e = absurd (omega arith)
      by true e1 true e2 true e3 false e4 false e5 e =
          record {
            book = eqb-true (book_refusal b) 0 e1;
            some = (between_true 1 16 n e2).0;
            most = (between_true 1 16 n e2).1;
            total = eqb-true (sum ns) (length bs) e3;
            enough = ltb-false a n e4;
            allowance = ltb-false 5760 a e5;
          }

-- ---- The queue

pub record Passes (n : ℕ) (b ns bs : List ℕ) (a slots : ℕ) : Type 0 where
  pub ahead : Ahead n b ns bs a
  pub sheets : sheets_refusal (columns b) (sheets_of ns bs) ≡ 0
  pub room : 256 * n ≤ slots

module _ (n : ℕ) (b ns bs : List ℕ) (a : ℕ) where
  abbrev ahead_of : ℕ
  ahead_of = refusal_ahead n b ns bs a

  abbrev in_sheets : ℕ
  in_sheets = sheets_refusal (columns b) (sheets_of ns bs)

  -- how many sheets are accepted
  pub accepted_none : (ahead_of ≡ 0 → ⊥) → accepted_of n b ns bs a ≡ 0
  unfolding accepted_of
  accepted_none h = rw (ne_eqb ahead_of 0 h)

  pub accepted_some : ahead_of ≡ 0 → accepted_of n b ns bs a ≡ accepted_ahead (columns b) (sheets_of ns bs)
  unfolding accepted_of
  accepted_some h = rw (eq-eqb ahead_of 0 h)

  module _ (slots : ℕ) where
    pub by_ahead : (ahead_of ≡ 0 → ⊥) → refusal_of n b ns bs a slots ≡ ahead_of
    unfolding refusal_of
    by_ahead h = rw (ne_eqb ahead_of 0 h)

    module _ (h1 : ahead_of ≡ 0) where
      further : refusal_of n b ns bs a slots ≡ cond (not (eqb in_sheets 0)) in_sheets (cond (ltb slots (256 * n)) 21 0)
      unfolding refusal_of
      further = rw (eq-eqb ahead_of 0 h1)

      pub by_sheets : (in_sheets ≡ 0 → ⊥) → refusal_of n b ns bs a slots ≡ in_sheets
      by_sheets h = further ∙ rw (ne_eqb in_sheets 0 h)

      module _ (h2 : in_sheets ≡ 0) where
        pub by_room : slots < 256 * n → refusal_of n b ns bs a slots ≡ 21
        by_room h = further ∙ rw (eq-eqb in_sheets 0 h2, lt-ltb slots (256 * n) h)

        pub by_none : 256 * n ≤ slots → refusal_of n b ns bs a slots ≡ 0
        by_none h = further ∙ rw (eq-eqb in_sheets 0 h2, le-ltb slots (256 * n) h)

    pub passes : refusal_of n b ns bs a slots ≡ 0 → Passes n b ns bs a slots
    unfolding refusal_of
    passes e = by (eqb ahead_of 0) refl (eqb in_sheets 0) refl (ltb slots (256 * n)) refl e
      where
        by : (t1 : Bool) → eqb ahead_of 0 ≡ t1 → (t2 : Bool) → eqb in_sheets 0 ≡ t2 → (t3 : Bool) → ltb slots (256 * n) ≡ t3 →
            cond (not t1) ahead_of (cond (not t2) in_sheets (cond t3 21 0)) ≡ 0 → Passes n b ns bs a slots
        by false e1 t2 e2 t3 e3 e = absurd (eqb-false ahead_of 0 e1 e)
        by true e1 false e2 t3 e3 e = absurd (eqb-false in_sheets 0 e2 e)
        by true e1 true e2 true e3 e = absurd (omega arith)
        by true e1 true e2 false e3 e = record { ahead = ahead_passes n b ns bs a (eqb-true ahead_of 0 e1); sheets = eqb-true in_sheets 0 e2; room = ltb-false slots (256 * n) e3 }

-- other lengths make no difference to a queue of too many sheets: it is refused ahead of them, and none is accepted
module _ (n : ℕ) (b ns ms bs : List ℕ) (a : ℕ) (h : 16 < n) where
  refused_ahead : (ls : List ℕ) → refusal_ahead n b ls bs a ≡ 0 → ⊥
  refused_ahead ls e = omega (arith, (ahead_passes n b ls bs a e).most)

  ahead_same : refusal_ahead n b ns bs a ≡ refusal_ahead n b ms bs a
  ahead_same = by (eqb (book_refusal b) 0) refl
    where
      out : between 1 16 n ≡ false
      out = go (between 1 16 n) refl
        where
          go : (t : Bool) → between 1 16 n ≡ t → t ≡ false
          go true e = absurd (omega (arith, (between_true 1 16 n e).1))
          go false e = refl

      by : (t : Bool) → eqb (book_refusal b) 0 ≡ t → refusal_ahead n b ns bs a ≡ refusal_ahead n b ms bs a
      by true e = by_count n b ns bs a (eqb-true (book_refusal b) 0 e) out ∙ sym (by_count n b ms bs a (eqb-true (book_refusal b) 0 e) out)
      by false e = by_book n b ns bs a (eqb-false (book_refusal b) 0 e) ∙ sym (by_book n b ms bs a (eqb-false (book_refusal b) 0 e))

  pub too_many : (slots : ℕ) → refusal_of n b ns bs a slots ≡ refusal_of n b ms bs a slots
  too_many slots = by_ahead n b ns bs a slots (refused_ahead ns) ∙ ahead_same ∙ sym (by_ahead n b ms bs a slots (refused_ahead ms))

  pub too_many_accepted : accepted_of n b ns bs a ≡ accepted_of n b ms bs a
  too_many_accepted = accepted_none n b ns bs a (refused_ahead ns) ∙ sym (accepted_none n b ms bs a (refused_ahead ms))

-- ---- How many are accepted

accepted_first : (c : ℕ) (ss : List (List ℕ)) → accepted_ahead c ss ≤ length ss
unfolding accepted_ahead
accepted_first c [] = omega arith
accepted_first c (s ∷ ss) = by (eqb (sheet_refusal c s) 0) (accepted_first c ss)
  where
    by : (t : Bool) → accepted_ahead c ss ≤ length ss → cond t (suc (accepted_ahead c ss)) 0 ≤ suc (length ss)
    by true h = omega arith
    by false h = omega arith

pub accepted_few : (n : ℕ) (b ns bs : List ℕ) (a : ℕ) → accepted_of n b ns bs a ≤ length ns
unfolding accepted_of
accepted_few n b ns bs a = by (eqb (refusal_ahead n b ns bs a) 0)
  where
    by : (t : Bool) → cond t (accepted_ahead (columns b) (sheets_of ns bs)) 0 ≤ length ns
    by true = omega (arith, accepted_first (columns b) (sheets_of ns bs), sheets_count ns bs)
    by false = omega arith

-- of a queue that passes, every sheet is accepted with the book
pub sheet_accepted : {n : ℕ} {b ns bs : List ℕ} {a slots : ℕ} → Passes n b ns bs a slots → (i : ℕ) → i < length (sheets_of ns bs) → files_refusal b (get_or (sheets_of ns bs) i []) ≡ 0
unfolding files_refusal
sheet_accepted {b = b} {ns = ns} {bs = bs} p i h = rw (eq-eqb (book_refusal b) 0 p.ahead.book) (sheets_passed (columns b) (sheets_of ns bs) p.sheets i h)
