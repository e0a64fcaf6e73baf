-- The promise of specs/Promise.antt holds of the merged book, and of what a call gives back and leaves, whatever the input.
use mathlib.Core.Path.{◌≡◌, refl, sym, ap, ◌∙◌}
use mathlib.Core.Bool.{Bool, true, false, not, cond}
use mathlib.Core.Logic.{◌⊎◌, inl, inr}
use mathlib.Core.List.{List, [], ◌++◌}
use Prim.Native.Nat.{ℕ, zero, suc, ◌+◌, ◌*◌, ◌≤◌, ◌<◌}
use native.Mathlib.Omega.{arith}
use borrow.Author.Tests.{eqb-true, eqb-false, ltb-false, eq-eqb, ne_eqb, lt-ltb, le-ltb}
use lib.Dec.{eqb, ltb}
use lib.ListN.{length, take, drop, get_or, length-append, length-drop}
use lib.Seq.{take_at}
use lib.IntN.{ℤ}
use Rattle.frank_wolfe.specs.Vectors.{Among}
use Rattle.frank_wolfe.proofs.Vectors.{Wide}
use Rattle.files.specs.Book.{boats, columns, rows, book_refusal}
use Rattle.files.proofs.Accepted.{book_accepted}
use Rattle.method.specs.Answers.{slots_after}
use Rattle.merged_book.specs.declared.Merged.{Merged}
use Rattle.merged_book.specs.Merging.{with_rows, merged_rows, merged_book, merge_refusal, merging}
use Rattle.merged_book.specs.Mixtures.{both_rows, MixturesOf}
use Rattle.merged_book.specs.Promise.{MergedRight, MergeRight}
use Rattle.merged_book.proofs.Rows.{among_left, among_right, among_append, rows_kept, rows_before, rows_there, rows_either, rows_distinct, distinct_start}
use Rattle.merged_book.proofs.Mixtures.{mixtures_among, reaches_also, reachable_also}
use Rattle.merged_book.proofs.Book.{book_wide, merged_wide, merged_of}

-- ---- The tests, one after the other

-- every test is passed
pub record Passes (a b : List ℕ) (room : ℕ) : Type 0 where
  pub first : book_refusal a ≡ 0
  pub second : book_refusal b ≡ 0
  pub same_columns : columns a ≡ columns b
  pub few_boats : length (merged_rows a b) ≤ 256
  pub fits : length (merged_book a b) ≤ room

module _ (a b : List ℕ) (room : ℕ) where
  pub passes : merge_refusal a b room ≡ 0 → Passes a b room
  unfolding merge_refusal
  passes e =
      by (eqb (book_refusal a) 0) (eqb (book_refusal b) 0) (eqb (columns a) (columns b)) (ltb 256 (length (merged_rows a b))) (ltb room (length (merged_book a b))) refl refl refl refl refl e
    where
      by : (t u v w x : Bool) → eqb (book_refusal a) 0 ≡ t → eqb (book_refusal b) 0 ≡ u → eqb (columns a) (columns b) ≡ v → ltb 256 (length (merged_rows a b)) ≡ w →
          ltb room (length (merged_book a b)) ≡ x → cond (not t) (book_refusal a) (cond (not u) (book_refusal b) (cond (not v) 55 (cond w 56 (cond x 57 0)))) ≡ 0 → Passes a b room
      by true true true false false p q r s t e =
          record { first = eqb-true _ _ p; second = eqb-true _ _ q; same_columns = eqb-true _ _ r; few_boats = ltb-false _ _ s; fits = ltb-false _ _ t }
      by false u v w x p q r s t e = absurd (eqb-false _ _ p e)
      by true false v w x p q r s t e = absurd (eqb-false _ _ q e)
      by true true false w x p q r s t e = absurd (omega arith)
      by true true true true x p q r s t e = absurd (omega arith)
      by true true true false true p q r s t e = absurd (omega arith)

  -- where a test is the first that fails, or none does
  pub by_first : (book_refusal a ≡ 0 → ⊥) → merge_refusal a b room ≡ book_refusal a
  unfolding merge_refusal
  by_first h = rw (ne_eqb (book_refusal a) 0 h)

  module _ (first : book_refusal a ≡ 0) where
    pub by_second : (book_refusal b ≡ 0 → ⊥) → merge_refusal a b room ≡ book_refusal b
    unfolding merge_refusal
    by_second h = rw (eq-eqb (book_refusal a) 0 first, ne_eqb (book_refusal b) 0 h)

    module _ (second : book_refusal b ≡ 0) where
      pub by_columns : (columns a ≡ columns b → ⊥) → merge_refusal a b room ≡ 55
      unfolding merge_refusal
      by_columns h = rw (eq-eqb (book_refusal a) 0 first, eq-eqb (book_refusal b) 0 second, ne_eqb (columns a) (columns b) h)

      module _ (same : columns a ≡ columns b) where
        pub by_boats : 256 < length (merged_rows a b) → merge_refusal a b room ≡ 56
        unfolding merge_refusal
        by_boats h = rw (eq-eqb (book_refusal a) 0 first, eq-eqb (book_refusal b) 0 second, eq-eqb (columns a) (columns b) same, lt-ltb 256 (length (merged_rows a b)) h)

        module _ (few : length (merged_rows a b) ≤ 256) where
          pub by_room : room < length (merged_book a b) → merge_refusal a b room ≡ 57
          unfolding merge_refusal
          by_room h =
              rw (eq-eqb (book_refusal a) 0 first, eq-eqb (book_refusal b) 0 second, eq-eqb (columns a) (columns b) same, le-ltb 256 (length (merged_rows a b)) few, lt-ltb room (length (merged_book a b)) h)

          pub by_none : length (merged_book a b) ≤ room → merge_refusal a b room ≡ 0
          unfolding merge_refusal
          by_none h =
              rw (eq-eqb (book_refusal a) 0 first, eq-eqb (book_refusal b) 0 second, eq-eqb (columns a) (columns b) same, le-ltb 256 (length (merged_rows a b)) few, le-ltb room (length (merged_book a b)) h)

-- ---- The merged book

module _ (a b : List ℕ) (room : ℕ) (p : Passes a b room) where
  both_wide : Wide (columns a) (both_rows a b)
  both_wide = record { each = λ v m. by v (among_append (rows a) m) }
    where
      by : (v : List ℤ) → Among (rows a) v ⊎ Among (rows b) v → length v ≡ columns a
      by v (inl m) = (book_wide a p.first).each v m
      by v (inr m) = (book_wide b p.second).each v m ∙ sym p.same_columns

  from_either : (v : List ℤ) → Among (rows a) v ⊎ Among (rows b) v → Among (merged_rows a b) v
  unfolding merged_rows
  from_either v (inl m) = rows_before (rows a) (rows b) m
  from_either v (inr m) = rows_there (rows a) m

  to_either : (v : List ℤ) → Among (merged_rows a b) v → Among (rows a) v ⊎ Among (rows b) v
  unfolding merged_rows
  to_either v m = rows_either (rows a) (rows b) m

  in_both : (v : List ℤ) → Among (rows a) v ⊎ Among (rows b) v → Among (both_rows a b) v
  in_both v (inl m) = among_left (rows b) m
  in_both v (inr m) = among_right (rows a) m

  -- every mixture of rows that are all in the merged book is one of the merged book
  pub into_merged : (vs : List _) → ((v : List ℤ) → Among vs v → Among (merged_rows a b) v) → MixturesOf (columns a) vs (merged_rows a b)
  into_merged vs f = mixtures_among (columns a) (merged_rows a b) (merged_wide a b p.first p.second p.same_columns) vs f

  pub from_both : MixturesOf (columns a) (both_rows a b) (merged_rows a b)
  from_both = into_merged (both_rows a b) (λ v m. from_either v (among_append (rows a) m))

  pub from_first : MixturesOf (columns a) (rows a) (merged_rows a b)
  from_first = into_merged (rows a) (λ v m. from_either v (inl m))

  pub from_second : MixturesOf (columns a) (rows b) (merged_rows a b)
  from_second = into_merged (rows b) (λ v m. from_either v (inr m))

  to_both : MixturesOf (columns a) (merged_rows a b) (both_rows a b)
  to_both = mixtures_among (columns a) (both_rows a b) both_wide (merged_rows a b) (λ v m. in_both v (to_either v m))

  kept_rows : (i : ℕ) → i < boats a → get_or (merged_rows a b) i [] ≡ get_or (rows a) i []
  unfolding merged_rows
  kept_rows i h = rows_kept (rows a) (rows b) i (omega (arith, (book_accepted a p.first).row_count))

  distinct_rows : (i j : ℕ) → i < j → boats a ≤ j → j < length (merged_rows a b) → get_or (merged_rows a b) i [] ≡ get_or (merged_rows a b) j [] → ⊥
  unfolding merged_rows
  distinct_rows i j h l m e =
      (rows_distinct (length (rows a)) (rows a) (rows b) (distinct_start (rows a))).apart i j h (omega (arith, (book_accepted a p.first).row_count)) m e

  pub merged_right : MergedRight a b (merged_book a b)
  merged_right =
      let m = merged_of a b p.first p.second p.same_columns p.few_boats in
      record {
        accepted = m.accepted;
        columns_are = m.columns_back;
        rows_are = m.rows_back;
        boats_are = m.boats_back ∙ sym (ap length m.rows_back);
        no_front = rw (m.boats_back, m.columns_back) m.size;
        first_kept = rw m.rows_back kept_rows;
        no_double = rw (m.rows_back, m.boats_back) distinct_rows;
        either = rw m.rows_back (λ v. (to_either v, from_either v));
        drawn = rw m.rows_back to_both;
        kept = rw m.rows_back from_both;
        reach = rw m.rows_back (λ q e n k. (reaches_also q (merged_rows a b) (both_rows a b) (rw e to_both) n k, reaches_also q (both_rows a b) (merged_rows a b) (rw e from_both) n k));
        reach_distance = rw m.rows_back (λ q e x. (reachable_also q (merged_rows a b) (both_rows a b) (rw e to_both) x, reachable_also q (both_rows a b) (merged_rows a b) (rw e from_both) x));
      }

-- ---- What a call gives back and leaves

-- what the contract of a call says of its result and of the buffer
abbrev pub Given : (a b out : List ℕ) → Merged → List ℕ → Type 0
Given a b out r now =
    (r ≡ merging (merge_refusal a b (length out)) (length (merged_book a b)))
    × ((now ≡ slots_after (merge_refusal a b (length out)) (merged_book a b) out) × MergeRight a b r now)

module _ (a b out : List ℕ) where
  pub given_refused : (n : ℕ) → (n ≡ 0 → ⊥) → merge_refusal a b (length out) ≡ n → Given a b out (record { refusal = n; len = 0 }) out
  unfolding merging slots_after
  given_refused zero h e = absurd (h refl)
  given_refused (suc n) h e = (rw e, (rw e, record { number = sym e; refused = λ k. refl; inside = omega arith; wrote = λ k. absurd (omega arith) }))

  pub given_written : {now : List ℕ} → merge_refusal a b (length out) ≡ 0 → now ≡ merged_book a b ++ drop (length (merged_book a b)) out →
      Given a b out (record { refusal = 0; len = length (merged_book a b) }) now
  unfolding merging slots_after
  given_written {now} e f =
      let p = passes a b (length out) e in
      let n = length (merged_book a b) in
      let l : length now ≡ length out = ap length f ∙ length-append (merged_book a b) (drop n out) ∙ (omega (arith, length-drop n out, p.fits)) in
      let w : take n now ≡ merged_book a b = rw f (take_at (merged_book a b) (drop n out) n refl) in (
        rw e,
        (
          rw (e, f),
          record {
            number = sym (rw (← l) at e);
            refused = λ k. absurd (omega arith);
            inside = omega (arith, p.fits);
            wrote = λ k. rw w (merged_right a b (length out) p);
          },
        ),
      )
