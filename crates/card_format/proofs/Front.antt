-- Front text is never read: what stands before a card that holds its whole body changes nothing.
use mathlib.Core.Path.{◌≡◌, refl, sym, ap, ◌∙◌}
use mathlib.Core.List.{List, ◌++◌, append_assoc}
use Prim.Native.Nat.{ℕ, ◌+◌, ◌-◌}
use native.Mathlib.Omega.{arith}
use borrow.Author.Tests.{le-leb}
use lib.ListN.{length, take, drop, length-append, length-drop}
use lib.Seq.{length-take-le}
use Rattle.files.specs.Bytes.{between, length_in_range, trailer, body, reaches}
use Rattle.files.specs.Book.{boats, columns}
use Rattle.files.specs.Front.{FrontFits, same_file, other_front, FilesAlike, FilesFrontUnread}
use Rattle.files.specs.Limits.{file_limit}
use Rattle.files.proofs.Front.{files_front_unread}
use Rattle.method.specs.declared.Test.{Test}
use Rattle.method.specs.ReleasedBoats.{gather}
use Rattle.method.specs.Problem.{Problem, Terms, call_steps, call_problem}
use Rattle.method.proofs.Promise.{call_behind, search_behind, problem_behind}
use Rattle.card_format.specs.Format.{card_fields, lettered, card_test, card_body, pair_count, card_shares, card_answer_with, run_card_with}
use Rattle.card_format.specs.Checks.{back_fits, counts_agree, steps_fit, form_refusal, numbers_agree, truth_refusal, card_refusal_with, write_refusal_with, check_refusal_with}
use Rattle.card_format.specs.Front.{CardWhole, SameCard, CardsAlikeWith, CardFrontUnread}
use Rattle.card_format.proofs.Trailer.{file_trailer, file_body, file_parts}

module _ (f w : List ℕ) (h : CardWhole w) where
  abbrev back : ℕ
  back = (card_fields w).back

  abbrev before : List ℕ
  before = f ++ take (length w - 36 - back) w

  body_length : length (body 36 back w) ≡ back
  unfolding body
  body_length = length-take-le back (drop (length w - 36 - back) w) (simp length-drop (omega arith))

  trailer_length : length (trailer 36 w) ≡ 36
  unfolding trailer
  trailer_length = simp length-drop (omega arith)

  parts : f ++ w ≡ before ++ (body 36 back w ++ trailer 36 w)
  parts = ap (λ l. f ++ l) (file_parts w back h) ∙ sym (append_assoc f (take (length w - 36 - back) w) (body 36 back w ++ trailer 36 w))

  trailer_front : trailer 36 (f ++ w) ≡ trailer 36 w
  trailer_front = ap (trailer 36) parts ∙ file_trailer before (body 36 back w) (trailer 36 w) trailer_length

  pub fields_front : card_fields (f ++ w) ≡ card_fields w
  unfolding card_fields
  fields_front = rw trailer_front

  body_front : card_body (f ++ w) ≡ card_body w
  unfolding card_body
  body_front =
      let e = file_body before (body 36 back w) (trailer 36 w) trailer_length in
      rw fields_front (ap (body 36 back) parts ∙ (rw body_length at e))

  lettered_front : (test : Test) → lettered test (f ++ w) ≡ lettered test w
  unfolding lettered
  lettered_front test = rw trailer_front

  test_front : card_test (f ++ w) ≡ card_test w
  unfolding card_test
  test_front = simp lettered_front

  count_front : pair_count (f ++ w) ≡ pair_count w
  unfolding pair_count
  count_front = rw fields_front

  shares_front : (n : ℕ) → card_shares n (f ++ w) ≡ card_shares n w
  unfolding card_shares
  shares_front n = rw (count_front, body_front)

  answer_front : (m : Terms) (b s : List ℕ) → card_answer_with m b s (f ++ w) ≡ card_answer_with m b s w
  unfolding card_answer_with
  answer_front m b s = rw (test_front, shares_front (boats b), fields_front)

  back_front : (n : ℕ) → back_fits n back (f ++ w) ≡ back_fits n back w
  unfolding back_fits reaches
  back_front n =
      let e = length-append f w in
      rw (le-leb back (length (f ++ w) - 36) (omega arith), le-leb back (length w - 36) (omega arith))

  range_front : FrontFits f w → length_in_range 36 (f ++ w) ≡ length_in_range 36 w
  unfolding length_in_range between
  range_front k = simp (length-append, le-leb 36 (length f + length w) (omega arith), le-leb (length f + length w) file_limit (omega arith), le-leb 36 (length w) (omega arith), le-leb (length w) file_limit (omega arith))

  form_front : FrontFits f w → (n c steps : ℕ) → form_refusal n c steps (f ++ w) ≡ form_refusal n c steps w
  unfolding form_refusal counts_agree steps_fit
  form_front k n c steps = simp (range_front k, lettered_front, fields_front, back_front, count_front, body_front)

  truth_front : (p : Problem) (qs : List ℕ) → truth_refusal p qs (f ++ w) ≡ truth_refusal p qs w
  unfolding truth_refusal numbers_agree
  truth_front p qs = simp (count_front, fields_front, test_front)

  refusal_front : FrontFits f w → (m : Terms) (b s : List ℕ) → card_refusal_with m b s (f ++ w) ≡ card_refusal_with m b s w
  unfolding card_refusal_with
  refusal_front k m b s = rw (form_front k (boats b) (columns b) (call_steps m s), shares_front (boats b), truth_front (call_problem m b s) (gather m.released (card_shares (boats b) w)))

-- ---- A card, a book and a sheet that differ in front text alone

-- what is read of such a card alone
record SameFields (w w' : List ℕ) : Type 0 where
  test : card_test w' ≡ card_test w
  steps : (card_fields w').steps ≡ (card_fields w).steps
  shares : (n : ℕ) → card_shares n w' ≡ card_shares n w
  refusal : (m : Terms) (b s : List ℕ) → card_refusal_with m b s w' ≡ card_refusal_with m b s w

same_card : (w w' : List ℕ) → SameCard w w' → SameFields w w'
same_card w w' same_file = record { test = refl; steps = refl; shares = λ n. refl; refusal = λ m b s. refl }
same_card w w' (other_front f g x h i j) =
    record {
      test = test_front g x h ∙ sym (test_front f x h);
      steps = ap (λ k. k.steps) (fields_front g x h ∙ sym (fields_front f x h));
      shares = λ n. shares_front g x h n ∙ sym (shares_front f x h n);
      refusal = λ m b s. refusal_front g x h j m b s ∙ sym (refusal_front f x h i m b s);
    }

module _ (m : Terms) {b s b' s' : List ℕ} (d : FilesAlike b s b' s') where
  refusal_behind : (w : List ℕ) → card_refusal_with m b' s' w ≡ card_refusal_with m b s w
  unfolding card_refusal_with
  refusal_behind w = rw (problem_behind m d, d.boats, d.columns, d.sheet)

  pub run_card_behind : run_card_with m b' s' ≡ run_card_with m b s
  unfolding run_card_with
  run_card_behind = rw (problem_behind m d, d.boats, d.columns, d.sheet)

  pub writing_behind : (room : ℕ) → write_refusal_with m b' s' room ≡ write_refusal_with m b s room
  unfolding write_refusal_with
  writing_behind room = rw (call_behind m d, run_card_behind)

  cards_alike : {w w' : List ℕ} → SameFields w w' → CardsAlikeWith m b s w b' s' w'
  unfolding check_refusal_with card_answer_with
  cards_alike {w} {w'} k =
      let same : card_refusal_with m b' s' w' ≡ card_refusal_with m b s w = refusal_behind w' ∙ k.refusal m b s in
      record {
        refusal = same;
        check = λ slots. rw (search_behind m d slots, same);
        boats = d.boats;
        shares = k.shares;
        answer = rw (problem_behind m d, d.boats, k.test, k.shares (boats b), k.steps);
      }

pub card_front_unread : CardFrontUnread
unfolding CardFrontUnread FilesFrontUnread
card_front_unread m b s w b' s' w' d e k = cards_alike m (files_front_unread b s b' s' d e) (same_card w w' k)
