-- The promise of specs/Promise.antt holds of the outcome that specs/Answers.antt defines, whatever the input.
use mathlib.Core.Path.{◌≡◌, refl, sym, ap, ◌∙◌}
use mathlib.Core.Bool.{Bool, true, false, cond}
use mathlib.Core.List.{List}
use Prim.Native.Nat.{ℕ, zero, suc, ◌≤◌}
use native.Mathlib.Omega.{arith}
use borrow.Author.Tests.{eqb-true, eq-eqb, ltb-false}
use lib.Dec.{eqb, ltb}
use lib.ListN.{length, take, drop, length-append, length-drop}
use lib.Seq.{take_at}
use Rattle.files.specs.Book.{boats}
use Rattle.files.specs.Sheet.{files_refusal}
use Rattle.files.specs.Editions.{Editions, EditionsAlike}
use Rattle.files.specs.Front.{FilesAlike, FilesFrontUnread}
use Rattle.files.proofs.Editions.{editions_alike}
use Rattle.files.proofs.Front.{files_front_unread}
use Rattle.files.proofs.Accepted.{files_accepted}
use Rattle.method.specs.ReleasedBoats.{Usable, every, only, used_from, gather}
use Rattle.method.specs.Problem.{Problem, Terms, fleet_problem, call_problem}
use Rattle.method.specs.Calls.{released_refusal, call_refusal}
use Rattle.method.specs.declared.Answer.{Answer}
use Rattle.method.specs.Searched.{Searched}
use Rattle.method.specs.Searched.{Refused, Answered}
use Rattle.method.specs.Answers.{refusal_number, outcome, steps_used, run_iterate, run_answer, search_refusal_with, run_slots, slots_after}
use Rattle.method.specs.BookNumbers.{ReleasedRun}
use Rattle.method.specs.Promise.{RunRight, Counts, without_table, SameSearch, OutcomeRightWith}
use Rattle.method.proofs.Mixtures.{WellFormed, InRange, Sized}
use Rattle.method.proofs.ReleasedBoats.{length_scatter, scatter_outside, gather_scatter}
use Rattle.method.proofs.Accepted.{files_ok, fleet_formed, well_formed, in_range, sized, share_count}
use Rattle.method.proofs.BookNumbers.{released_run, problem_isolated, slots_isolated, call_isolated, call_all, problem_all, slots_all}
use Rattle.method.proofs.Counted.{counted_same}
use Rattle.method.proofs.Bounds.{run_bounds}
use Rattle.method.proofs.Published.{published_run}
use Rattle.method.proofs.SmallGap.{small_gap}

pub problem_right : {p : Problem} → WellFormed p → InRange p → Sized p → RunRight p (run_answer p) (run_iterate p).shares
problem_right h r z = record { bounds = run_bounds h r z; published = published_run h z.some_steps; small_gap = small_gap h }

-- of a call: with a lent table the step bound is 2 D² t / W, and the published step size an entry over its running total
pub run_right : (m : Terms) (b s : List ℕ) → call_refusal m b s ≡ 0 → RunRight (call_problem m b s) (run_answer (call_problem m b s)) (run_iterate (call_problem m b s)).shares
run_right m b s ok = problem_right (well_formed m b s ok) (in_range m b s ok) (sized m b s ok)

pub run_share_count : (m : Terms) (b s : List ℕ) → call_refusal m b s ≡ 0 → length (run_iterate (call_problem m b s)).shares ≡ length (used_from m.released 0 (boats b))
unfolding run_iterate
run_share_count m b s ok = share_count m b s ok (steps_used (call_problem m b s))

-- a slot for each boat of the book; those of the boats that may be used have the run's shares, the others 0
pub run_slot_count : (m : Terms) (b s : List ℕ) → call_refusal m b s ≡ 0 → length (run_slots m b s) ≡ boats b
run_slot_count m b s ok = length_scatter m.released (boats b) _ (run_share_count m b s ok)

pub run_gathered : (m : Terms) (b s : List ℕ) → call_refusal m b s ≡ 0 → gather m.released (run_slots m b s) ≡ (run_iterate (call_problem m b s)).shares
run_gathered m b s ok = gather_scatter m.released (boats b) _ (run_share_count m b s ok)

-- so the run is right by the numbers of the book
pub run_in_book : (m : Terms) (b s : List ℕ) → call_refusal m b s ≡ 0 → ReleasedRun m.released (fleet_problem m b s) (run_answer (call_problem m b s)) (run_slots m b s)
run_in_book m b s ok =
    released_run m.released (fleet_formed m b s ok) (run_slots m b s) (run_slot_count m b s ok ∙ sym (files_accepted b s (files_ok m b s ok)).0.row_count) (scatter_outside m.released (boats b) _)
    (rw (run_gathered m b s ok) (unfold call_problem in (run_right m b s ok).bounds))

-- ---- Sheets that differ in their edition alone
module _ (m : Terms) (b s s' : List ℕ) where
  pub same_files : Editions s s' → files_refusal b s' ≡ files_refusal b s
  unfolding files_refusal EditionsAlike
  same_files d = rw (editions_alike s s' d).1

  same_released : (u : Usable) → Editions s s' → released_refusal u b s' ≡ released_refusal u b s
  same_released every d = same_files d
  same_released (only set) d = rw (same_files d)

  pub same_call : Editions s s' → call_refusal m b s' ≡ call_refusal m b s
  same_call d = rw (same_released m.released d)

  pub same_search : (slots : ℕ) → Editions s s' → search_refusal_with m b s' slots ≡ search_refusal_with m b s slots
  unfolding search_refusal_with
  same_search slots d = rw (same_call d)

  pub same_problem : Editions s s' → call_problem m b s' ≡ call_problem m b s
  unfolding call_problem EditionsAlike
  same_problem d = rw (editions_alike s s' d).0

-- ---- Files that differ in front text alone
module _ (m : Terms) {b s b' s' : List ℕ} (d : FilesAlike b s b' s') where
  released_behind : (u : Usable) → released_refusal u b' s' ≡ released_refusal u b s
  released_behind every = d.refusal
  released_behind (only set) = rw (d.refusal, d.book_refusal, d.boats)

  pub call_behind : call_refusal m b' s' ≡ call_refusal m b s
  call_behind = rw (released_behind m.released)

  pub search_behind : (slots : ℕ) → search_refusal_with m b' s' slots ≡ search_refusal_with m b s slots
  unfolding search_refusal_with
  search_behind slots = rw (call_behind, d.boats)

  pub problem_behind : call_problem m b' s' ≡ call_problem m b s
  unfolding call_problem
  problem_behind = rw (d.columns, d.rows, d.sheet)

-- a search that is not refused has terms and files that are not, and a slot for each boat
pub search_accepted : (m : Terms) (b s : List ℕ) (slots : ℕ) → search_refusal_with m b s slots ≡ 0 → (call_refusal m b s ≡ 0) × (boats b ≤ slots)
unfolding search_refusal_with
search_accepted m b s slots e = by (eqb (call_refusal m b s) 0) refl (ltb slots (boats b)) refl e
  where
    by : (t : Bool) → eqb (call_refusal m b s) 0 ≡ t → (u : Bool) → ltb slots (boats b) ≡ u → cond t (cond u 21 0) (call_refusal m b s) ≡ 0 → (call_refusal m b s ≡ 0) × (boats b ≤ slots)
    by true q true r e = absurd (omega arith)
    by true q false r e = (eqb-true (call_refusal m b s) 0 q, ltb-false slots (boats b) r)
    by false q u r e = absurd (let t = eq-eqb (call_refusal m b s) 0 e in let z : ◌≡◌ {A = ℕ} 0 1 = cc in omega arith)

-- ---- A table that counts 1, 2, 3, ..
module _ (m : Terms) (b s : List ℕ) (c : Counts m s) where
  pub counted_call : call_refusal m b s ≡ call_refusal (without_table m) b s
  counted_call = rw (c.is_lent, c.accepted)

  pub counted_search : (slots : ℕ) → search_refusal_with m b s slots ≡ search_refusal_with (without_table m) b s slots
  unfolding search_refusal_with
  counted_search slots = rw counted_call

  pub counted_run : call_refusal (without_table m) b s ≡ 0 →
      (run_answer (call_problem m b s) ≡ run_answer (call_problem (without_table m) b s)) × (run_iterate (call_problem m b s) ≡ run_iterate (call_problem (without_table m) b s))
  counted_run ok = counted_same m b s c (files_accepted b s (files_ok (without_table m) b s ok)).1.some_steps

-- ---- Other books and sets that change nothing

-- what makes two calls the same
pub same_search_by : {m m' : Terms} {b b' s : List ℕ} → call_refusal m' b' s ≡ call_refusal m b s → boats b' ≡ boats b → call_problem m' b' s ≡ call_problem m b s → run_slots m' b' s ≡ run_slots m b s →
    SameSearch m m' b b' s
unfolding search_refusal_with
same_search_by e n p q = record { given = λ slots. rw (e, n, p); left = λ slots. rw (q, e, n) }

-- ---- An outcome by its number

pub outcome_number : (n : ℕ) (a : Answer) → refusal_number (outcome n a) ≡ n
unfolding refusal_number outcome
outcome_number zero a = refl
outcome_number (suc n) a = refl

pub outcome_refused : (n m : ℕ) (a : Answer) → outcome n a ≡ Refused m → (n ≡ m) × (1 ≤ m)
unfolding outcome
outcome_refused zero m a e = absurd (let z : ◌≡◌ {A = ℕ} 0 1 = cc in omega arith)
outcome_refused (suc n) m a e = let q : suc n ≡ m = cc in (q, omega arith)

pub outcome_answered : (n : ℕ) (a x : Answer) → outcome n a ≡ Answered x → (n ≡ 0) × (a ≡ x)
unfolding outcome
outcome_answered zero a x e = (refl, cc)
outcome_answered (suc n) a x e = absurd (let z : ◌≡◌ {A = ℕ} 0 1 = cc in omega arith)

-- a list that a call leaves is as long as the one that it was lent, where the shares have room
pub length_after : (n : ℕ) (qs slots : List ℕ) → (n ≡ 0 → length qs ≤ length slots) → length (slots_after n qs slots) ≡ length slots
unfolding slots_after
length_after zero qs slots h = simp (length-append, length-drop) (omega (arith, h refl))
length_after (suc n) qs slots h = refl

-- where nothing refuses, the first slots have the shares
pub slots_kept : (qs slots : List ℕ) (n : ℕ) → length qs ≡ n → take n (slots_after 0 qs slots) ≡ qs
unfolding slots_after
slots_kept qs slots n e = take_at qs (drop (length qs) slots) n e

pub outcome_right : (m : Terms) (b s slots : List ℕ) (n : ℕ) (r : Searched) (now : List ℕ) →
    n ≡ search_refusal_with m b s (length slots) → r ≡ outcome n (run_answer (call_problem m b s)) → now ≡ slots_after n (run_slots m b s) slots →
    OutcomeRightWith m b s r now
unfolding FilesFrontUnread
outcome_right m b s slots n r now e f g =
    record {
      number = ap refusal_number f ∙ outcome_number n (run_answer (call_problem m b s)) ∙ e ∙ ap (search_refusal_with m b s) (sym same_length);
      refused = λ k q. (outcome_refused n k (run_answer (call_problem m b s)) (sym f ∙ q)).1;
      answered = λ a q. let h = outcome_answered n (run_answer (call_problem m b s)) a (sym f ∙ q) in rw (← h.1, kept h.0, run_gathered m b s (accepted h.0).0) (run_right m b s (accepted h.0).0);
      in_book = λ a q. let h = outcome_answered n (run_answer (call_problem m b s)) a (sym f ∙ q) in rw (← h.1, kept h.0) (run_in_book m b s (accepted h.0).0);
      editions = λ s' d. (same_search m b s s' (length now) d, same_problem m b s s' d);
      fronts = λ b' s' d h. (search_behind m (files_front_unread b s b' s' d h) (length now), problem_behind m (files_front_unread b s b' s' d h));
      counted = λ c. (counted_search m b s c (length now), λ z. counted_run m b s c (search_accepted (without_table m) b s (length now) z).0);
      isolated = λ b' h h' d. same_search_by (call_isolated m b b' s h h' d) (sym d.boats_same) (problem_isolated m b b' s h h' d) (slots_isolated m b b' s h h' d);
      all_boats = λ d. same_search_by (sym (call_all m b s d)) refl (sym (problem_all m b s d)) (sym (slots_all m b s d));
    }
  where
    qs : List ℕ
    qs = run_slots m b s

    accepted : n ≡ 0 → (call_refusal m b s ≡ 0) × (boats b ≤ length slots)
    accepted z = search_accepted m b s (length slots) (sym e ∙ z)

    same_length : length now ≡ length slots
    same_length = ap length g ∙ length_after n qs slots (λ z. rw (run_slot_count m b s (accepted z).0) (accepted z).1)

    kept : n ≡ 0 → take (boats b) now ≡ qs
    kept z = ap (take (boats b)) (g ∙ ap (λ k. slots_after k qs slots) z) ∙ slots_kept qs slots (boats b) (run_slot_count m b s (accepted z).0)
