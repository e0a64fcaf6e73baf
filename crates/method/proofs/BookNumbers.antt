-- What is promised by the numbers of the book holds: the mixtures of the book's boats that rest on released ones are those of the released boats.
use mathlib.Core.Path.{◌≡◌, refl, sym, ap, ◌∙◌}
use mathlib.Core.Bool.{Bool, true, false, cond}
use mathlib.Core.List.{List, []}
use Prim.Native.Nat.{ℕ, zero, suc, ◌≤◌, ◌<◌}
use native.Mathlib.Nat.{zero-add}
use native.Mathlib.Omega.{arith}
use lib.Dec.{eqb, eqb-suc-zero}
use lib.ListN.{length, length-set, length-replicate}
use Rattle.files.specs.Book.{boats, columns, rows, book_refusal}
use Rattle.files.specs.Sheet.{sheet, sheet_refusal, files_refusal}
use Rattle.files.proofs.Rows.{length_rows_from}
use Rattle.files.proofs.Accepted.{book_accepted}
use Rattle.method.specs.declared.Answer.{Answer}
use Rattle.method.specs.declared.Test.{Test}
use Rattle.method.specs.ReleasedBoats.{Usable, every, only, may_use, used_from, set_refusal, gather, scatter, RestsOn}
use Rattle.method.specs.Problem.{Problem, Terms, on_released, fleet_problem, call_problem}
use Rattle.method.specs.Calls.{before, released_refusal, call_refusal}
use Rattle.method.specs.Iterates.{start, with_shares, step, iterate, row, mixture_distance}
use Rattle.method.specs.Answers.{run_iterate, steps_used, run_slots}
use Rattle.method.specs.Bounds.{AnswerBounds, RunBounds}
use Rattle.method.specs.Promise.{without_set}
use Rattle.method.specs.BookNumbers.{GatheredSame, ReleasedAnswer, ReleasedRun, SameReleased, AllBoats}
use Rattle.method.proofs.Mixtures.{WellFormed}
use Rattle.method.proofs.ReleasedBoats.{every_used, every_count, some_released, set_taken, length_gather, gather_same, gather_all, length_scatter, scatter_outside, gather_scatter, scatter_whole, combination_gather, sum_gather, support_gather, used_whole}

pub gathered_same : (u : Usable) {p : Problem} → WellFormed p → (zs : List ℕ) → length zs ≡ length p.vertices → RestsOn u zs → GatheredSame u p zs
unfolding mixture_distance
gathered_same u {p} h zs e r =
    record {
      count = length_gather u zs ∙ ap (λ n. length (used_from u 0 n)) e ∙ sym (length_gather u p.vertices);
      total = sum_gather u zs r;
      support = support_gather u zs r;
      distance = rw (combination_gather u p.columns zs p.vertices e h.wide r, sum_gather u zs r);
    }

-- of any answer and slots whose released part has the bounds: a card's, or a run's
module _ (u : Usable) {p : Problem} (h : WellFormed p) {a : Answer} (slots : List ℕ) (n : length slots ≡ length p.vertices) (rests : RestsOn u slots) where
  pub released_answer : (test : Test) → AnswerBounds test (on_released u p) a (gather u slots) → ReleasedAnswer u p a slots
  released_answer test bounds =
      let own = gathered_same u h slots n rests in
      record {
        slot_count = n;
        rests = rests;
        mixtures = gathered_same u h;
        reached = λ qs e. (
          length_scatter u (length p.vertices) qs (e ∙ length_gather u p.vertices),
          scatter_outside u (length p.vertices) qs,
          gather_scatter u (length p.vertices) qs (e ∙ length_gather u p.vertices),
        );
        total = sym own.total ∙ bounds.total;
        few_boats = rw own.support at bounds.few_boats;
        own_distance = bounds.own_distance ∙ own.distance;
        gap_bound = λ zs e r s. let k = gathered_same u h zs e r in rw (k.total, k.distance) at (bounds.gap_bound (gather u zs) k.count (rw k.total s));
        beyond = λ v zs e r s. let k = gathered_same u h zs e r in rw (k.total, k.distance) at (bounds.beyond v (gather u zs) k.count (rw k.total s));
      }

  pub released_run : RunBounds (on_released u p) a (gather u slots) → ReleasedRun u p a slots
  released_run bounds =
      record {
        answer = released_answer _ bounds.answer;
        step_bound = λ zs e r s. let k = gathered_same u h zs e r in rw (k.total, k.distance) at (bounds.step_bound (gather u zs) k.count (rw k.total s));
        spent = λ v zs e r s. let k = gathered_same u h zs e r in rw (k.total, k.distance) at (bounds.spent v (gather u zs) k.count (rw k.total s));
      }

-- ---- One share a vertex, of every problem

pub iterate_count : (p : Problem) (t : ℕ) → length (iterate p t).shares ≡ length p.vertices
unfolding iterate start step with_shares
iterate_count p zero = simp length-replicate
iterate_count p (suc t) = simp length-set (iterate_count p t)

pub run_count : (p : Problem) → length (run_iterate p).shares ≡ length p.vertices
unfolding run_iterate
run_count p = iterate_count p (steps_used p)

-- ---- Books that a call cannot tell apart

module _ (m : Terms) (b b' s : List ℕ) (ok : book_refusal b ≡ 0) (ok' : book_refusal b' ≡ 0) (same : SameReleased m.released b b') where
  abbrev u : Usable
  u = m.released

  count_same : length (rows b) ≡ length (rows b')
  count_same = (book_accepted b ok).row_count ∙ same.boats_same ∙ sym (book_accepted b' ok').row_count

  rows_gathered : gather u (rows b) ≡ gather u (rows b')
  unfolding row
  rows_gathered = gather_same u [] (rows b) (rows b') count_same (λ j h q. same.rows_same j (rw (book_accepted b ok).row_count at h) q)

  pub problem_isolated : call_problem m b' s ≡ call_problem m b s
  unfolding call_problem
  problem_isolated = rw (same.columns_same, rows_gathered)

  pub slots_isolated : run_slots m b' s ≡ run_slots m b s
  slots_isolated = rw (problem_isolated, same.boats_same)

  files_isolated : files_refusal b' s ≡ files_refusal b s
  unfolding files_refusal
  files_isolated = rw (ok, ok', same.columns_same)

  released_isolated : (v : Usable) → released_refusal v b' s ≡ released_refusal v b s
  released_isolated every = files_isolated
  released_isolated (only set) = rw (ok, ok', same.boats_same, files_isolated)

  pub call_isolated : call_refusal m b' s ≡ call_refusal m b s
  call_isolated = rw (released_isolated u)

-- ---- A set of all boats

files_of : (b s : List ℕ) → files_refusal b s ≡ cond (eqb (book_refusal b) 0) (sheet_refusal (columns b) s) (book_refusal b)
unfolding files_refusal
files_of b s = refl

pub rows_count : (b : List ℕ) → length (rows b) ≡ boats b
unfolding rows
rows_count b = length_rows_from (boats b) (columns b) _

pub released_all : (u : Usable) (b s : List ℕ) → AllBoats u (boats b) → released_refusal u b s ≡ files_refusal b s
released_all every b s f = refl
released_all (only set) b s f = by (book_refusal b) refl
  where
    by : (n : ℕ) → book_refusal b ≡ n → before n (before (set_refusal (boats b) (only set)) (files_refusal b s)) ≡ files_refusal b s
    by zero e =
        let k = used_whole (only set) 0 (boats b) (λ j h. rw (zero-add j) ((f j).0 h)) in
        rw (set_taken (boats b) (only set) (omega (arith, k, (book_accepted b e).some_boats)) (λ i h. (f i).1 h))
    by (suc n) e = sym (book_first e)
      where
        book_first : book_refusal b ≡ suc n → files_refusal b s ≡ suc n
        book_first q = rw (files_of b s, q, eqb-suc-zero n)

module _ (m : Terms) (b s : List ℕ) (all : AllBoats m.released (boats b)) where
  rows_all : gather m.released (rows b) ≡ rows b
  rows_all = gather_all m.released (rows b) (λ j h. (all j).0 (omega (arith, rows_count b)))

  pub call_all : call_refusal m b s ≡ call_refusal (without_set m) b s
  call_all = rw (released_all m.released b s all)

  pub problem_all : call_problem m b s ≡ call_problem (without_set m) b s
  unfolding call_problem
  problem_all = rw rows_all

  pub slots_all : run_slots m b s ≡ run_slots (without_set m) b s
  slots_all =
      let qs = (run_iterate (call_problem (without_set m) b s)).shares in
      let n : length qs ≡ boats b = run_count (call_problem (without_set m) b s) ∙ (unfold call_problem in rows_count b) in
      rw (problem_all, ← n) (scatter_whole m.released qs (λ j h. (all j).0 (omega arith)))
