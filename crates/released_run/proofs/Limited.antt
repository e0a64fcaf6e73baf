-- A run on the book of the released boats, with its shares put into the slots of these boats, is the run of the call.
use Rattle.std.specs.Prelude.{Option}
use mathlib.Core.Path.{◌≡◌, refl, sym, ap, ◌∙◌}
use mathlib.Core.Bool.{Bool, true, false, cond}
use mathlib.Core.List.{List, [], ◌∷◌, ◌++◌}
use Prim.Native.Nat.{ℕ, zero, suc, ◌≤◌}
use native.Mathlib.Omega.{arith}
use lib.ListN.{length, get_or, take, drop, replicate}
use Rattle.files.specs.Book.{boats, book_refusal}
use Rattle.files.specs.Sheet.{files_refusal}
use Rattle.files.proofs.Accepted.{files_accepted}
use Rattle.method.specs.declared.Answer.{Answer}
use Rattle.method.specs.declared.Released.{Released}
use Rattle.method.specs.ReleasedBoats.{Usable, usable, may_use, used_from, set_refusal, scatter_from, scatter}
use Rattle.method.specs.Problem.{Problem, call_problem}
use Rattle.method.specs.Calls.{terms, terms_in, schedule_in, schedule_refusal, call_refusal}
use Rattle.method.specs.Answers.{run_answer, run_iterate, run_slots}
use Rattle.method.proofs.Accepted.{files_ok, schedule_ok, set_ok}
use Rattle.method.proofs.Promise.{run_share_count}
use Rattle.buffers.specs.Placed.{placed}
use Rattle.buffers.proofs.Writing.{front_inside, front_taken}
use Rattle.derived_files.proofs.Files.{book_passed}
use Rattle.released_set.proofs.Ranks.{rank_most}
use Rattle.released_book.specs.Book.{released_book, ReleasedFiles, BookReleased}
use Rattle.released_book.proofs.Book.{book_released}

-- what stands behind the shares is not read
scatter_front : (u : Usable) (i n : ℕ) (qs rest : List ℕ) → length qs ≡ length (used_from u i n) → scatter_from u i n (qs ++ rest) ≡ scatter_from u i n qs
unfolding scatter_from used_from
scatter_front u i zero qs rest e = refl
scatter_front u i (suc n) qs rest e = by (may_use u i) (λ rs f. scatter_front u (suc i) n rs rest f) qs e
  where
    by : (t : Bool) → ((rs : List ℕ) → length rs ≡ length (used_from u (suc i) n) → scatter_from u (suc i) n (rs ++ rest) ≡ scatter_from u (suc i) n rs) → (qs : List ℕ) →
        length qs ≡ length (cond t (i ∷ used_from u (suc i) n) (used_from u (suc i) n)) →
        ◌≡◌ {A = List ℕ} (cond t (get_or (qs ++ rest) 0 0) 0 ∷ scatter_from u (suc i) n (cond t (drop 1 (qs ++ rest)) (qs ++ rest)))
        (cond t (get_or qs 0 0) 0 ∷ scatter_from u (suc i) n (cond t (drop 1 qs) qs))
    by true f [] e = absurd (omega arith)
    by true f (q ∷ qs) e = ap (λ l. q ∷ l) (f qs (omega arith))
    by false f qs e = ap (λ l. 0 ∷ l) (f qs e)

-- where the call is limited
pub scatter_limited : (set : Released) (n : ℕ) (qs : List ℕ) → set.limited ≡ true → scatter (usable set) n qs ≡ scatter_from (usable set) 0 n qs
scatter_limited set n qs e = rw e

module _ (set : Released) (table : Option (List ℕ)) (b s : List ℕ) (ok : call_refusal (terms_in set table) b s ≡ 0) where
  abbrev u : Usable
  u = usable set

  pub book_ok : book_refusal b ≡ 0
  book_ok = book_passed b s (files_ok (terms_in set table) b s ok)

  pub few_boats : boats b ≤ 256
  few_boats = (files_accepted b s (files_ok (terms_in set table) b s ok)).0.most_boats

  released_files : ReleasedFiles u b
  unfolding BookReleased
  released_files = book_released u b book_ok (set_ok (terms_in set table) b s ok)

  -- the book of the released boats put into 32,780 bytes
  module _ {own : List ℕ} (eo : own ≡ placed (replicate 32780 0) 0 (released_book u b)) {n : ℕ} (en : n ≡ length (released_book u b)) where
    pub own_inside : n ≤ length own
    own_inside = front_inside (replicate 32780 0) (released_book u b) eo en released_files.book_fits

    own_is : take n own ≡ released_book u b
    own_is = front_taken (replicate 32780 0) (released_book u b) eo en released_files.book_fits

    pub own_files : files_refusal (take n own) s ≡ 0
    own_files = rw own_is (released_files.files_same s ∙ files_ok (terms_in set table) b s ok)

    pub own_boats : boats (take n own) ≡ length (used_from u 0 (boats b))
    own_boats = rw own_is released_files.boats_are

    pub own_few : boats (take n own) ≤ 256
    own_few = omega (arith, own_boats, rank_most u 0 (boats b), few_boats)

    pub own_problem : call_problem (terms table) (take n own) s ≡ call_problem (terms_in set table) b s
    unfolding call_problem
    own_problem = rw own_is (released_files.problem_same (terms table) s)

    pub own_schedule : schedule_refusal (schedule_in table) ≡ 0
    own_schedule = schedule_ok (terms_in set table) b s ok

    pub limited_answer : {a : Answer} → a ≡ run_answer (call_problem (terms table) (take n own) s) → a ≡ run_answer (call_problem (terms_in set table) b s)
    limited_answer q = q ∙ ap run_answer own_problem

    pub limited_slots : set.limited ≡ true → (rest slots : List ℕ) {qs now : List ℕ} {k : ℕ} → qs ≡ (run_iterate (call_problem (terms table) (take n own) s)).shares ++ rest → k ≡ boats b →
        now ≡ scatter_from u 0 k qs ++ drop k slots → now ≡ run_slots (terms_in set table) b s ++ drop (boats b) slots
    limited_slots limited rest slots {qs} {now} {k} eq ek e =
        let xs = (run_iterate (call_problem (terms_in set table) b s)).shares in
        let f : qs ≡ xs ++ rest = eq ∙ ap (λ (p : Problem). (run_iterate p).shares ++ rest) own_problem in
        let g : scatter_from u 0 (boats b) (xs ++ rest) ≡ scatter u (boats b) xs = scatter_front u 0 (boats b) xs rest (run_share_count (terms_in set table) b s ok) ∙ sym (scatter_limited set (boats b) xs limited) in
        e ∙ rw (f, ek, g)

-- where it is not, the terms have no set
module _ (set : Released) (table : Option (List ℕ)) (b s : List ℕ) (limited : set.limited ≡ false) where
  pub unlimited_terms : terms_in set table ≡ terms table
  unlimited_terms = rw limited

  pub unlimited_answer : {a : Answer} → a ≡ run_answer (call_problem (terms table) b s) → a ≡ run_answer (call_problem (terms_in set table) b s)
  unlimited_answer q = q ∙ rw limited

  pub unlimited_slots : (rest : List ℕ) {now : List ℕ} → now ≡ (run_iterate (call_problem (terms table) b s)).shares ++ rest → now ≡ run_slots (terms_in set table) b s ++ rest
  unlimited_slots rest q = q ∙ rw limited
