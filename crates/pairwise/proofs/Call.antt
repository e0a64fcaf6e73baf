-- The card of a Spent run worked over is true, so it is accepted and reads back; and what a call that files it promises.
use mathlib.Core.Path.{◌≡◌, refl, sym, ap, ◌∙◌}
use mathlib.Core.Bool.{Bool, true, false, not, cond}
use mathlib.Core.List.{List, [], ◌++◌}
use Prim.Native.Nat.{ℕ, zero, suc, ◌+◌, ◌*◌, ◌≤◌, ◌<◌}
use native.Mathlib.Omega.{arith}
use borrow.Author.Tests.{eqb-true, ltb-false}
use lib.Dec.{eqb, ltb}
use lib.ListN.{length, get_or, take, drop, length-append}
use lib.Seq.{get_or-drop}
use Rattle.files.specs.Bytes.{between}
use Rattle.files.specs.Book.{columns, boats, book_refusal}
use Rattle.files.specs.Sheet.{sheet}
use Rattle.files.specs.Editions.{Editions, EditionsAlike}
use Rattle.files.specs.Front.{FilesAlike, FilesFrontUnread}
use Rattle.files.specs.Limits.{file_limit}
use Rattle.files.proofs.Accepted.{files_accepted}
use Rattle.files.proofs.Editions.{editions_alike}
use Rattle.files.proofs.Front.{files_front_unread}
use Rattle.method.specs.declared.Test.TheVariants.{Sharper}
use Rattle.method.specs.declared.Answer.{Answer}
use Rattle.method.specs.ReleasedBoats.{Usable, every, only, may_use, used_from, gather, scatter_from, scatter, RestsOn}
use Rattle.method.specs.Problem.{Problem, Terms, fleet_problem, call_problem}
use Rattle.method.specs.Calls.{call_refusal}
use Rattle.method.specs.Iterates.{support}
use Rattle.method.specs.Answers.{verdict_number, answer_at, run_iterate, run_answer, run_slots, slots_after}
use Rattle.method.specs.Bounds.{answer_of}
use Rattle.method.specs.BookNumbers.{ReleasedRun, SameReleased, AllBoats}
use Rattle.method.specs.Promise.{without_set}
use Rattle.method.proofs.Shares.{share_most}
use Rattle.method.proofs.Accepted.{both, files_ok, call_schedule, fleet_formed, well_formed, in_range, sized, vertex_count}
use Rattle.method.proofs.ReleasedBoats.{length_scatter, scatter_outside, gather_scatter, scatter_whole}
use Rattle.method.proofs.BookNumbers.{gathered_same, released_answer, run_count, rows_count, problem_isolated, call_isolated, call_all, problem_all}
use Rattle.method.proofs.Promise.{same_call, same_problem, call_behind, problem_behind, length_after, slots_kept}
use Rattle.card_format.specs.Written.{Written}
use Rattle.card_format.specs.Format.{card_limit, pairs, trailer_bytes, answer_fields, card_bytes}
use Rattle.card_format.specs.Truth.{CardTrueWith}
use Rattle.card_format.specs.Filing.{writing_number, written_size, filing, ReadsBackWith}
use Rattle.card_format.proofs.Pairs.{readable}
use Rattle.card_format.proofs.Trailer.{length_trailer}
use Rattle.card_format.proofs.Accepted.{support_most, shares_back, answer_is, true_accepted}
use Rattle.card_format.proofs.RunCards.{answer_card_true}
use Rattle.card_format.proofs.Filing.{filing_number, filing_refused, filing_filed, filing_size}
use Rattle.pairwise.specs.Moves.{spent_refusal, moves_refusal, worked_shares, worked_answer}
use Rattle.pairwise.specs.Worked.{WorkedRight}
use Rattle.pairwise.specs.Call.{worked_slots, worked_card, work_refusal, WorkedFiled, SameWorking, WorkingRight, CallRight}
use Rattle.pairwise.proofs.Worked.{length_moves, worked_right}

-- ---- Where no share is held, none is after a scatter

scatter_none : (u : Usable) (i n : ℕ) (qs ps : List ℕ) → ((j : ℕ) → get_or qs j 0 ≡ 0 → get_or ps j 0 ≡ 0) → (j : ℕ) → get_or (scatter_from u i n qs) j 0 ≡ 0 → get_or (scatter_from u i n ps) j 0 ≡ 0
unfolding scatter_from
scatter_none u i zero qs ps h j z = refl
scatter_none u i (suc n) qs ps h zero z = by (may_use u i) z
  where
    by : (t : Bool) → cond t (get_or qs 0 0) 0 ≡ 0 → cond t (get_or ps 0 0) 0 ≡ 0
    by true e = h 0 e
    by false e = refl
scatter_none u i (suc n) qs ps h (suc j) z =
    by (may_use u i) (scatter_none u (suc i) n (drop 1 qs) (drop 1 ps) (λ k. rw (get_or-drop 1 qs k 0, get_or-drop 1 ps k 0) (h (1 + k))) j) (scatter_none u (suc i) n qs ps h j) z
  where
    by : (t : Bool) →
        (get_or (scatter_from u (suc i) n (drop 1 qs)) j 0 ≡ 0 → get_or (scatter_from u (suc i) n (drop 1 ps)) j 0 ≡ 0) →
        (get_or (scatter_from u (suc i) n qs) j 0 ≡ 0 → get_or (scatter_from u (suc i) n ps) j 0 ≡ 0) →
        get_or (scatter_from u (suc i) n (cond t (drop 1 qs) qs)) j 0 ≡ 0 → get_or (scatter_from u (suc i) n (cond t (drop 1 ps) ps)) j 0 ≡ 0
    by true here there e = here e
    by false here there e = there e

module _ (m : Terms) (b s : List ℕ) (n : ℕ) (ok : call_refusal m b s ≡ 0) (spent : verdict_number (run_answer (call_problem m b s)).verdict ≡ 3) where
  abbrev a : Answer
  a = worked_answer (call_problem m b s) n

  abbrev slots : List ℕ
  slots = worked_slots m b s n

  right : WorkedRight (call_problem m b s) n (worked_answer (call_problem m b s) n) (worked_shares (call_problem m b s) n)
  right = worked_right (well_formed m b s ok) (in_range m b s ok) (sized m b s ok) n spent

  share_count : length (worked_shares (call_problem m b s) n) ≡ length (used_from m.released 0 (boats b))
  share_count = right.answer.share_count ∙ vertex_count m b s ok

  slot_count : length slots ≡ boats b
  slot_count = length_scatter m.released (boats b) (worked_shares (call_problem m b s) n) share_count

  rests : RestsOn m.released slots
  rests = scatter_outside m.released (boats b) (worked_shares (call_problem m b s) n)

  gathered : gather m.released slots ≡ worked_shares (call_problem m b s) n
  gathered = gather_scatter m.released (boats b) (worked_shares (call_problem m b s) n) share_count

  vertex_slots : length slots ≡ length (fleet_problem m b s).vertices
  vertex_slots = slot_count ∙ sym (files_accepted b s (files_ok m b s ok)).0.row_count

  -- ---- By the numbers of the book

  in_book : ReleasedRun m.released (fleet_problem m b s) a slots
  unfolding call_problem
  in_book =
      record {
        answer = released_answer m.released (fleet_formed m b s ok) slots vertex_slots rests Sharper (rw gathered right.answer);
        step_bound = λ zs e r h. let k = gathered_same m.released (fleet_formed m b s ok) zs e r in rw (k.total, k.distance) at (right.step_bound (gather m.released zs) k.count (rw k.total h));
        spent = λ v zs e r h. let k = gathered_same m.released (fleet_formed m b s ok) zs e r in rw (k.total, k.distance) at (right.spent v (gather m.released zs) k.count (rw k.total h));
      }

  -- ---- The card

  share_fits : (j : ℕ) → get_or slots j 0 < 65536
  unfolding call_problem
  share_fits j =
      omega (
        arith,
        share_most slots j,
        in_book.answer.total,
        (call_schedule m b s ok).most_total a.steps (omega (arith, (call_schedule m b s ok).most_steps (sheet s).steps, right.answer.most_steps, (files_accepted b s (files_ok m b s ok)).1.most_steps)),
      )

  -- 4 bytes for each boat that holds shares, and the trailer
  pub pairs_length : length (pairs 0 slots) ≡ 4 * support slots
  pairs_length = (readable slots 0 (boats b) (omega (arith, slot_count)) (omega (arith, (files_accepted b s (files_ok m b s ok)).0.most_boats)) share_fits).sized

  pub card_length : length (worked_card m b s n) ≡ 4 * support slots + 36
  unfolding worked_card card_bytes
  card_length =
      length-append (pairs 0 slots) (trailer_bytes Sharper (answer_fields a (length (pairs 0 slots)) (sheet s).tolerance (boats b) (columns b)))
      ∙ omega (arith, length_trailer Sharper (answer_fields a (length (pairs 0 slots)) (sheet s).tolerance (boats b) (columns b)), pairs_length)

  short : length (worked_card m b s n) ≤ card_limit
  short = omega (arith, card_length, support_most slots, slot_count, (files_accepted b s (files_ok m b s ok)).0.most_boats)

  own : a ≡ answer_of Sharper (call_problem m b s) (gather m.released slots) a.steps
  unfolding worked_answer answer_at
  own = rw gathered

  module _ (front : List ℕ) (h : length front + length (worked_card m b s n) ≤ file_limit) where
    card_true : CardTrueWith m b s (front ++ worked_card m b s n)
    unfolding call_problem worked_card
    card_true =
        let k = in_book.answer in
        answer_card_true m b s Sharper slots rests own slot_count k.total k.few_boats right.answer.some_step right.answer.most_steps right.answer.stops_here front
        (omega (arith, length-append front (worked_card m b s n)))

    reads_back : ReadsBackWith m b s (front ++ worked_card m b s n) a slots
    unfolding card_true answer_card_true
    reads_back =
        let w = front ++ worked_card m b s n in
        record {
          accepted = true_accepted m b s w ok card_true;
          answer = answer_is m b s w ok card_true ∙ sym own;
          shares = shares_back m b s w ok card_true;
        }

  none_joins : (i : ℕ) → get_or (run_slots m b s) i 0 ≡ 0 → get_or slots i 0 ≡ 0
  none_joins = by m.released
    where
      by : (u : Usable) → (i : ℕ) → get_or (scatter u (boats b) (run_iterate (call_problem m b s)).shares) i 0 ≡ 0 → get_or (scatter u (boats b) (worked_shares (call_problem m b s) n)) i 0 ≡ 0
      by every = right.none_joins
      by (only set) = scatter_none (only set) 0 (boats b) (run_iterate (call_problem m b s)).shares (worked_shares (call_problem m b s) n) right.none_joins

  filed : WorkedFiled m b s n a (worked_card m b s n)
  filed =
      let back = reads_back [] (omega (arith, short)) in
      record {
        card_is = refl;
        reads_back = back;
        behind_front = reads_back;
        short = short;
        right = rw (back.shares, gathered) right;
        in_book = rw back.shares in_book;
        none_joins = rw back.shares none_joins;
      }

-- ---- The same files in another form, and books that a call cannot tell apart

module _ (m : Terms) (b s s' : List ℕ) (n : ℕ) (d : Editions s s') where
  same_sheet : sheet s' ≡ sheet s
  unfolding EditionsAlike
  same_sheet = rw (editions_alike s s' d).0

  same_card : worked_card m b s' n ≡ worked_card m b s n
  unfolding worked_card
  same_card = rw (same_problem m b s s' d, same_sheet)

  same_refusal : (room : ℕ) → work_refusal m b s' n room ≡ work_refusal m b s n room
  unfolding work_refusal
  same_refusal room = rw (same_call m b s s' d, same_problem m b s s' d, same_card)

module _ (m : Terms) {b s b' s' : List ℕ} (n : ℕ) (d : FilesAlike b s b' s') where
  card_behind : worked_card m b' s' n ≡ worked_card m b s n
  unfolding worked_card
  card_behind = rw (problem_behind m d, d.boats, d.columns, d.sheet)

  refusal_behind : (room : ℕ) → work_refusal m b' s' n room ≡ work_refusal m b s n room
  unfolding work_refusal
  refusal_behind room = rw (call_behind m d, problem_behind m d, card_behind)

pub worked_count : (p : Problem) (n : ℕ) → length (worked_shares p n) ≡ length p.vertices
unfolding worked_shares
worked_count p n = length_moves n p (run_iterate p).shares ∙ run_count p

-- whatever the other rows are
module _ (m : Terms) (b b' s : List ℕ) (ok : book_refusal b ≡ 0) (ok' : book_refusal b' ≡ 0) (same : SameReleased m.released b b') where
  card_isolated : (n : ℕ) → worked_card m b' s n ≡ worked_card m b s n
  unfolding worked_card
  card_isolated n = rw (problem_isolated m b b' s ok ok' same, same.boats_same, same.columns_same)

-- with a set of all boats
module _ (m : Terms) (b s : List ℕ) (all : AllBoats m.released (boats b)) where
  every_count : length (call_problem (without_set m) b s).vertices ≡ boats b
  unfolding call_problem
  every_count = rows_count b

  card_all : (n : ℕ) → worked_card (without_set m) b s n ≡ worked_card m b s n
  unfolding worked_card
  card_all n =
      let qs = worked_shares (call_problem (without_set m) b s) n in
      let k : length qs ≡ boats b = worked_count (call_problem (without_set m) b s) n ∙ every_count in
      let e : scatter m.released (length qs) qs ≡ qs = scatter_whole m.released qs (λ j h. (all j).0 (omega arith)) in
      rw (problem_all m b s all) (ap (λ l. card_bytes Sharper (worked_answer (call_problem (without_set m) b s) n) l (sheet s).tolerance (boats b) (columns b)) (sym (rw k at e)))

-- what makes two calls the same
same_working_by : {m m' : Terms} {b b' s : List ℕ} → call_refusal m' b' s ≡ call_refusal m b s → call_problem m' b' s ≡ call_problem m b s → ((n : ℕ) → worked_card m' b' s n ≡ worked_card m b s n) → SameWorking m m' b b' s
unfolding work_refusal
same_working_by e p q = record { given = λ n room. rw (e, p, q n); left = λ n output. rw (e, p, q n) }

-- ---- The outcome

-- a run that is not refused ended Spent
pub spent_accepted : (v n : ℕ) → spent_refusal v n ≡ 0 → v ≡ 3
unfolding spent_refusal
spent_accepted v n e = by (eqb v 3) (between 1 1000 n) refl e
  where
    by : (t u : Bool) → eqb v 3 ≡ t → ◌≡◌ {A = ℕ} (cond (not t) 53 (cond (not u) 54 0)) 0 → v ≡ 3
    by false u f z = absurd (omega arith)
    by true u f z = eqb-true v 3 f

pub record WorkAccepted (m : Terms) (b s : List ℕ) (n room : ℕ) : Type 0 where
  pub call : call_refusal m b s ≡ 0
  pub moves : moves_refusal (call_problem m b s) n ≡ 0
  pub fits : length (worked_card m b s n) ≤ room

pub work_accepted : (m : Terms) (b s : List ℕ) (n room : ℕ) → work_refusal m b s n room ≡ 0 → WorkAccepted m b s n room
unfolding work_refusal
work_accepted m b s n room e =
    let k = both (call_refusal m b s) _ e in
    let j = both (moves_refusal (call_problem m b s) n) _ k.1 in
    record { call = k.0; moves = j.0; fits = by (ltb room (length (worked_card m b s n))) refl j.1 }
  where
    by : (v : Bool) → ltb room (length (worked_card m b s n)) ≡ v → ◌≡◌ {A = ℕ} (cond v 22 0) 0 → length (worked_card m b s n) ≤ room
    by true g z = absurd (omega arith)
    by false g z = ltb-false room (length (worked_card m b s n)) g

module _ (m : Terms) (b s : List ℕ) (n : ℕ) (out : List ℕ) {k : ℕ} {r : Written} {now : List ℕ} (e : k ≡ work_refusal m b s n (length out))
    (f : r ≡ filing k (worked_answer (call_problem m b s) n) (length (worked_card m b s n))) (g : now ≡ slots_after k (worked_card m b s n) out) where
  accepted : k ≡ 0 → WorkAccepted m b s n (length out)
  accepted z = work_accepted m b s n (length out) (sym e ∙ z)

  same_length : length now ≡ length out
  same_length = ap length g ∙ length_after k (worked_card m b s n) out (λ z. (accepted z).fits)

  written_is : k ≡ 0 → take (written_size r) now ≡ worked_card m b s n
  written_is z =
      let j : written_size r ≡ length (worked_card m b s n) = ap written_size (f ∙ ap (λ i. filing i (worked_answer (call_problem m b s) n) (length (worked_card m b s n))) z) ∙ filing_size (worked_answer (call_problem m b s) n) (length (worked_card m b s n)) in
      rw j (ap (take (length (worked_card m b s n))) (g ∙ ap (λ i. slots_after i (worked_card m b s n) out) z) ∙ slots_kept (worked_card m b s n) out (length (worked_card m b s n)) refl)

  pub outcome_right : WorkingRight m b s n r now
  unfolding FilesFrontUnread
  outcome_right =
      record {
        number = ap writing_number f ∙ filing_number k (worked_answer (call_problem m b s) n) (length (worked_card m b s n)) ∙ e ∙ ap (work_refusal m b s n) (sym same_length);
        refused = λ j q. filing_refused k j (worked_answer (call_problem m b s) n) (length (worked_card m b s n)) (sym f ∙ q);
        filed = λ x j q. let h = filing_filed k (worked_answer (call_problem m b s) n) x (length (worked_card m b s n)) j (sym f ∙ q) in rw (← h.1, written_is h.0) (filed m b s n (accepted h.0).call (spent_accepted _ n (accepted h.0).moves));
        editions = λ s' d. (same_refusal m b s s' n d (length now), (same_problem m b s s' d, same_card m b s s' n d));
        fronts = λ b' s' d h. let i = files_front_unread b s b' s' d h in (refusal_behind m n i (length now), (problem_behind m i, card_behind m n i));
        isolated = λ b' h h' d. same_working_by (call_isolated m b b' s h h' d) (problem_isolated m b b' s h h' d) (card_isolated m b b' s h h' d);
        all_boats = λ d. same_working_by (sym (call_all m b s d)) (sym (problem_all m b s d)) (card_all m b s d);
      }

pub call_right : CallRight
unfolding CallRight
call_right m b s n output = outcome_right m b s n output refl refl refl
