-- How a queue starts, and what it leaves when its rounds are done.
use mathlib.Core.Path.{◌≡◌, refl, sym, ap, ◌∙◌, subst}
use mathlib.Core.Bool.{false}
use mathlib.Core.Logic.{⊎_elim}
use mathlib.Core.List.{List, []}
use Prim.Native.Nat.{ℕ, zero, suc, ◌+◌, ◌*◌, ◌-◌, ◌≤◌, ◌<◌}
use native.Mathlib.Omega.{arith}
use borrow.Author.Tests.{ne_eqb}
use lib.Dec.{eqb}
use lib.IntN.{ℤ, pos}
use lib.ListN.{length, get_or, set, take, drop, replicate, length-set, length-drop, length-replicate, get_or-replicate, take-append-drop}
use lib.Seq.{get_or-set_same, get_or-set_other, get_or-take, length-take-le, take_at, drop_at, ext_get_or}
use Rattle.integers.proofs.Filling.{replicate_parts}
use Rattle.files.specs.Book.{boats}
use Rattle.files.proofs.Accepted.{files_accepted}
use Rattle.method.specs.Problem.{fixed, plain_terms, call_problem, problem}
use Rattle.method.specs.Iterates.{start, iterate}
use Rattle.method.specs.Answers.{slots_after, steps_used}
use Rattle.method.proofs.Schedules.{fixed_sized}
use Rattle.method.proofs.Accepted.{sized}
use Rattle.method.proofs.Promise.{slots_kept}
use Rattle.method.proofs.Running.{stopped}
use Rattle.iteration.specs.declared.State.{State}
use Rattle.iteration.specs.States.{Holds}
use Rattle.run_loop.proofs.Keeping.{scores_start}
use Rattle.sheet_queue.specs.declared.SheetRecord.{SheetRecord}
use Rattle.sheet_queue.specs.Rounds.{steps_got}
use Rattle.sheet_queue.specs.Queue.{blank, problems, queue_steps, refusal_of, accepted_of, record_of, records_of, shares_of, filled}
use Rattle.sheet_queue.specs.Promise.{part}
use Rattle.sheet_queue.proofs.Alone.{alone_iterate}
use Rattle.sheet_queue.proofs.Fair.{fair, everyone_starts}
use Rattle.sheet_queue.proofs.Parts.{part_of, Roomy, filled_length, filled_part, filled_rest, filled_by}
use Rattle.sheet_queue.proofs.Records.{own_count, records_count, records-at, shares_count, shares_at}
use Rattle.sheet_queue.proofs.Refusals.{Passes, passes, sheet_accepted}
use Rattle.sheet_turn.specs.Turns.{plain_book, plain_sheet, TurnScores}
use Rattle.sheet_turn.proofs.Plain.{plain_same}
use Rattle.queue_rounds.specs.declared.Plan.{Plan}
use Rattle.queue_rounds.specs.declared.Rounds.{Rounds}
use Rattle.queue_rounds.specs.declared.Work.{Work}
use Rattle.queue_rounds.specs.Plans.{plan_lengths, plan_sheets, sheet_of, own_of, Accepted}
use Rattle.queue_rounds.specs.Counts.{Sheets, Kept}
use Rattle.queue_rounds.specs.Work.{no_state, Started, Working, SameRest, ServedAll, count_after, plan_records, plan_slots, Ran}
use Rattle.queue_rounds.proofs.Turns.{same_or_other}
use Rattle.queue_rounds.proofs.Sheets.{sheet_count, sheet_length}
use Rattle.queue_rounds.proofs.Works.{own_length, own_here, boats_few}

-- ---- The first states, one after the other

pub record StartedTo (b : List ℕ) (p : Plan) (bs : List ℕ) (i : ℕ) (xs : List State) : Type 0 where
  pub long : length xs ≡ 16
  pub each : (j : ℕ) → j < i → Holds fixed (plain_book b (sheet_of p bs j)) (plain_sheet (sheet_of p bs j)) 0 (get_or xs j no_state)

pub started_none : {b : List ℕ} {p : Plan} {bs : List ℕ} {xs : List State} → length xs ≡ 16 → StartedTo b p bs 0 xs
started_none l = record { long = l; each = λ j h. absurd (omega arith) }

pub started_more : {b : List ℕ} {p : Plan} {bs : List ℕ} {i : ℕ} {xs : List State} → StartedTo b p bs i xs → i < 16 → {s : List ℕ} → s ≡ sheet_of p bs i →
    {x : State} → Holds fixed (plain_book b s) (plain_sheet s) 0 x → StartedTo b p bs (i + 1) (set xs i x)
started_more {b} {p} {bs} {i} {xs} c h e {x} H =
    record {
      long = length-set xs i x ∙ c.long;
      each = λ j l. ⊎_elim (λ (f : j ≡ i). rw (f, get_or-set_same xs i x no_state (omega (arith, c.long))) (rw e at H)) (λ f. rw (get_or-set_other xs i j x no_state f) (c.each j (omega (arith, f)))) (same_or_other j i);
    }

pub started_all : {b : List ℕ} {p : Plan} {bs : List ℕ} {i : ℕ} {xs : List State} → StartedTo b p bs i xs → p.count ≤ i → Started b p bs xs
started_all c l = record { long = c.long; each = λ j h. c.each j (omega arith) }

-- ---- The queue before its first turn

module _ {b : List ℕ} {p : Plan} {bs : List ℕ} (a : Accepted b p bs) where
  own_some : (i : ℕ) → i < p.count → 1 ≤ get_or (own_of b p bs) i 0
  own_some i h = rw (own_here a h) (stopped (problem b (sheet_of p bs i)) (sized plain_terms b (sheet_of p bs i) (a.each i h)).some_steps).later

  own_most : (i : ℕ) → i < p.count → get_or (own_of b p bs) i 0 ≤ 360
  unfolding call_problem
  own_most i h =
      rw (own_here a h) (omega (arith, (stopped (problem b (sheet_of p bs i)) (sized plain_terms b (sheet_of p bs i) (a.each i h)).some_steps).most, (files_accepted b (sheet_of p bs i) (a.each i h)).1.most_steps))

  sheets : Sheets (own_of b p bs)
  sheets =
      record {
        few = omega (arith, own_length a, a.few);
        one = λ i h. own_some i (omega (arith, own_length a));
        most = λ i h. own_most i (omega (arith, own_length a));
      }

  abbrev fresh : ℕ → Rounds
  fresh n = record { used = replicate 16 0; finished = replicate 16 false; left = n }

  none_at : (i : ℕ) → i < 16 → get_or {A = ℕ} (replicate 16 0) i 0 ≡ 0
  none_at i h = get_or-replicate 16 i 0 0 h

  kept_start : (n : ℕ) → Kept (own_of b p bs) (fresh n)
  kept_start n =
      record {
        sheets = sheets;
        used_long = refl;
        finished_long = refl;
        within_own = λ i h. omega (arith, none_at i (omega (arith, sheets.few)));
        finished_are = λ i h.
            let l : i < 16 = omega (arith, sheets.few) in
            let d : eqb (get_or (replicate 16 0) i 0) (get_or (own_of b p bs) i 0) ≡ false = ne_eqb (get_or (replicate 16 0) i 0) (get_or (own_of b p bs) i 0) (omega (arith, none_at i l, sheets.one i h)) in
            get_or-replicate 16 i false false l ∙ sym d;
      }

  -- no share of any boat
  no_shares : (i : ℕ) → i < p.count → (iterate (problem b (sheet_of p bs i)) 0).shares ≡ replicate (boats b) 0
  unfolding call_problem iterate start
  no_shares i h = rw (files_accepted b (sheet_of p bs i) (a.each i h)).0.row_count

  no_scores : (i : ℕ) → i < p.count → TurnScores b (sheet_of p bs i) 0 (part_of i (replicate 4096 (pos 0)))
  no_scores i h =
      let S = plain_same b (sheet_of p bs i) (a.each i h) in
      rw (zeros i (omega (arith, a.few))) (scores_start (plain_book b (sheet_of p bs i)) (plain_sheet (sheet_of p bs i)) S.accepted fixed_sized 256 (omega (arith, S.same_boats, boats_few a h)))
    where
      zeros : (i : ℕ) → i < 16 → part_of i (replicate 4096 (pos 0)) ≡ replicate 256 (pos 0)
      zeros i l =
          ap (part_of i) (replicate_parts (256 * i) 4096 (pos 0) (omega arith))
          ∙ ap (take 256) (drop_at (replicate (256 * i) (pos 0)) (replicate (4096 - 256 * i) (pos 0)) (256 * i) (length-replicate (256 * i) (pos 0)))
          ∙ ap (take 256) (replicate_parts 256 (4096 - 256 * i) (pos 0) (omega arith))
          ∙ take_at (replicate 256 (pos 0)) (replicate (4096 - 256 * i - 256) (pos 0)) 256 (length-replicate 256 (pos 0))

  module _ (old : List ℕ) (room : 256 * p.count ≤ length old) {m : ℕ} (em : m ≡ boats b) {slots : List ℕ} (e : slots ≡ filled (replicate p.count (replicate m 0)) old) where
    abbrev qss : List (List ℕ)
    qss = replicate p.count (replicate (boats b) 0)

    e' : slots ≡ filled qss old
    e' = e ∙ rw em

    number : length qss ≡ p.count
    number = length-replicate p.count (replicate {A = ℕ} (boats b) 0)

    some_boats : boats b ≤ 256
    some_boats = boats_few a {i = 0} a.some

    at : (i : ℕ) → i < p.count → get_or qss i [] ≡ replicate (boats b) 0
    at i h = get_or-replicate p.count i (replicate (boats b) 0) [] h

    roomy : Roomy qss old
    roomy = record { few = λ i h. rw (at i (omega (arith, number))) (omega (arith, length-replicate {A = ℕ} (boats b) 0, some_boats)); room = omega (arith, number) }

    part_is : (i : ℕ) → i < p.count → part i slots ≡ slots_after 0 (replicate (boats b) 0) (part i old)
    part_is i h = ap (part i) e' ∙ filled_part qss old roomy i (omega (arith, number)) ∙ rw (at i h)

    pub start_rest : SameRest b p.count old slots
    unfolding slots_after
    start_rest =
        record {
          long = ap length e' ∙ filled_length qss old roomy;
          parts = λ i h. ap (drop (boats b)) (part_is i h)
              ∙ drop_at (replicate (boats b) 0) (drop (length (replicate {A = ℕ} (boats b) 0)) (part i old)) (boats b) (length-replicate (boats b) 0) ∙ rw (length-replicate {A = ℕ} (boats b) 0);
          rest = ap (drop (256 * p.count)) e' ∙ rest;
        }
      where
        rest : drop (256 * p.count) (filled qss old) ≡ drop (256 * p.count) old
        rest = subst (λ (n : ℕ). drop (256 * n) (filled qss old) ≡ drop (256 * n) old) number (filled_rest qss old roomy)

    pub start_works : (n : ℕ) {xs : List State} → Started b p bs xs →
        Working b p bs (record { rounds = fresh n; states = xs; records = replicate 16 blank }) slots (replicate 4096 (pos 0))
    start_works n {xs} S =
        record {
          accepted = a;
          room = omega (arith, start_rest.long);
          kept = kept_start n;
          states_long = S.long;
          records_long = refl;
          scores_long = length-replicate 4096 (pos 0);
          each = λ i h.
              rw (none_at i (omega (arith, a.few)))
              (record {
                held = S.each i h;
                recorded = λ l. absurd (omega arith);
                shared = ap (take (boats b)) (part_is i h) ∙ slots_kept (replicate (boats b) 0) (part i old) (boats b) (length-replicate (boats b) 0) ∙ sym (no_shares i h);
                scored = no_scores i h;
              });
        }

-- ---- The queue after its last turn

module _ {b : List ℕ} {p : Plan} {bs : List ℕ} {w : Work} {slots : List ℕ} {scores : List ℤ} (W : Working b p bs w slots scores) {a : ℕ}
    (e : take (length (own_of b p bs)) w.rounds.used ≡ steps_got a (own_of b p bs)) (enough : p.count ≤ a) where
  abbrev ss : List (List ℕ)
  ss = plan_sheets p bs

  abbrev ks : List ℕ
  ks = queue_steps a (problems b ss)

  ks_are : take p.count w.rounds.used ≡ ks
  unfolding queue_steps
  ks_are = ap (λ (n : ℕ). take n w.rounds.used) (sym (own_length W.accepted)) ∙ e

  count_ss : length ss ≡ p.count
  count_ss = sheet_count p W.accepted.long W.accepted.few bs

  count_ns : length (plan_lengths p) ≡ p.count
  count_ns = length-take-le p.count p.lengths (omega (arith, W.accepted.long, W.accepted.few))

  count_ks : length ks ≡ p.count
  unfolding queue_steps
  count_ks = (fair a (own_of b p bs)).one_each ∙ own_length W.accepted

  module _ (i : ℕ) (h : i < p.count) where
    abbrev k : ℕ
    k = get_or ks i 0

    k_is : get_or w.rounds.used i 0 ≡ k
    k_is = sym (get_or-take p.count w.rounds.used i 0 h) ∙ ap (λ (l : List ℕ). get_or l i 0) ks_are

    k_some : 1 ≤ k
    unfolding queue_steps
    k_some =
        everyone_starts a (own_of b p bs) (omega (arith, own_length W.accepted)) i (omega (arith, own_length W.accepted)) (W.kept.sheets.one i (omega (arith, own_length W.accepted)))

    k_most : k ≤ steps_used (problem b (sheet_of p bs i))
    unfolding queue_steps
    k_most = omega (arith, (fair a (own_of b p bs)).within_own i, own_here W.accepted h)

    record_is : get_or w.records i blank ≡ record_of (get_or (plan_lengths p) i 0) (problem b (sheet_of p bs i)) k
    record_is =
        (W.each i h).recorded (omega (arith, k_is, k_some))
        ∙ rw (k_is, sheet_length p W.accepted.long W.accepted.few bs W.accepted.total i h)

    shares_is : take (boats b) (part i slots) ≡ get_or (shares_of (problems b ss) ks) i []
    shares_is =
        (W.each i h).shared
        ∙ ap (λ (n : ℕ). (iterate (problem b (sheet_of p bs i)) n).shares) k_is
        ∙ sym (ap (λ x. x.shares) (alone_iterate k (problem b (sheet_of p bs i)) (sized plain_terms b (sheet_of p bs i) (W.accepted.each i h)).some_steps k_some k_most))
        ∙ sym (shares_at b ss ks (count_ks ∙ sym count_ss) i (omega (arith, count_ss)))

  pub served_end : ServedAll b p bs a w.records slots
  served_end =
      record {
        records_long = W.records_long;
        records_are = ext_get_or blank (take p.count w.records) (records_of (plan_lengths p) (problems b ss) ks) long
            (λ i h. get_or-take p.count w.records i blank (within i h) ∙ record_is i (within i h) ∙ sym (records-at b (plan_lengths p) ss ks (count_ss ∙ sym count_ns) (count_ks ∙ sym count_ns) i (omega (arith, count_ns, within i h))));
        shares_are = shares_is;
      }
    where
      took : length (take p.count w.records) ≡ p.count
      took = length-take-le p.count w.records (omega (arith, W.records_long, W.accepted.few))

      long : length (take p.count w.records) ≡ length (records_of (plan_lengths p) (problems b ss) ks)
      long = took ∙ sym (records_count b (plan_lengths p) ss ks (count_ss ∙ sym count_ns) (count_ks ∙ sym count_ns) ∙ count_ns)

      within : (i : ℕ) → i < length (take p.count w.records) → i < p.count
      within i h = omega (arith, took)

-- ---- The call

module _ (b : List ℕ) (p : Plan) (bs : List ℕ) (a : ℕ) (slots : List ℕ) (long : length p.lengths ≡ 16) where
  abbrev refused_by : ℕ
  refused_by = refusal_of p.count b (plan_lengths p) bs a (length slots)

  abbrev accepted_by : ℕ
  accepted_by = accepted_of p.count b (plan_lengths p) bs a

  pub ran_refused : (n : ℕ) {m : ℕ} → n ≡ refused_by → m ≡ accepted_by → (n ≡ 0 → ⊥) → Ran b p bs a slots (record { refusal = n; count = 0; records = replicate 16 blank; accepted = m }) slots
  unfolding count_after plan_records plan_slots
  ran_refused zero e g f = absurd (f refl)
  ran_refused (suc n) e g f = record { refusal_is = e; count_is = refl; count_few = omega arith; records_long = refl; records_are = refl; slots_are = refl; accepted_is = g }

  module _ {n : ℕ} (e : n ≡ refused_by) (z : n ≡ 0) where
    passed : Passes p.count b (plan_lengths p) bs a (length slots)
    passed = passes p.count b (plan_lengths p) bs a (length slots) (sym e ∙ z)

    pub plan_accepted : Accepted b p bs
    plan_accepted =
        record {
          long = long;
          some = passed.ahead.some;
          few = passed.ahead.most;
          total = passed.ahead.total;
          each = λ i h. sheet_accepted passed i (omega (arith, sheet_count p long passed.ahead.most bs));
        }

    pub plan_asks : (p.count ≤ a) × (256 * p.count ≤ length slots)
    plan_asks = (passed.ahead.enough, passed.room)

    abbrev all_shares : List (List ℕ)
    all_shares = shares_of (problems b (plan_sheets p bs)) (queue_steps a (problems b (plan_sheets p bs)))

    ks_number : length (queue_steps a (problems b (plan_sheets p bs))) ≡ length (plan_sheets p bs)
    unfolding queue_steps
    ks_number = (fair a (own_of b p bs)).one_each ∙ own_count b (plan_sheets p bs)

    shares_number : length all_shares ≡ p.count
    shares_number = shares_count b (plan_sheets p bs) (queue_steps a (problems b (plan_sheets p bs))) ks_number ∙ sheet_count p long passed.ahead.most bs

    module _ {rs : List SheetRecord} {slots' : List ℕ} (S : ServedAll b p bs a rs slots') (R : SameRest b p.count slots slots') where
      part_long : (i : ℕ) → i < p.count → length (part i slots') ≡ 256
      part_long i h = length-take-le 256 (drop (256 * i) slots') (simp length-drop (omega (arith, R.long, passed.room)))

      shares_long : (i : ℕ) → i < p.count → length (get_or all_shares i []) ≡ boats b
      shares_long i h = sym (ap length (S.shares_are i h)) ∙ length-take-le (boats b) (part i slots') (omega (arith, part_long i h, boats_few plan_accepted h))

      part_made : (i : ℕ) → i < p.count → part i slots' ≡ slots_after 0 (get_or all_shares i []) (part i slots)
      unfolding slots_after
      part_made i h = sym (take-append-drop (boats b) (part i slots')) ∙ rw (S.shares_are i h, R.parts i h, shares_long i h)

      pub ran_served : {m : ℕ} → m ≡ accepted_by → Ran b p bs a slots (record { refusal = 0; count = p.count; records = rs; accepted = m }) slots'
      unfolding count_after plan_records plan_slots
      ran_served g =
          record {
            refusal_is = sym z ∙ e;
            count_is = refl;
            count_few = passed.ahead.most;
            records_long = S.records_long;
            records_are = S.records_are;
            slots_are = filled_by all_shares slots slots' (λ i h. part_made i (omega (arith, shares_number))) (rw shares_number R.rest);
            accepted_is = g;
          }
