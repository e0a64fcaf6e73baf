-- A queue between two turns: what a turn asks of it, what it leaves, and that the others keep what is theirs.
use mathlib.Core.Path.{◌≡◌, refl, sym, ap, ◌∙◌, subst}
use mathlib.Core.Bool.{true}
use mathlib.Core.Logic.{⊎_elim}
use mathlib.Core.List.{List, ◌++◌, append-nil}
use Prim.Native.Nat.{ℕ, ◌+◌, ◌*◌, ◌-◌, ◌≤◌, ◌<◌}
use native.Mathlib.Omega.{arith}
use lib.Dec.{eqb}
use lib.IntN.{ℤ}
use lib.ListN.{length, get_or, set, take, drop, length-set, length-append, length-drop}
use lib.Seq.{get_or-set_same, get_or-set_other, length-take-le, take_at, drop_at, drop-length}
use borrow.Rule.Slice.PartMut.{mid_of, put_mid}
use Rattle.files.specs.Book.{boats}
use Rattle.files.specs.Sheet.{files_refusal}
use Rattle.files.proofs.Accepted.{files_accepted}
use Rattle.method.specs.Problem.{fixed, problem}
use Rattle.method.specs.Iterates.{iterate}
use Rattle.method.specs.Answers.{steps_used}
use Rattle.iteration.specs.declared.State.{State}
use Rattle.iteration.specs.States.{Holds}
use Rattle.sheet_queue.specs.declared.SheetRecord.{SheetRecord}
use Rattle.sheet_queue.specs.Queue.{blank, record_of}
use Rattle.sheet_queue.specs.Promise.{part}
use Rattle.sheet_queue.proofs.Parts.{part_of, put_at, put_length, put_same, put_other, put_rest}
use Rattle.sheet_queue.proofs.Records.{own_at, own_count}
use Rattle.sheet_queue.proofs.Promise.{book_shares}
use Rattle.sheet_turn.specs.Turns.{plain_book, plain_sheet, TurnShares, TurnScores}
use Rattle.queue_rounds.specs.declared.Plan.{Plan}
use Rattle.queue_rounds.specs.declared.Work.{Work}
use Rattle.queue_rounds.specs.Plans.{plan_sheets, sheet_of, own_of, Accepted}
use Rattle.queue_rounds.specs.Counts.{Turned, is_due, taken}
use Rattle.queue_rounds.specs.Work.{no_state, SheetAt, Working, SameRest}
use Rattle.queue_rounds.proofs.Sheets.{sheet_count}
use Rattle.queue_rounds.proofs.Turns.{same_or_other, left_is, more, few, moves}

-- ---- Share lists in which only shares changed

pub rest_same : {b : List ℕ} {n : ℕ} {slots : List ℕ} → SameRest b n slots slots
rest_same = record { long = refl; parts = λ i h. refl; rest = refl }

pub rest_both : {b : List ℕ} {n : ℕ} {x y z : List ℕ} → SameRest b n x y → SameRest b n y z → SameRest b n x z
rest_both f g = record { long = g.long ∙ f.long; parts = λ i h. g.parts i h ∙ f.parts i h; rest = g.rest ∙ f.rest }

-- ---- A part lent and put back

module _ {A : Type 0} (i : ℕ) (l : List A) where
  size_is : 256 * i + 256 - 256 * i ≡ 256
  size_is = omega arith

  pub mid_is : mid_of (256 * i) (256 * i + 256 - 256 * i) l ≡ part_of i l
  mid_is = rw size_is

  pub put_is : (xs : List A) → length xs ≡ 256 → put_mid (256 * i) (256 * i + 256 - 256 * i) l xs ≡ put_at i xs l
  put_is xs e = rw (size_is, e)

  pub mid_length : 256 * i + 256 ≤ length l → length (mid_of (256 * i) (256 * i + 256 - 256 * i) l) ≡ 256
  mid_length h = rw mid_is (length-take-le 256 (drop (256 * i) l) (simp length-drop (omega arith)))

-- a whole part put over another
pub whole : {A : Type 0} (xs old : List A) → length xs ≡ 256 → length old ≡ 256 → xs ++ drop (length xs) old ≡ xs
whole {A} xs old f g = ap (λ (n : ℕ). xs ++ drop n old) (f ∙ sym g) ∙ ap (λ (l : List A). xs ++ l) (drop-length old) ∙ append-nil xs

module _ {b : List ℕ} {p : Plan} {bs : List ℕ} (a : Accepted b p bs) where
  pub own_length : length (own_of b p bs) ≡ p.count
  own_length = own_count b (plan_sheets p bs) ∙ sheet_count p a.long a.few bs

  module _ {i : ℕ} (h : i < p.count) where
    pub own_here : get_or (own_of b p bs) i 0 ≡ steps_used (problem b (sheet_of p bs i))
    own_here = own_at b (plan_sheets p bs) i (omega (arith, sheet_count p a.long a.few bs))

    pub boats_few : boats b ≤ 256
    boats_few = (files_accepted b (sheet_of p bs i) (a.each i h)).0.most_boats

module _ {b : List ℕ} {p : Plan} {bs : List ℕ} {w : Work} {slots : List ℕ} {scores : List ℤ} (W : Working b p bs w slots scores) {i : ℕ} (h : i < p.count) where
  abbrev s : List ℕ
  s = sheet_of p bs i

  abbrev k : ℕ
  k = get_or w.rounds.used i 0

  abbrev x : State
  x = get_or w.states i no_state

  pub i_few : i < 16
  i_few = omega (arith, W.accepted.few)

  in_own : i < length (own_of b p bs)
  in_own = omega (arith, own_length W.accepted)

  pub ok_here : files_refusal b s ≡ 0
  ok_here = W.accepted.each i h

  pub slots_room : 256 * i + 256 ≤ length slots
  slots_room = omega (arith, W.room)

  pub scores_room : 256 * i + 256 ≤ length scores
  scores_room = omega (arith, i_few, W.scores_long)

  steps_are : x.steps ≡ k
  steps_are = (W.each i h).held.steps_are

  held : Holds fixed (plain_book b s) (plain_sheet s) x.steps x
  held = rw steps_are (W.each i h).held

  -- what a turn asks
  module _ (d : is_due i w.rounds ≡ true) where
    more_here : k < steps_used (problem b s)
    more_here = omega (arith, more W.kept i in_own d, own_here W.accepted h)

    pub turn_asks : {sheet : List ℕ} → sheet ≡ s →
        (files_refusal b sheet ≡ 0) × (Holds fixed (plain_book b sheet) (plain_sheet sheet) x.steps x × ((x.steps < steps_used (problem b sheet)) ×
        (TurnShares b sheet x.steps (mid_of (256 * i) (256 * i + 256 - 256 * i) slots) × TurnScores b sheet x.steps (mid_of (256 * i) (256 * i + 256 - 256 * i) scores))))
    turn_asks e =
        rw (e, mid_is i slots, mid_is i scores) (
          ok_here,
          (
            held,
            (
              omega (arith, steps_are, more_here),
              (record { room = omega (arith, boats_few W.accepted h, mid_length i slots slots_room, ap length (mid_is i slots)); are = rw steps_are (W.each i h).shared }, rw steps_are (W.each i h).scored),
            ),
          ),
        )

    pub took_asks : (i < 16) × (0 < w.rounds.left) × (get_or w.rounds.used i 0 < 360)
    took_asks = (i_few, left_is W.kept i in_own d, few W.kept i in_own d)

    -- what it leaves
    module _ {sheet : List ℕ} (e : sheet ≡ s) {y : State} (H : Holds fixed (plain_book b sheet) (plain_sheet sheet) (x.steps + 1) y)
        {r : SheetRecord} (er : r ≡ record_of (length sheet) (problem b sheet) (x.steps + 1))
        {qs : List ℕ} (eq : qs ≡ (iterate (problem b sheet) (x.steps + 1)).shares ++ drop (boats b) (mid_of (256 * i) (256 * i + 256 - 256 * i) slots))
        {ps : List ℤ} (S : TurnScores b sheet (x.steps + 1) ps) (lp : length ps ≡ length (mid_of (256 * i) (256 * i + 256 - 256 * i) scores)) where
      next : x.steps + 1 ≡ k + 1
      next = omega (arith, steps_are)

      H' : Holds fixed (plain_book b s) (plain_sheet s) (k + 1) y
      H' = subst (λ (n : ℕ). Holds fixed (plain_book b s) (plain_sheet s) n y) next (rw e at H)

      er' : r ≡ record_of (length s) (problem b s) (k + 1)
      er' = er ∙ rw (e, next)

      eq' : qs ≡ (iterate (problem b s) (k + 1)).shares ++ drop (boats b) (part i slots)
      eq' = eq ∙ rw (e, next, mid_is i slots)

      S' : TurnScores b s (k + 1) ps
      S' = subst (λ (n : ℕ). TurnScores b s n ps) next (rw e at S)

      count : length (iterate (problem b s) (k + 1)).shares ≡ boats b
      count = book_shares b s ok_here (k + 1)

      part_long : length (part i slots) ≡ 256
      part_long = sym (ap length (mid_is i slots)) ∙ mid_length i slots slots_room

      pub qs_long : length qs ≡ 256
      qs_long = ap length eq' ∙ simp (length-append, length-drop, count, part_long) (omega (arith, boats_few W.accepted h))

      ps_long : length ps ≡ 256
      ps_long = lp ∙ mid_length i scores scores_room

      finished : r.finished ≡ eqb (k + 1) (get_or (own_of b p bs) i 0)
      unfolding record_of
      finished = ap (λ (z : SheetRecord). z.finished) er' ∙ rw (own_here W.accepted h)

      abbrev new_slots : List ℕ
      new_slots = put_mid (256 * i) (256 * i + 256 - 256 * i) slots qs

      abbrev new_scores : List ℤ
      new_scores = put_mid (256 * i) (256 * i + 256 - 256 * i) scores ps

      slots_is : new_slots ≡ put_at i qs slots
      slots_is = put_is i slots qs qs_long

      scores_is : new_scores ≡ put_at i ps scores
      scores_is = put_is i scores ps ps_long

      few_qs : length qs ≤ 256
      few_qs = omega (arith, qs_long)

      few_ps : length ps ≤ 256
      few_ps = omega (arith, ps_long)

      part_new : part i new_slots ≡ qs
      part_new = ap (part i) slots_is ∙ put_same i qs slots few_qs slots_room ∙ whole qs (part i slots) qs_long part_long

      score_new : part_of i new_scores ≡ ps
      score_new = ap (part_of i) scores_is ∙ put_same i ps scores few_ps scores_room ∙ whole ps (part_of i scores) ps_long (sym (ap length (mid_is i scores)) ∙ mid_length i scores scores_room)

      pub turn_turned : Turned (own_of b p bs) i w.rounds (taken i r.finished w.rounds)
      turn_turned = moves W.kept i in_own d r.finished finished

      pub turn_rest : SameRest b p.count slots new_slots
      turn_rest =
          record {
            long = ap length slots_is ∙ put_length i qs slots few_qs slots_room;
            parts = λ j l. ⊎_elim (λ (f : j ≡ i). rw (f, part_new) (ap (drop (boats b)) eq' ∙ drop_at (iterate (problem b s) (k + 1)).shares (drop (boats b) (part i slots)) (boats b) count))
                (λ f. ap (drop (boats b)) (ap (part j) slots_is ∙ put_other i qs slots few_qs slots_room j f))
                (same_or_other j i);
            rest = ap (drop (256 * p.count)) slots_is ∙ put_rest i qs slots few_qs slots_room p.count h;
          }

      pub turn_works : Working b p bs (record { rounds = taken i r.finished w.rounds; states = set w.states i y; records = set w.records i r }) new_slots new_scores
      turn_works =
          record {
            accepted = W.accepted;
            room = omega (arith, W.room, turn_rest.long);
            kept = turn_turned.kept;
            states_long = length-set w.states i y ∙ W.states_long;
            records_long = length-set w.records i r ∙ W.records_long;
            scores_long = ap length scores_is ∙ put_length i ps scores few_ps scores_room ∙ W.scores_long;
            each = λ j l. ⊎_elim (λ (f : j ≡ i). rw f mine) (λ f. others j l f) (same_or_other j i);
          }
        where
          mine : SheetAt b s (get_or (set w.rounds.used i (k + 1)) i 0) (get_or (set w.states i y) i no_state) (get_or (set w.records i r) i blank) (part i new_slots) (part_of i new_scores)
          mine =
              rw (
                get_or-set_same w.rounds.used i (k + 1) 0 (omega (arith, i_few, W.kept.used_long)),
                get_or-set_same w.states i y no_state (omega (arith, i_few, W.states_long)),
                get_or-set_same w.records i r blank (omega (arith, i_few, W.records_long)),
                part_new,
                score_new,
              )
              (record { held = H'; recorded = λ _. er'; shared = ap (take (boats b)) eq' ∙ take_at (iterate (problem b s) (k + 1)).shares (drop (boats b) (part i slots)) (boats b) count; scored = S' })

          others : (j : ℕ) → j < p.count → (j ≡ i → ⊥) →
              SheetAt b (sheet_of p bs j) (get_or (set w.rounds.used i (k + 1)) j 0) (get_or (set w.states i y) j no_state) (get_or (set w.records i r) j blank) (part j new_slots) (part_of j new_scores)
          others j l f =
              rw (
                get_or-set_other w.rounds.used i j (k + 1) 0 f,
                get_or-set_other w.states i j y no_state f,
                get_or-set_other w.records i j r blank f,
                ap (part j) slots_is ∙ put_other i qs slots few_qs slots_room j f,
                ap (part_of j) scores_is ∙ put_other i ps scores few_ps scores_room j f,
              )
              (W.each j l)
