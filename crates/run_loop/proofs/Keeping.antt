-- What a run keeps from step to step: shares, scores and the memory of products follow the state. Assumes nothing.
use mathlib.Core.Path.{◌≡◌, refl, sym, ap, ◌∙◌}
use mathlib.Core.List.{List, ◌++◌}
use Prim.Native.Nat.{ℕ, suc, ◌+◌, ◌*◌, ◌-◌, ◌≤◌, ◌<◌}
use native.Mathlib.Nat.{le_of_lt, lt_of_lt_of_le}
use native.Mathlib.Omega.{arith}
use native.Mathlib.Numerals.{add-one}
use lib.IntN.{ℤ, pos}
use lib.ListN.{length, get_or, set, take, drop, replicate, length-append, length-replicate, take-append-drop}
use lib.Seq.{get_or-take, take_at, drop_at, set-append_left, length_front, length-take-le}
use mir.Syntax.{w32, w64}
use mir.Val.{to_z, of_z}
use Rattle.integers.proofs.Filling.{replicate_parts}
use Rattle.files.specs.Book.{boats, columns, rows}
use Rattle.files.specs.Sheet.{files_refusal}
use Rattle.files.specs.Limits.{step_limit, total_limit}
use Rattle.frank_wolfe.specs.Vectors.{add, scale, weighted, ones}
use Rattle.method.specs.Problem.{Schedule, share, weight, allowed_steps}
use Rattle.method.specs.Plain.{plain_problem}
use Rattle.method.specs.Iterates.{iterate, start, residual, direction, row}
use Rattle.method.proofs.Weights.{weight_suc}
use Rattle.method.proofs.Schedules.{ScheduleSized}
use Rattle.method.proofs.Argmin.{among_row, score_at, length_scores}
use Rattle.method.proofs.Mixtures.{score_most}
use Rattle.method.proofs.Plain.{well_formed, in_range, mixed, share_count}
use Rattle.method.proofs.Shares.{mixed_share, residual_start}
use Rattle.sums.specs.Operands.{Bounded, Rescorable}
use Rattle.scoring.specs.Scores.{least_of, pick_of, Pickable}
use Rattle.scoring.specs.declared.Least.{Least}
use Rattle.iteration.specs.declared.Layout.{Layout}
use Rattle.iteration.specs.declared.State.{State}
use Rattle.iteration.specs.States.{file_layout, iterate_of, scores_of, boat_products, target_product, Holds}
use Rattle.iteration.specs.Moves.{next_state, Steppable}
use Rattle.iteration.proofs.States.{book_fits, sheet_fits, best_below, rescorable, steppable, next_holds, next_shares, next_scores, scores_zero}
use Rattle.run_loop.specs.Runs.{Going, SharesAt, ScoresAt, Products, Memory, memory_of, remembering, memory_after, Remembered}
use Rattle.run_loop.proofs.Runs.{going_start}
use Rattle.run_loop.proofs.Memory.{remembers_nothing, remembered, remembered_long}

take_replicate : {A : Type 0} (n m : ℕ) (a : A) → n ≤ m → take n (replicate m a) ≡ replicate n a
take_replicate n m a h = rw (replicate_parts n m a h) (take_at (replicate n a) (replicate (m - n) a) n (length-replicate n a))

-- the shares of the iterate after t steps, in the first slots of a list, before z
pub record Shared (a : Schedule) (b s : List ℕ) (t : ℕ) (qs z : List ℕ) : Type 0 where
  pub is : qs ≡ (iterate_of a b s t).shares ++ z

module _ (b s : List ℕ) (ok : files_refusal b s ≡ 0) {a : Schedule} (S : ScheduleSized a) where
  -- ---- Shares

  count : (t : ℕ) → length (iterate_of a b s t).shares ≡ boats b
  count t = share_count b s ok S t

  shared_front : {t : ℕ} {qs z : List ℕ} → Shared a b s t qs z → take (boats b) qs ≡ (iterate_of a b s t).shares
  shared_front {t} {z = z} q = ap (take (boats b)) q.is ∙ take_at (iterate_of a b s t).shares z (boats b) (count t)

  shared_room : {t : ℕ} {qs z : List ℕ} → Shared a b s t qs z → boats b ≤ length qs
  shared_room {t} q = rw (q.is, length-append, count t) (omega arith)

  module _ {t : ℕ} {x : State} (H : Holds a b s t x) (few : t < step_limit) {qs z : List ℕ} (q : Shared a b s t qs z) where
    share_is : get_or qs x.best 0 ≡ get_or (iterate_of a b s t).shares x.best 0
    share_is = sym (get_or-take (boats b) qs x.best 0 (best_below b s ok S H)) ∙ ap (λ (l : List ℕ). get_or l x.best 0) (shared_front q)

    pub share_room : (x.best < length qs) × (get_or qs x.best 0 + share a t < 65536)
    unfolding plain_problem
    share_room =
        let n : boats b ≤ length qs = shared_room q in
        let m : get_or (iterate_of a b s t).shares x.best 0 ≤ weight a t = mixed_share (mixed b s ok S t) x.best in
        let w : weight a (suc t) ≤ total_limit = S.most_total (suc t) (omega arith) in
        (omega (arith, best_below b s ok S H), rw share_is (omega (arith, weight_suc a t)))

    pub shares_next : {rs : List ℕ} → rs ≡ set qs x.best (get_or qs x.best 0 + share a t) → Shared a b s (suc t) rs z
    shares_next e =
        record {
          is = e ∙ rw (share_is, q.is) (set-append_left (iterate_of a b s t).shares z x.best _ (omega (arith, count t, best_below b s ok S H))
              ∙ ap (λ (l : List ℕ). l ++ z) (next_shares b s ok S H));
        }

  pub shares_before : {t : ℕ} {qs : List ℕ} → SharesAt a b s t qs → Shared a b s t qs (drop (boats b) qs)
  shares_before {qs = qs} h = record { is = sym (take-append-drop (boats b) qs) ∙ rw h.are }

  pub shares_at : {t : ℕ} {qs z : List ℕ} → Shared a b s t qs z → SharesAt a b s t qs
  shares_at q = record { room = shared_room q; are = shared_front q }

  none_yet : (iterate_of a b s 0).shares ≡ replicate (boats b) 0
  unfolding plain_problem iterate start
  none_yet = rw (book_fits b s ok).row_count

  pub shares_start : (n : ℕ) → boats b ≤ n → SharesAt a b s 0 (replicate n 0)
  shares_start n h = record { room = rw (length-replicate {A = ℕ} n 0) h; are = take_replicate (boats b) n 0 h ∙ sym none_yet }

  module _ {l : Layout} (e : l ≡ file_layout b s) (old : List ℕ) (room : boats b ≤ length old) {qs : List ℕ} (q : qs ≡ replicate l.boats 0 ++ drop l.boats old) where
    pub cleared : Shared a b s 0 qs (drop (boats b) old)
    unfolding file_layout
    cleared = record { is = (rw e at q) ∙ rw none_yet }

    pub cleared_shares : SharesAt a b s 0 qs
    cleared_shares = shares_at cleared

    -- what stands behind the shares is as it was
    pub cleared_rest : drop (boats b) qs ≡ drop (boats b) old
    cleared_rest = ap (drop (boats b)) cleared.is ∙ drop_at (iterate_of a b s 0).shares (drop (boats b) old) (boats b) (count 0)

  -- ---- Scores

  pub scores_start : (n : ℕ) → boats b ≤ n → ScoresAt a b s 0 (replicate n (pos 0))
  unfolding plain_problem iterate
  scores_start n h =
      record {
        room = rw (length-replicate n (pos 0)) h;
        are = take_replicate (boats b) n (pos 0) h
            ∙ sym (rw (residual_start (plain_problem a b s) (sheet_fits b s ok).target_length, scores_zero (ones (columns b)) (columns b) (rows b), (book_fits b s ok).row_count));
      }

  -- memory for boats that are at most n
  pub scores_for : (n : ℕ) {l : Layout} → l ≡ file_layout b s → l.boats ≤ n → ScoresAt a b s 0 (replicate n (pos 0))
  unfolding file_layout
  scores_for n e h = scores_start n (rw e at h)

  score_sizes : {t : ℕ} → t ≤ step_limit → {sc : List ℤ} → ScoresAt a b s t sc → Bounded 33269760000000 (boats b) sc
  unfolding plain_problem
  score_sizes {t} few {sc} C =
      let f = in_range b s ok S in
      record {
        long = C.room;
        each = λ q h. rw (← get_or-take (boats b) sc q (pos 0) h, C.are, score_at (ones (columns b)) (residual (plain_problem a b s) t (iterate_of a b s t)) (rows b) q)
            (omega (arith, score_most (well_formed b s ok S) f (mixed b s ok S t) (row (rows b) q) (f.rows_bounded _ (among_row (rows b) q (omega (arith, (book_fits b s ok).row_count)))), S.most_total t few));
      }

  module _ {l : Layout} (e : l ≡ file_layout b s) {x : State} (H : Holds a b s x.steps x) (few : x.steps < step_limit) {k : ℕ} (ek : k ≡ share a x.steps) {sc : List ℤ} (C : ScoresAt a b s x.steps sc)
      {ps : List ℤ} (P : Products b s x.best ps) where
    pub rescorable_here : Rescorable sc k ps l.boats
    unfolding file_layout
    rescorable_here = rw e (rescorable b s ok k x.best (best_below b s ok S H) C.room P.room P.are (omega (arith, S.most_share x.steps few)) (score_sizes (le_of_lt few) C).each)

    moved_scores : add (take l.boats sc) (scale k (take l.boats ps)) ≡ scores_of a b s (x.steps + 1)
    unfolding file_layout
    moved_scores = rw (e, add-one, ek, C.are, P.are) (next_scores b s ok S H)

    module _ {new : List ℤ} (f : new ≡ add (take l.boats sc) (scale k (take l.boats ps)) ++ drop l.boats sc) where
      -- every slot of the scores
      pub scores_here : new ≡ scores_of a b s (x.steps + 1) ++ drop (boats b) sc
      unfolding file_layout
      scores_here = f ∙ rw (moved_scores, e)

      scores_whole : new ≡ scores_of a b s (suc x.steps) ++ drop (boats b) sc
      scores_whole = rw add-one at scores_here

      n : length (scores_of a b s (suc x.steps)) ≡ boats b
      n = length_scores _ _ (rows b) ∙ (book_fits b s ok).row_count

      scores_front : take (boats b) new ≡ scores_of a b s (suc x.steps)
      scores_front = ap (take (boats b)) scores_whole ∙ take_at (scores_of a b s (suc x.steps)) (drop (boats b) sc) (boats b) n

      pub scores_next : ScoresAt a b s (suc x.steps) new
      unfolding direction
      scores_next =
          record { room = rw (scores_whole, length-append, n) (omega arith); are = scores_front }

      -- ---- The pick of the step after it

      pub least_next : {p : Least} → p ≡ least_of (add (take l.boats sc) (scale k (take l.boats ps))) → p ≡ least_of (take l.boats new)
      unfolding file_layout
      least_next g = g ∙ ap least_of (moved_scores ∙ rw (e, add-one, scores_front))

      module _ {qs z : List ℕ} (q : Shared a b s (suc x.steps) qs z) where
        pub pickable_next : Pickable new qs l.boats
        unfolding file_layout
        pickable_next = rw e (record { some_boats = (book_fits b s ok).some_boats; score_sizes = score_sizes few scores_next; in_shares = shared_room q })

        pub pick_next : {p : Least} → p ≡ pick_of (take l.boats qs) (take l.boats new) → p ≡ pick_of (iterate_of a b s (x.steps + 1)).shares (scores_of a b s (x.steps + 1))
        unfolding file_layout
        pick_next g = g ∙ rw (e, add-one, scores_front, shared_front q)

  -- ---- The first step

  pub boats_fit : {l : Layout} → l ≡ file_layout b s → {n : ℕ} → boats b ≤ n → l.boats ≤ n
  unfolding file_layout
  boats_fit e h = rw e h

pub behind : (front : List ℕ) {new z z' : List ℕ} → new ≡ front ++ z → z ≡ z' → new ≡ front ++ z'
behind front f e = f ∙ ap (λ l. front ++ l) e

-- ---- A boat's own numbers

pub own_score : {a : Schedule} {b s : List ℕ} {t : ℕ} {sc : List ℤ} → ScoresAt a b s t sc → {i : ℕ} → i < boats b →
    get_or sc i (pos 0) ≡ weighted (ones (columns b)) (residual (plain_problem a b s) t (iterate_of a b s t)) (row (rows b) i)
own_score {a} {b} {s} {t} {sc} C {i} h =
    sym (get_or-take (boats b) sc i (pos 0) h) ∙ ap (λ (z : List ℤ). get_or z i (pos 0)) C.are ∙ score_at (ones (columns b)) (residual (plain_problem a b s) t (iterate_of a b s t)) (rows b) i

-- ---- One step

module _ (b s : List ℕ) (ok : files_refusal b s ≡ 0) {a : Schedule} (S : ScheduleSized a) {x : State} (H : Holds a b s x.steps x) (few : x.steps < step_limit) {k : ℕ} (ek : k ≡ share a x.steps) where
  module _ {qs : List ℕ} (Q : SharesAt a b s x.steps qs) where
    pub room_here : (x.best < length qs) × (get_or qs x.best 0 + k < 65536)
    room_here = rw ek (share_room b s ok S H few (shares_before b s ok S Q))

    module _ {rs : List ℕ} (e : rs ≡ set qs x.best (get_or qs x.best 0 + k)) where
      pub shared_here : Shared a b s (suc x.steps) rs (drop (boats b) qs)
      shared_here = shares_next b s ok S H few (shares_before b s ok S Q) (rw ek at e)

      pub shares_here : rs ≡ (iterate_of a b s (x.steps + 1)).shares ++ drop (boats b) qs
      shares_here = rw add-one shared_here.is

  -- the state, by the score, the own product and the product with the target, as the machine has them
  module _ {sc : List ℤ} (C : ScoresAt a b s x.steps sc) {own target : ℤ} (eo : own ≡ get_or (boat_products b s x.best) x.best (pos 0)) (et : target ≡ target_product b s x.best) where
    pub steppable_here : Steppable x k (to_z w64 (of_z w64 (get_or sc x.best (pos 0)))) (to_z w32 (of_z w32 own)) (to_z w32 (of_z w32 target))
    steppable_here = rw ek (steppable b s ok S H (own_score C (best_below b s ok S H)) eo et few)

    pub state_here : {p : Least} → p ≡ pick_of (iterate_of a b s (x.steps + 1)).shares (scores_of a b s (x.steps + 1)) →
        {y : State} → y ≡ next_state x k (to_z w64 (of_z w64 (get_or sc x.best (pos 0)))) (to_z w32 (of_z w32 own)) (to_z w32 (of_z w32 target)) p → Holds a b s (x.steps + 1) y
    state_here ep ey = rw add-one (next_holds b s ok S H (own_score C (best_below b s ok S H)) eo et few (rw add-one at ep) (rw ek at ey))

-- ---- What a step leaves

module _ (b s : List ℕ) (ok : files_refusal b s ≡ 0) {a : Schedule} (S : ScheduleSized a) (t : ℕ) where
  module _ (old : List ℕ) {qs : List ℕ} (e : qs ≡ (iterate_of a b s (t + 1)).shares ++ drop (boats b) old) where
    pub shares_after : SharesAt a b s (t + 1) qs
    shares_after = shares_at b s ok S (record { is = e })

    pub shares_behind : drop (boats b) qs ≡ drop (boats b) old
    shares_behind = ap (drop (boats b)) e ∙ drop_at (iterate_of a b s (t + 1)).shares (drop (boats b) old) (boats b) (share_count b s ok S (t + 1))

  score_count : length (scores_of a b s (t + 1)) ≡ boats b
  score_count = length_scores _ _ (rows b) ∙ (book_fits b s ok).row_count

  module _ (old : List ℤ) {ps : List ℤ} (e : ps ≡ scores_of a b s (t + 1) ++ drop (boats b) old) where
    first_scores : take (boats b) ps ≡ scores_of a b s (t + 1)
    first_scores = ap (take (boats b)) e ∙ take_at (scores_of a b s (t + 1)) (drop (boats b) old) (boats b) score_count

    pub scores_after : ScoresAt a b s (t + 1) ps
    unfolding direction
    scores_after = record { room = rw (e, length-append, score_count) (omega arith); are = rw add-one (rw add-one at first_scores) }

    pub scores_behind : drop (boats b) ps ≡ drop (boats b) old
    scores_behind = ap (drop (boats b)) e ∙ drop_at (scores_of a b s (t + 1)) (drop (boats b) old) (boats b) score_count

-- ---- The loop of a run

pub shared_end : {a : Schedule} {b s : List ℕ} {t : ℕ} {qs z : List ℕ} → Shared a b s t qs z → {rs : List ℕ} → (iterate_of a b s t).shares ≡ rs → qs ≡ rs ++ z
shared_end {z = z} q e = q.is ∙ ap (λ (l : List ℕ). l ++ z) e

pub record Kept (a : Schedule) (b s : List ℕ) (x : State) (shares₀ shares : List ℕ) (scores₀ scores memory₀ : List ℤ) (m : Memory) : Type 0 where
  pub going : Going a b s x
  pub shared : SharesAt a b s x.steps shares
  pub shares_long : length shares ≡ length shares₀
  pub shares_rest : drop (boats b) shares ≡ drop (boats b) shares₀
  pub scored : ScoresAt a b s x.steps scores
  pub scores_long : length scores ≡ length scores₀
  pub scores_rest : drop (boats b) scores ≡ drop (boats b) scores₀
  pub remembers : Remembered b s m
  pub memory_long : length m.products ≡ length memory₀
  pub memory_is : m ≡ memory_after a b s x.steps memory₀

pub kept_start : (b s : List ℕ) → files_refusal b s ≡ 0 → {a : Schedule} → ScheduleSized a → {x : State} → Holds a b s 0 x → {shares : List ℕ} → SharesAt a b s 0 shares → {scores : List ℤ} → ScoresAt a b s 0 scores →
    {memory : List ℤ} → 64 * boats b ≤ length memory → Kept a b s x shares shares scores scores memory (memory_of (replicate 257 0) (replicate 64 (pos 0)) memory)
unfolding memory_after
kept_start b s ok S {x} H {shares} q {scores} C room =
    record {
      going = going_start b s ok S H;
      shared = rw H.steps_are q;
      shares_long = refl;
      shares_rest = refl;
      scored = rw H.steps_are C;
      scores_long = refl;
      scores_rest = refl;
      remembers = remembers_nothing b s room;
      memory_long = refl;
      memory_is = rw H.steps_are;
    }

module _ (b s : List ℕ) (ok : files_refusal b s ≡ 0) {a : Schedule} (S : ScheduleSized a) {x : State} {shares₀ shares : List ℕ} {scores₀ scores memory₀ : List ℤ} {m : Memory} (K : Kept a b s x shares₀ shares scores₀ scores memory₀ m) where
  pub left_here : x.steps < allowed_steps a step_limit
  left_here = lt_of_lt_of_le K.going.left (S.more_steps (sheet_fits b s ok).most_steps)

  module _ {y : State} (H : Holds a b s (x.steps + 1) y) {qs : List ℕ} (eq : qs ≡ (iterate_of a b s (x.steps + 1)).shares ++ drop (boats b) shares)
      {ps : List ℤ} (ep : ps ≡ scores_of a b s (x.steps + 1) ++ drop (boats b) scores) {m' : Memory} (em : m' ≡ remembering b s x.best m) where
    memory_next : m' ≡ memory_after a b s (suc x.steps) memory₀
    unfolding memory_after
    memory_next = em ∙ rw (K.memory_is, K.going.held.best_is)

    pub kept_more : Going a b s y → Kept a b s y shares₀ qs scores₀ ps memory₀ m'
    kept_more g =
        record {
          going = g;
          shared = rw H.steps_are (shares_after b s ok S x.steps shares eq);
          shares_long = rw (eq, length_front shares (iterate_of a b s (x.steps + 1)).shares (boats b) (share_count b s ok S (x.steps + 1) ∙ sym (length-take-le (boats b) shares K.shared.room))) K.shares_long;
          shares_rest = shares_behind b s ok S x.steps shares eq ∙ K.shares_rest;
          scored = rw H.steps_are (scores_after b s ok S x.steps scores ep);
          scores_long = rw (ep, length_front scores (scores_of a b s (x.steps + 1)) (boats b) (score_count b s ok S x.steps ∙ sym (length-take-le (boats b) scores K.scored.room))) K.scores_long;
          scores_rest = scores_behind b s ok S x.steps scores ep ∙ K.scores_rest;
          remembers = rw em (remembered b s ok K.remembers (best_below b s ok S K.going.held));
          memory_long = rw (em, remembered_long b s ok K.remembers (best_below b s ok S K.going.held)) K.memory_long;
          memory_is = rw (H.steps_are, add-one) memory_next;
        }

    -- the last step, which leads to n steps
    pub kept_done : {rs : List ℕ} → (iterate_of a b s y.steps).shares ≡ rs → {n : ℕ} → y.steps ≡ n →
        (qs ≡ rs ++ drop (boats b) shares₀) × ((ps ≡ scores_of a b s n ++ drop (boats b) scores₀) × (m'.products ≡ (memory_after a b s n memory₀).products))
    kept_done er en =
        let e = sym H.steps_are ∙ en in (
          eq ∙ rw (K.shares_rest, ← er, H.steps_are),
          (ep ∙ rw (K.scores_rest, e), ap (λ (z : Memory). z.products) memory_next ∙ rw (← add-one, e)),
        )
