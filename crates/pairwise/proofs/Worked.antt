-- The moves, one after another, and what a Spent run that is worked over keeps.
use mathlib.Core.Path.{◌≡◌, refl, sym, ap, ◌∙◌}
use mathlib.Core.Bool.{Bool, true, false, cond}
use mathlib.Core.List.{List, [], ◌∷◌}
use Prim.Native.Nat.{ℕ, zero, suc, ◌+◌, ◌*◌, ◌≤◌, ◌<◌}
use native.Mathlib.Nat.{le_trans, mul-le-mul_right}
use native.Mathlib.Omega.{arith}
use borrow.Author.Tests.{eqb-true, eqb-false}
use lib.Dec.{eqb}
use lib.ListN.{length, get_or, length-set}
use Rattle.frank_wolfe.specs.Vectors.{sum}
use Rattle.method.specs.declared.Test.TheVariants.{Sharper}
use Rattle.method.specs.Problem.{Schedule, fixed, lent, Problem, weight}
use Rattle.method.specs.Iterates.{mixture_distance, support, diameter}
use Rattle.method.specs.Answers.{verdict_number, stops, answer_at, run_iterate, run_answer}
use Rattle.method.specs.Bounds.{answer_of, AnswerBounds, StepBound, RunBounds}
use Rattle.method.proofs.Accepted.{well_formed, in_range, sized}
use Rattle.method.proofs.Bounds.{answer_bounds, run_bounds}
use Rattle.method.proofs.Mixtures.{WellFormed, InRange, Sized}
use Rattle.method.proofs.Running.{stops_last}
use Rattle.method.proofs.Weights.{weight_positive}
use Rattle.pairwise.specs.Moves.{amount, exchange, moved, moves, moves_made, worked_shares, worked_answer}
use Rattle.pairwise.specs.Worked.{MoveRight, WorkedRight, Enough, WorkingOver}
use Rattle.pairwise.proofs.Foremost.{positive}
use Rattle.pairwise.proofs.Moves.{choice, choice_amount, move_right}

-- ---- Where no boat joins, no more hold shares

pub support_less : (qs ps : List ℕ) → length ps ≡ length qs → ((i : ℕ) → get_or qs i 0 ≡ 0 → get_or ps i 0 ≡ 0) → support ps ≤ support qs
unfolding support
support_less [] [] e f = omega arith
support_less [] (p ∷ ps) e f = absurd (omega arith)
support_less (q ∷ qs) [] e f = absurd (omega arith)
support_less (q ∷ qs) (p ∷ ps) e f =
    let k : support ps ≤ support qs = support_less qs ps (omega arith) (λ i. f (suc i)) in
    let l : cond (eqb p 0) 0 1 ≤ cond (eqb q 0) 0 1 = one (eqb q 0) (eqb p 0) refl refl in
    omega arith
  where
    one : (s t : Bool) → eqb q 0 ≡ s → eqb p 0 ≡ t → cond t 0 1 ≤ cond s 0 1
    one s true a b = omega arith
    one false false a b = omega arith
    one true false a b = absurd (eqb-false p 0 b (f 0 (eqb-true q 0 a)))

-- ---- Moves keep one share a vertex

pub length_moves : (n : ℕ) (p : Problem) (qs : List ℕ) → length (moves n p qs) ≡ length qs
unfolding moves moved exchange
length_moves zero p qs = refl
length_moves (suc n) p qs = by (eqb (amount p qs) 0) (length_moves n p (moved p qs) ∙ simp length-set)
  where
    by : (t : Bool) → length (moves n p (moved p qs)) ≡ length qs → length (cond t qs (moves n p (moved p qs))) ≡ length qs
    by true e = refl
    by false e = e

-- ---- Moves of any shares, one a vertex, of a total above 0

-- what they keep
pub record Kept (p : Problem) (old new : List ℕ) : Type 0 where
  pub count : length new ≡ length old
  pub total : sum new ≡ sum old
  pub none_joins : (i : ℕ) → get_or old i 0 ≡ 0 → get_or new i 0 ≡ 0
  pub not_farther : mixture_distance p new ≤ mixture_distance p old

kept_none : {p : Problem} (qs : List ℕ) → Kept p qs qs
kept_none qs = record { count = refl; total = refl; none_joins = λ i h. h; not_farther = omega arith }

kept_more : {p : Problem} {qs ps os : List ℕ} → MoveRight p qs ps → Kept p ps os → Kept p qs os
kept_more m k =
    record {
      count = k.count ∙ m.count;
      total = k.total ∙ m.total;
      none_joins = λ i h. k.none_joins i (m.none_joins i h);
      not_farther = omega (arith, m.lowers, k.not_farther);
    }

-- so many moves, of which `made` are made
pub record MovedOver (p : Problem) (allowed : ℕ) (old new : List ℕ) (made : ℕ) : Type 0 where
  pub kept : Kept p old new
  pub every_move : (k : ℕ) → k < made → MoveRight p (moves k p old) (moves (suc k) p old)
  pub ends : moves made p old ≡ new
  pub most_moves : made ≤ allowed
  pub stopped : made < allowed → amount p new ≡ 0
  pub nearer : 1 ≤ made → mixture_distance p new < mixture_distance p old

module _ {p : Problem} (h : WellFormed p) where
  pub moved_over : (n : ℕ) (qs : List ℕ) → length qs ≡ length p.vertices → 1 ≤ sum qs → MovedOver p n qs (moves n p qs) (moves_made n p qs)
  unfolding moves moves_made
  moved_over zero qs count total =
      record { kept = kept_none qs; every_move = λ k l. absurd (omega arith); ends = refl; most_moves = omega arith; stopped = λ l. absurd (omega arith); nearer = λ l. absurd (omega arith) }
  moved_over (suc n) qs count total = by (λ m. moved_over n (moved p qs) (m.count ∙ count) (rw m.total total)) (eqb (amount p qs) 0) refl
    where
      by : (MoveRight p qs (moved p qs) → MovedOver p n (moved p qs) (moves n p (moved p qs)) (moves_made n p (moved p qs))) → (t : Bool) → eqb (amount p qs) 0 ≡ t →
          MovedOver p (suc n) qs (cond t qs (moves n p (moved p qs))) (cond t 0 (suc (moves_made n p (moved p qs))))
      by later true e =
          record {
            kept = kept_none qs;
            every_move = λ k l. absurd (omega arith);
            ends = refl;
            most_moves = omega arith;
            stopped = λ l. eqb-true (amount p qs) 0 e;
            nearer = λ l. absurd (omega arith);
          }
      by later false e =
          let m = move_right h qs count total (positive (amount p qs) (eqb-false (amount p qs) 0 e)) in
          let l = later m in
          record {
            kept = kept_more m l.kept;
            every_move = each m l;
            ends = rw e l.ends;
            most_moves = omega (arith, l.most_moves);
            stopped = λ k. l.stopped (omega arith);
            nearer = λ k. omega (arith, m.lowers, l.kept.not_farther);
          }
        where
          each : MoveRight p qs (moved p qs) → MovedOver p n (moved p qs) (moves n p (moved p qs)) (moves_made n p (moved p qs)) →
              (k : ℕ) → k < suc (moves_made n p (moved p qs)) → MoveRight p (moves k p qs) (moves (suc k) p qs)
          each m l zero a = rw e m
          each m l (suc k) a = rw e (l.every_move k (omega arith))

pub enough : Enough
unfolding Enough moves moves_made
enough p zero k qs l h = absurd (omega arith)
enough p (suc n) zero qs l h = absurd (omega arith)
enough p (suc n) (suc k) qs l h = by (eqb (amount p qs) 0) (λ a. enough p n k (moved p qs) a (omega arith)) l
  where
    by : (t : Bool) →
        (moves_made n p (moved p qs) < n → (moves k p (moved p qs) ≡ moves n p (moved p qs)) × (moves_made k p (moved p qs) ≡ moves_made n p (moved p qs))) →
        cond t 0 (suc (moves_made n p (moved p qs))) < suc n →
        (cond t qs (moves k p (moved p qs)) ≡ cond t qs (moves n p (moved p qs)))
        × (cond t 0 (suc (moves_made k p (moved p qs))) ≡ cond t 0 (suc (moves_made n p (moved p qs))))
    by true later l = (refl, refl)
    by false later l = let e = later (omega arith) in (e.0, ap suc e.1)

-- ---- The bound by steps of an E that is not greater

less_distance : (s : Schedule) (t d e e' b n q : ℕ) → e' ≤ e → StepBound s t d e b n q → StepBound s t d e' b n q
unfolding StepBound
less_distance fixed t d e e' b n q l k = le_trans (mul-le-mul_right (t + 2) (mul-le-mul_right (n * n) l)) k
less_distance (lent table) t d e e' b n q l k = le_trans (mul-le-mul_right (weight (lent table) t) (mul-le-mul_right (n * n) l)) k

-- ---- A Spent run

module _ {p : Problem} (h : WellFormed p) (f : InRange p) (z : Sized p) (n : ℕ) (spent : verdict_number (run_answer p).verdict ≡ 3) where
  abbrev qs : List ℕ
  qs = (run_iterate p).shares

  abbrev ps : List ℕ
  ps = worked_shares p n

  abbrev t : ℕ
  t = (run_answer p).steps

  run : RunBounds p (run_answer p) (run_iterate p).shares
  run = run_bounds h f z

  some_total : 1 ≤ sum qs
  some_total = rw run.answer.total (weight_positive h.schedule_fits run.answer.some_step)

  over : MovedOver p n qs ps (moves_made n p qs)
  unfolding worked_shares
  over = moved_over h n qs run.answer.share_count some_total

  few : support ps ≤ support qs
  few = support_less qs ps over.kept.count over.kept.none_joins

  new_total : 1 ≤ sum ps
  new_total = rw over.kept.total some_total

  bounds : AnswerBounds Sharper p (worked_answer p n) ps
  unfolding worked_answer
  bounds =
      answer_bounds h f z Sharper ps t (over.kept.count ∙ run.answer.share_count) (over.kept.total ∙ run.answer.total)
      (le_trans few run.answer.few_boats) run.answer.some_step run.answer.most_steps last
    where
      last : stops p.steps t (answer_of Sharper p ps t).verdict ≡ true
      last = let e : t ≡ p.steps = run.answer.spent_last spent in rw e (stops_last p.steps _)

  same_steps : (worked_answer p n).steps ≡ (run_answer p).steps
  unfolding worked_answer answer_at
  same_steps = refl

  same_weight : (worked_answer p n).weight ≡ (run_answer p).weight
  same_weight = bounds.weight ∙ ap (weight p.schedule) same_steps ∙ sym run.answer.weight

  not_farther : (worked_answer p n).distance ≤ (run_answer p).distance
  not_farther = rw (bounds.own_distance, run.answer.own_distance) over.kept.not_farther

  pub worked_right : WorkedRight p n (worked_answer p n) (worked_shares p n)
  unfolding worked_shares moves
  worked_right =
      record {
        made = moves_made n p qs;
        after = λ k. moves k p qs;
        starts = refl;
        every_move = over.every_move;
        ends = over.ends;
        most_moves = over.most_moves;
        next = choice h ps (over.kept.count ∙ run.answer.share_count) new_total;
        stopped = λ k. choice_amount h ps (over.kept.count ∙ run.answer.share_count) new_total ∙ over.stopped k;
        total = over.kept.total;
        none_joins = over.kept.none_joins;
        few_boats = few;
        same_steps = same_steps;
        same_weight = same_weight;
        not_farther = not_farther;
        nearer = λ k. rw (bounds.own_distance, run.answer.own_distance) (over.nearer k);
        answer = bounds;
        step_bound = λ os e k. rw (same_steps, same_weight) (less_distance p.schedule t (diameter p) (run_answer p).distance (worked_answer p n).distance ((run_answer p).weight * (run_answer p).weight) (sum os) (mixture_distance p os) not_farther (run.step_bound os e k));
        spent = λ v os e k. rw same_steps (run.spent spent os e k);
      }

pub working_over : WorkingOver
unfolding WorkingOver
working_over m b s n ok v = worked_right (well_formed m b s ok) (in_range m b s ok) (sized m b s ok) n v
