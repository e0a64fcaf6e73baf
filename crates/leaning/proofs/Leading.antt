-- The boat of a stretch leads: no other has more of its cards, and every lower-numbered one has fewer.
use mathlib.Core.Path.{◌≡◌, refl}
use mathlib.Core.Bool.{Bool, true, false, cond}
use mathlib.Core.Logic.{⊎_elim}
use mathlib.Core.List.{List}
use Prim.Native.Nat.{ℕ, zero, suc, ◌+◌, ◌≤◌, ◌<◌}
use native.Mathlib.Nat.{eq-or-lt_of_le, le_of_suc-le-suc}
use native.Mathlib.Omega.{arith}
use borrow.Author.Tests.{ltb-true, ltb-false, lt-ltb}
use lib.Dec.{ltb}
use Rattle.leaning.specs.Report.{cards_on, counts_from, counts, argmax_from, argmax, most_used}
use Rattle.leaning.specs.Promise.{Leads}

-- the boat `best` leads the boats below i
record LeadsBelow (i : ℕ) (qs : List (List ℕ)) (best : ℕ) : Type 0 where
  inside : best < i
  most : (k : ℕ) → k < i → cards_on k qs ≤ cards_on best qs
  lowest : (k : ℕ) → k < best → cards_on k qs < cards_on best qs

-- a boat that is used more than all before it leads, else the one before still does
takes_over : {i best : ℕ} {qs : List (List ℕ)} → LeadsBelow i qs best → cards_on best qs < cards_on i qs → LeadsBelow (suc i) qs i
takes_over {i} {best} {qs} l h =
    record {
      inside = omega arith;
      most = λ k m. ⊎_elim (λ e. rw e (omega arith)) (λ e. omega (arith, l.most k e)) (eq-or-lt_of_le (le_of_suc-le-suc m));
      lowest = λ k m. omega (arith, l.most k m);
    }

stays : {i best : ℕ} {qs : List (List ℕ)} → LeadsBelow i qs best → cards_on i qs ≤ cards_on best qs → LeadsBelow (suc i) qs best
stays {i} {best} {qs} l h =
    record {
      inside = omega (arith, l.inside);
      most = λ k m. ⊎_elim (λ e. rw e h) (λ e. l.most k e) (eq-or-lt_of_le (le_of_suc-le-suc m));
      lowest = l.lowest;
    }

leads_from : (n i best : ℕ) (qs : List (List ℕ)) → LeadsBelow i qs best → LeadsBelow (i + n) qs (argmax_from i best (cards_on best qs) (counts_from i n qs))
unfolding counts_from argmax_from
leads_from zero i best qs l = let e : i + 0 ≡ i = omega arith in rw e l
leads_from (suc n) i best qs l =
    let e : i + suc n ≡ suc i + n = omega arith in
    rw e (by (ltb (cards_on best qs) (cards_on i qs)) refl (λ x m. leads_from n (suc i) x qs m))
  where
    by : (t : Bool) → ltb (cards_on best qs) (cards_on i qs) ≡ t →
        ((x : ℕ) → LeadsBelow (suc i) qs x → LeadsBelow (suc i + n) qs (argmax_from (suc i) x (cards_on x qs) (counts_from (suc i) n qs))) →
        LeadsBelow (suc i + n) qs (cond t (argmax_from (suc i) i (cards_on i qs) (counts_from (suc i) n qs)) (argmax_from (suc i) best (cards_on best qs) (counts_from (suc i) n qs)))
    by true t f = f i (takes_over l (ltb-true (cards_on best qs) (cards_on i qs) t))
    by false t f = f best (stays l (ltb-false (cards_on best qs) (cards_on i qs) t))

-- the first boat leads those below 1
first_leads : (qs : List (List ℕ)) → LeadsBelow 1 qs 0
first_leads qs = record { inside = omega arith; most = λ k h. only k h; lowest = λ k h. absurd (omega arith) }
  where
    only : (k : ℕ) → k < 1 → cards_on k qs ≤ cards_on 0 qs
    only zero h = omega arith
    only (suc k) h = absurd (omega arith)

-- no card or some: boat 0 is where the search for the greatest begins
from_first : (n : ℕ) (qs : List (List ℕ)) → argmax (counts (suc n) qs) ≡ argmax_from 1 0 (cards_on 0 qs) (counts_from 1 n qs)
unfolding argmax argmax_from counts_from
from_first n qs = by (cards_on 0 qs)
  where
    by : (x : ℕ) → cond (ltb 0 x) (argmax_from 1 0 x (counts_from 1 n qs)) (argmax_from 1 0 0 (counts_from 1 n qs)) ≡ argmax_from 1 0 x (counts_from 1 n qs)
    by zero = refl
    by (suc x) = rw (lt-ltb 0 (suc x) (omega arith))

pub leads : (n : ℕ) (qs : List (List ℕ)) → 1 ≤ n → Leads n qs (most_used n qs)
unfolding most_used
leads zero qs h = absurd (omega arith)
leads (suc n) qs h =
    let l = leads_from n 1 0 qs (first_leads qs) in
    let e : 1 + n ≡ suc n = omega arith in
    let g : LeadsBelow (suc n) qs (argmax (counts (suc n) qs)) = rw (from_first n qs) (rw e at l) in
    record { of_the_book = g.inside; most = g.most; lowest = g.lowest }
