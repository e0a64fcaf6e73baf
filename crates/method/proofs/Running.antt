-- The run, step by step: after t steps that did not stop it, the steps that are left decide as all do; it stops at the first that stops.
use mathlib.Core.Path.{◌≡◌, refl, ap, ◌∙◌}
use mathlib.Core.Bool.{Bool, true, false, cond}
use Prim.Native.Nat.{ℕ, zero, suc, ◌+◌, ◌-◌, ◌≤◌, ◌<◌}
use native.Mathlib.Omega.{arith}
use borrow.Author.Tests.{eq-eqb, ltb-true, ltb-false}
use lib.Dec.{ltb}
use Rattle.method.specs.declared.Verdict.{Verdict}
use Rattle.method.specs.declared.Verdict.TheVariants.{Within, Beyond, Spent}
use Rattle.method.specs.declared.Test.TheVariants.{Sharper}
use Rattle.method.specs.Problem.{Problem}
use Rattle.method.specs.Iterates.{Iterate, start, direction, step, iterate}
use Rattle.method.specs.Answers.{stops, answer_at, steps_from, steps_used, run_iterate, run_answer}

-- ---- For a loop

-- x is the iterate after t steps, none of which stopped the run
pub record Running (p : Problem) (t : ℕ) (x : Iterate) : Type 0 where
  pub within : t ≤ p.steps
  pub iterated : x ≡ iterate p t
  pub decides : steps_from (p.steps - t) t p x ≡ steps_used p

-- x is the iterate with which the run stopped, after t steps
pub record Finished (p : Problem) (t : ℕ) (x : Iterate) : Type 0 where
  pub steps : t ≡ steps_used p
  pub iterated : x ≡ iterate p (steps_used p)
  pub answer : answer_at Sharper p t x ≡ answer_at Sharper p (steps_used p) (iterate p (steps_used p))

pub running_start : (p : Problem) → Running p 0 (start p)
unfolding iterate steps_used
running_start p = let e : p.steps - 0 ≡ p.steps = omega arith in record { within = omega arith; iterated = refl; decides = rw e }

-- the iterate one step on
abbrev pub next : Problem → (t : ℕ) → Iterate → Iterate
next p t x = step p t (direction p t x) x

module _ {p : Problem} {t : ℕ} {x : Iterate} (d : Running p t x) (h : t < p.steps) where
  opened : cond (stops p.steps (suc t) (answer_at Sharper p (suc t) (next p t x)).verdict) (suc t) (steps_from (p.steps - suc t) (suc t) p (next p t x)) ≡ steps_used p
  unfolding steps_from
  opened = let e : p.steps - t ≡ suc (p.steps - suc t) = omega arith in rw e at d.decides

  stepped : next p t x ≡ iterate p (suc t)
  unfolding iterate
  stepped = ap (next p t) d.iterated

  pub running_more : stops p.steps (suc t) (answer_at Sharper p (suc t) (next p t x)).verdict ≡ false → Running p (suc t) (next p t x)
  running_more e = record { within = h; iterated = stepped; decides = rw e at opened }

  pub running_done : stops p.steps (suc t) (answer_at Sharper p (suc t) (next p t x)).verdict ≡ true → Finished p (suc t) (next p t x)
  running_done e =
      let n : suc t ≡ steps_used p = rw e at opened in
      record {
        steps = n;
        iterated = stepped ∙ ap (iterate p) n;
        answer = ap (answer_at Sharper p (suc t)) stepped ∙ ap (λ k. answer_at Sharper p k (iterate p k)) n;
      }

pub finished_answer : {p : Problem} {t : ℕ} {x : Iterate} → Finished p t x → answer_at Sharper p t x ≡ run_answer p
unfolding run_answer run_iterate
finished_answer f = f.answer

pub finished_iterate : {p : Problem} {t : ℕ} {x : Iterate} → Finished p t x → x ≡ run_iterate p
unfolding run_iterate
finished_iterate f = f.iterated

-- the last step stops the run, whatever its verdict
pub stops_last : (n : ℕ) (v : Verdict) → stops n n v ≡ true
unfolding stops
stops_last n Within = refl
stops_last n (Beyond floor) = refl
stops_last n (Spent shortfall) = eq-eqb n n refl

-- ---- Of the whole run

module _ (p : Problem) where
  unfoldable pub stops_at : ℕ → Bool
  stops_at t = stops p.steps t (answer_at Sharper p t (iterate p t)).verdict

  -- of a run that has n steps left after step t, and stops after step k
  pub record Stopped (t n k : ℕ) : Type 0 where
    pub later : t < k
    pub most : k ≤ t + n
    pub first : (j : ℕ) → t < j → j < k → stops_at j ≡ false
    pub here : stops_at k ≡ true

  stopped_from : (n t : ℕ) → t + suc n ≡ p.steps → Stopped t (suc n) (steps_from (suc n) t p (iterate p t))
  unfolding steps_from iterate stops_at
  stopped_from zero t e = by (stops_at (suc t)) refl
    where
      by : (q : Bool) → stops_at (suc t) ≡ q → Stopped t 1 (cond q (suc t) (suc t))
      by true r = record { later = omega arith; most = omega arith; first = λ j h k. absurd (omega arith); here = r }
      by false r = record { later = omega arith; most = omega arith; first = λ j h k. absurd (omega arith); here = last }
        where
          last : stops_at (suc t) ≡ true
          last = let q : p.steps ≡ suc t = omega arith in rw q (stops_last (suc t) _)
  stopped_from (suc n) t e = by (stops_at (suc t)) refl (stopped_from n (suc t) (omega arith))
    where
      by : (q : Bool) → stops_at (suc t) ≡ q → {k : ℕ} → Stopped (suc t) (suc n) k → Stopped t (suc (suc n)) (cond q (suc t) k)
      by true r d = record { later = omega arith; most = omega arith; first = λ j h k. absurd (omega arith); here = r }
      by false r {k} d =
          record {
            later = omega (arith, d.later);
            most = omega (arith, d.most);
            first = λ j h1 h2. split j h1 h2 (ltb (suc t) j) refl;
            here = d.here;
          }
        where
          split : (j : ℕ) → t < j → j < k → (q : Bool) → ltb (suc t) j ≡ q → stops_at j ≡ false
          split j h1 h2 true e₁ = d.first j (ltb-true (suc t) j e₁) h2
          split j h1 h2 false e₁ = let q : j ≡ suc t = omega (arith, ltb-false (suc t) j e₁) in rw q r

  pub stopped : 1 ≤ p.steps → Stopped 0 p.steps (steps_used p)
  unfolding steps_used iterate
  stopped h = by p.steps refl
    where
      by : (n : ℕ) → n ≡ p.steps → Stopped 0 n (steps_from n 0 p (start p))
      by zero e = absurd (omega arith)
      by (suc n) e = stopped_from n 0 (omega arith)
