-- Verdicts and answers of the method, the run of a problem, and what a search refuses and leaves. Definitions only. Assumes nothing.
use Rattle.std.specs.Prelude.{Bool, true, ◌&&◌, cond, List, ◌++◌, ℕ, zero, suc, ◌+◌, ◌*◌, ◌-◌, eqb, ltb, leb, length, drop, ℤ, pos, ◌-ℤ◌}
use Rattle.files.specs.Book.{boats}
use Rattle.method.specs.declared.Verdict.{Verdict}
use Rattle.method.specs.declared.Verdict.TheVariants.{Within, Beyond, Spent}
use Rattle.method.specs.declared.Test.{Test}
use Rattle.method.specs.declared.Test.TheVariants.{Former, Sharper}
use Rattle.method.specs.declared.Answer.{Answer}
use Rattle.method.specs.Searched.{Searched}
use Rattle.method.specs.Searched.{Refused, Answered}
use Rattle.method.specs.ReleasedBoats.{scatter}
use Rattle.method.specs.Problem.{Problem, Terms, plain_terms, weight, call_problem}
use Rattle.method.specs.Calls.{call_refusal}
use Rattle.method.specs.Iterates.{Iterate, start, direction, step, iterate, distance, gap}

-- ---- The enums by number

-- a verdict's number on a card, and what it carries: the floor E - 2 G, or the shortfall
unfoldable pub verdict_number : Verdict → ℕ
verdict_number Within = 1
verdict_number (Beyond floor) = 2
verdict_number (Spent shortfall) = 3

unfoldable pub verdict_carries : Verdict → ℤ
verdict_carries Within = pos 0
verdict_carries (Beyond floor) = floor
verdict_carries (Spent shortfall) = pos shortfall

-- the number that refuses, 0 for an answer
unfoldable pub refusal_number : Searched → ℕ
refusal_number (Refused n) = n
refusal_number (Answered a) = 0

-- a refusal where there is a number, else the answer
unfoldable pub outcome : (refusal : ℕ) → Answer → Searched
outcome zero a = Answered a
outcome (suc n) a = Refused (suc n)

-- ---- The verdict of a step

-- what says Beyond, with tolerance × w² as the limit. Former: E - 2 G is above the limit. Sharper: E is above G, and (E - G)² above the
-- limit times E
unfoldable pub is_beyond : Test → (limit e g : ℕ) → Bool
is_beyond Former limit e g = ltb (limit + 2 * g) e
is_beyond Sharper limit e g = ltb g e && ltb (limit * e) ((e - g) * (e - g))

-- in this order: Within where E is at most tolerance × w², Beyond where the test says so, with the floor E - 2 G, else Spent
unfoldable pub verdict : Test → (tolerance w e g : ℕ) → Verdict
verdict test tolerance w e g =
    let limit = tolerance * (w * w) in
    cond (leb e limit) Within (cond (is_beyond test limit e g) (Beyond (pos e -ℤ pos (2 * g))) (Spent (e - limit)))

-- whether a run of so many steps stops after step t with this verdict: Spent is for the last step
unfoldable pub stops : (steps t : ℕ) → Verdict → Bool
stops n t Within = true
stops n t (Beyond floor) = true
stops n t (Spent shortfall) = eqb t n

-- ---- The answer after t steps, and the run, which is judged by the sharper test

unfoldable pub answer_at : Test → Problem → (t : ℕ) → Iterate → Answer
answer_at test p t x =
    let w = weight p.schedule t in
    let e = distance p t x in
    let g = gap p t x in
    record { steps = t; weight = w; distance = e; gap = g; verdict = verdict test p.tolerance w e g }

-- the steps that a run takes from an iterate after t steps, with so many steps left: up to the first that stops it
unfoldable pub steps_from : (left t : ℕ) → Problem → Iterate → ℕ
steps_from zero t p x = t
steps_from (suc n) t p x =
    let y = step p t (direction p t x) x in
    cond (stops p.steps (suc t) (answer_at Sharper p (suc t) y).verdict) (suc t) (steps_from n (suc t) p y)

unfoldable pub steps_used : Problem → ℕ
steps_used p = steps_from p.steps 0 p (start p)

-- the iterate and the answer of a run
unfoldable pub run_iterate : Problem → Iterate
run_iterate p = iterate p (steps_used p)

unfoldable pub run_answer : Problem → Answer
run_answer p = answer_at Sharper p (steps_used p) (run_iterate p)

-- ---- The search

-- what refuses the call's terms and its files, then 21: a share list shorter than the number of boats
unfoldable pub search_refusal_with : Terms → (book sheet : List ℕ) → (slots : ℕ) → ℕ
search_refusal_with m b s slots = cond (eqb (call_refusal m b s) 0) (cond (ltb slots (boats b)) 21 0) (call_refusal m b s)

-- of files alone: 1 to 17 and 46, then 21
abbrev pub search_refusal : (book sheet : List ℕ) → (slots : ℕ) → ℕ
search_refusal b s slots = search_refusal_with plain_terms b s slots

-- the shares of a call's run in the slots of the book's boats: 0 for a boat that may not be used
abbrev pub run_slots : Terms → (book sheet : List ℕ) → List ℕ
run_slots m b s = scatter m.released (boats b) (run_iterate (call_problem m b s)).shares

-- a lent share list afterwards: as it was where refused; else the shares in its first slots, later ones as they were
unfoldable pub slots_after : (refusal : ℕ) → (shares slots : List ℕ) → List ℕ
slots_after zero qs slots = qs ++ drop (length qs) slots
slots_after (suc n) qs slots = slots
