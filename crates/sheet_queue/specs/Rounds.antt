-- Sheets that share one allowance of steps. `own` has for each sheet, in queue order, the steps that its run alone takes, and `used` those that
-- it has taken. Definitions only. Assumes nothing.
use Rattle.std.specs.Prelude.{◌&&◌, cond, List, [], ◌∷◌, ℕ, zero, suc, ◌+◌, ◌-◌, ltb, length, replicate}
use Rattle.frank_wolfe.specs.Vectors.{sum}

-- the steps that a sheet takes when its turn comes: one, if one is left and the sheet is not finished
unfoldable pub turn : (left own used : ℕ) → ℕ
turn left t k = cond (ltb 0 left && ltb k t) 1 0

-- one round: each sheet has its turn, in queue order, and what it takes is not left for the next
unfoldable pub round : (left : ℕ) → (own used : List ℕ) → List ℕ
round left [] ks = []
round left (t ∷ ts) [] = []
round left (t ∷ ts) (k ∷ ks) = (k + turn left t k) ∷ round (left - turn left t k) ts ks

-- after so many rounds from no steps; what was used of the allowance is not left
unfoldable pub after : (rounds allowance : ℕ) → (own : List ℕ) → List ℕ
after zero a ts = replicate (length ts) 0
after (suc r) a ts = round (a - sum (after r a ts)) ts (after r a ts)

-- the steps that each sheet gets: once all are finished or nothing is left a round changes nothing, and every round before takes a step, so
-- that as many rounds as steps are enough
unfoldable pub steps_got : (allowance : ℕ) → (own : List ℕ) → List ℕ
steps_got a ts = after a a ts
