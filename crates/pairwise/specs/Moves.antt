-- Working over the shares of a problem: some of one boat's shares go to another, both of those that hold some, and the total stays.
-- Definitions only. Assumes nothing.
use Rattle.std.specs.Prelude.{Bool, ◌&&◌, ◌||◌, not, cond, List, ℕ, zero, suc, ◌+◌, ◌*◌, ◌-◌, ◌/◌, min, eqb, ltb, ℤ, pos, ◌-ℤ◌, length, get_or, set}
use Rattle.std.specs.Int.Signed.{lt_z}
use Rattle.files.specs.Bytes.{between}
use Rattle.frank_wolfe.specs.Vectors.{subtract, scale, weighted_norm, sum, combination}
use Rattle.method.specs.declared.Test.TheVariants.{Sharper}
use Rattle.method.specs.declared.Answer.{Answer}
use Rattle.method.specs.Problem.{Problem}
use Rattle.method.specs.Iterates.{row, scores, natural}
use Rattle.method.specs.Answers.{verdict_number, run_iterate, run_answer}
use Rattle.method.specs.Bounds.{answer_of}

-- r = y - N u of shares of total N
unfoldable pub shares_residual : Problem → (shares : List ℕ) → List ℤ
shares_residual p qs = subtract (combination p.columns qs p.vertices) (scale (sum qs) p.target)

-- the score of each boat
unfoldable pub shares_scores : Problem → (shares : List ℕ) → List ℤ
shares_scores p qs = scores p.factors (shares_residual p qs) p.vertices

-- ---- The two boats

-- boat i where it holds shares, and boat k holds none or has a score that boat i's comes before; else boat k
unfoldable pub better : (before : ℤ → ℤ → Bool) → (shares : List ℕ) → (scores : List ℤ) → (i k : ℕ) → ℕ
better before qs ps i k = cond (ltb 0 (get_or qs i 0) && (eqb (get_or qs k 0) 0 || before (get_or ps i (pos 0)) (get_or ps k (pos 0)))) i k

-- of the first n boats that hold shares the one whose score comes first, the lowest number among equals; boat 0 where none holds any
unfoldable pub foremost : (before : ℤ → ℤ → Bool) → (n : ℕ) → (shares : List ℕ) → (scores : List ℤ) → ℕ
foremost before zero qs ps = 0
foremost before (suc n) qs ps = better before qs ps n (foremost before n qs ps)

abbrev pub greater : ℤ → ℤ → Bool
greater a b = lt_z b a

abbrev pub less : ℤ → ℤ → Bool
less a b = lt_z a b

-- the boat that gives: of those that hold shares the one of greatest score
unfoldable pub giver : Problem → (shares : List ℕ) → ℕ
giver p qs = foremost greater (length qs) qs (shares_scores p qs)

-- the boat that takes: of those that hold shares the one of least score
unfoldable pub taker : Problem → (shares : List ℕ) → ℕ
taker p qs = foremost less (length qs) qs (shares_scores p qs)

-- ---- How many shares move

-- <r, v - s> of the giver's row v and the taker's row s: the difference of their scores
unfoldable pub slope : Problem → (shares : List ℕ) → ℕ
slope p qs = natural (get_or (shares_scores p qs) (giver p qs) (pos 0) -ℤ get_or (shares_scores p qs) (taker p qs) (pos 0))

-- |v - s|²
unfoldable pub apart : Problem → (shares : List ℕ) → ℕ
apart p qs = weighted_norm p.factors (subtract (row p.vertices (giver p qs)) (row p.vertices (taker p qs)))

-- the whole number nearest to n / d, halves down
unfoldable pub nearest_down : (n d : ℕ) → ℕ
nearest_down n d = (2 * n + d - 1) / (2 * d)

-- 0 where the scores are equal; else the whole number nearest to slope / apart, halves down, at most what is held
unfoldable pub amount_of : (slope apart held : ℕ) → ℕ
amount_of slope apart held = cond (eqb slope 0) 0 (min held (nearest_down slope apart))

-- of <r, v - s> / |v - s|², at most what the giver holds
unfoldable pub amount : Problem → (shares : List ℕ) → ℕ
amount p qs = amount_of (slope p qs) (apart p qs) (get_or qs (giver p qs) 0)

-- ---- The moves

-- m shares go from boat v to boat s
unfoldable pub exchange : (v s m : ℕ) → (shares : List ℕ) → List ℕ
exchange v s m qs = let ps = set qs v (get_or qs v 0 - m) in set ps s (get_or ps s 0 + m)

unfoldable pub moved : Problem → (shares : List ℕ) → List ℕ
moved p qs = exchange (giver p qs) (taker p qs) (amount p qs) qs

-- the shares after at most so many moves, up to the first whose amount is 0
unfoldable pub moves : (allowed : ℕ) → Problem → (shares : List ℕ) → List ℕ
moves zero p qs = qs
moves (suc n) p qs = cond (eqb (amount p qs) 0) qs (moves n p (moved p qs))

-- how many are made
unfoldable pub moves_made : (allowed : ℕ) → Problem → (shares : List ℕ) → ℕ
moves_made zero p qs = 0
moves_made (suc n) p qs = cond (eqb (amount p qs) 0) 0 (suc (moves_made n p (moved p qs)))

-- ---- A run worked over

unfoldable pub worked_shares : Problem → (allowed : ℕ) → List ℕ
worked_shares p n = moves n p (run_iterate p).shares

-- what refuses it, by the number of the run's verdict and the moves allowed. 53: a search that does not end Spent; 54: moves outside 1 to 1,000
unfoldable pub spent_refusal : (verdict n : ℕ) → ℕ
spent_refusal v n = cond (not (eqb v 3)) 53 (cond (not (between 1 1000 n)) 54 0)

abbrev pub moves_refusal : Problem → (n : ℕ) → ℕ
moves_refusal p n = spent_refusal (verdict_number (run_answer p).verdict) n

-- E, G and the verdict are taken anew, at the run's steps
unfoldable pub worked_answer : Problem → (allowed : ℕ) → Answer
worked_answer p n = answer_of Sharper p (worked_shares p n) (run_answer p).steps
