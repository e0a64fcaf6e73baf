-- Problems whose runs are Spent, worked over: the shares of the run, and the shares and the answer then. Definitions only.
-- 12 moves are allowed where fewer than 12 are made: more allowed change nothing (Enough of specs/Worked.antt).
use Rattle.std.specs.Prelude.{◌≡◌, List, [], ◌∷◌, map, ℕ, ℤ, pos, negsuc}
use Rattle.method.specs.declared.Verdict.{Verdict}
use Rattle.method.specs.declared.Verdict.TheVariants.{Within, Beyond, Spent}
use Rattle.method.specs.declared.Answer.{Answer}
use Rattle.method.specs.Problem.{Problem, fixed}
use Rattle.method.specs.Answers.{run_iterate, run_answer}
use Rattle.pairwise.specs.Moves.{moves_made, spent_refusal, worked_shares, worked_answer}

abbrev pub given : (columns : ℕ) → (vertices : List (List ℤ)) → (target : List ℤ) → (factors : List ℕ) → (tolerance steps : ℕ) → Problem
given c vs u fs d n = record { columns = c; vertices = vs; target = u; factors = fs; schedule = fixed; tolerance = d; steps = n }

pub record Marked : Type 0 where
  pub problem : Problem
  -- the moves allowed
  pub allowed : ℕ
  -- the shares of the run, and its verdict
  pub run : List ℕ
  pub verdict : Verdict
  -- the moves made, the shares then, and their answer
  pub made : ℕ
  pub shares : List ℕ
  pub answer : Answer

unfoldable pub marked_moves : List Marked
marked_moves =
    -- sheet c: the exact amount is 1/2, and halves go down
    record {
      problem = given 2 ((pos 0 ∷ pos 0 ∷ []) ∷ (pos 4 ∷ pos 0 ∷ []) ∷ (pos 0 ∷ pos 4 ∷ []) ∷ []) (pos 1 ∷ pos 1 ∷ []) (1 ∷ 1 ∷ []) 1 2;
      allowed = 12;
      run = 0 ∷ 1 ∷ 2 ∷ [];
      verdict = Spent 17;
      made = 0;
      shares = 0 ∷ 1 ∷ 2 ∷ [];
      answer = record { steps = 2; weight = 3; distance = 26; gap = 44; verdict = Spent 17 };
    } ∷
    -- sheet i: 1/2 again
    record {
      problem = given 1 ((negsuc 1999 ∷ []) ∷ (pos 2000 ∷ []) ∷ []) (pos 0 ∷ []) (1 ∷ []) 0 2;
      allowed = 12;
      run = 2 ∷ 1 ∷ [];
      verdict = Spent 4000000;
      made = 0;
      shares = 2 ∷ 1 ∷ [];
      answer = record { steps = 2; weight = 3; distance = 4000000; gap = 16000000; verdict = Spent 4000000 };
    } ∷
    -- one boat holds shares
    record {
      problem = given 2 ((pos 0 ∷ pos 0 ∷ []) ∷ (pos 4 ∷ pos 0 ∷ []) ∷ (pos 0 ∷ pos 4 ∷ []) ∷ []) (pos 1 ∷ pos 1 ∷ []) (1 ∷ 1 ∷ []) 1 1;
      allowed = 12;
      run = 0 ∷ 1 ∷ 0 ∷ [];
      verdict = Spent 9;
      made = 0;
      shares = 0 ∷ 1 ∷ 0 ∷ [];
      answer = record { steps = 1; weight = 1; distance = 10; gap = 16; verdict = Spent 9 };
    } ∷
    -- exactly 2 shares
    record {
      problem = given 1 ((pos 6 ∷ []) ∷ (negsuc 3 ∷ []) ∷ []) (pos 4 ∷ []) (1 ∷ []) 0 5;
      allowed = 12;
      run = 10 ∷ 5 ∷ [];
      verdict = Spent 400;
      made = 1;
      shares = 12 ∷ 3 ∷ [];
      answer = record { steps = 5; weight = 15; distance = 0; gap = 0; verdict = Within };
    } ∷
    -- 3/2: 1, then 1/2: 0
    record {
      problem = given 1 ((pos 1 ∷ []) ∷ (negsuc 4 ∷ []) ∷ []) (negsuc 3 ∷ []) (1 ∷ []) 0 2;
      allowed = 12;
      run = 2 ∷ 1 ∷ [];
      verdict = Spent 81;
      made = 1;
      shares = 1 ∷ 2 ∷ [];
      answer = record { steps = 2; weight = 3; distance = 9; gap = 18; verdict = Spent 9 };
    } ∷
    -- 8/11: 1, and a boat leaves
    record {
      problem = given 1 ((pos 5 ∷ []) ∷ (negsuc 5 ∷ []) ∷ []) (pos 4 ∷ []) (1 ∷ []) 2 2;
      allowed = 12;
      run = 2 ∷ 1 ∷ [];
      verdict = Spent 46;
      made = 1;
      shares = 3 ∷ 0 ∷ [];
      answer = record { steps = 2; weight = 3; distance = 9; gap = 99; verdict = Within };
    } ∷
    -- 1, 2 and 3 moves allowed
    record {
      problem = given 2 ((negsuc 7 ∷ pos 3 ∷ []) ∷ (pos 4 ∷ negsuc 0 ∷ []) ∷ (pos 10 ∷ pos 9 ∷ []) ∷ []) (pos 5 ∷ negsuc 0 ∷ []) (1 ∷ 1 ∷ []) 2 6;
      allowed = 1;
      run = 2 ∷ 12 ∷ 7 ∷ [];
      verdict = Spent 5211;
      made = 1;
      shares = 2 ∷ 18 ∷ 1 ∷ [];
      answer = record { steps = 6; weight = 21; distance = 1845; gap = 2160; verdict = Spent 963 };
    } ∷
    record {
      problem = given 2 ((negsuc 7 ∷ pos 3 ∷ []) ∷ (pos 4 ∷ negsuc 0 ∷ []) ∷ (pos 10 ∷ pos 9 ∷ []) ∷ []) (pos 5 ∷ negsuc 0 ∷ []) (1 ∷ 1 ∷ []) 2 6;
      allowed = 2;
      run = 2 ∷ 12 ∷ 7 ∷ [];
      verdict = Spent 5211;
      made = 2;
      shares = 0 ∷ 18 ∷ 3 ∷ [];
      answer = record { steps = 6; weight = 21; distance = 909; gap = 846; verdict = Spent 27 };
    } ∷
    record {
      problem = given 2 ((negsuc 7 ∷ pos 3 ∷ []) ∷ (pos 4 ∷ negsuc 0 ∷ []) ∷ (pos 10 ∷ pos 9 ∷ []) ∷ []) (pos 5 ∷ negsuc 0 ∷ []) (1 ∷ 1 ∷ []) 2 6;
      allowed = 12;
      run = 2 ∷ 12 ∷ 7 ∷ [];
      verdict = Spent 5211;
      made = 3;
      shares = 0 ∷ 20 ∷ 1 ∷ [];
      answer = record { steps = 6; weight = 21; distance = 325; gap = 10; verdict = Within };
    } ∷
    -- 33/17, of which 1 is held: E 265 is Within already, and it does not stop there
    record {
      problem = given 2 ((pos 6 ∷ pos 6 ∷ []) ∷ (pos 0 ∷ pos 4 ∷ []) ∷ (negsuc 1 ∷ negsuc 3 ∷ []) ∷ []) (pos 0 ∷ pos 5 ∷ []) (1 ∷ 1 ∷ []) 2 5;
      allowed = 12;
      run = 2 ∷ 12 ∷ 1 ∷ [];
      verdict = Spent 11;
      made = 2;
      shares = 1 ∷ 14 ∷ 0 ∷ [];
      answer = record { steps = 5; weight = 15; distance = 205; gap = 10; verdict = Within };
    } ∷
    -- Beyond
    record {
      problem = given 2 ((pos 1 ∷ negsuc 1 ∷ []) ∷ (pos 3 ∷ pos 0 ∷ []) ∷ []) (pos 3 ∷ negsuc 0 ∷ []) (1 ∷ 1 ∷ []) 0 2;
      allowed = 12;
      run = 2 ∷ 1 ∷ [];
      verdict = Spent 17;
      made = 1;
      shares = 1 ∷ 2 ∷ [];
      answer = record { steps = 2; weight = 3; distance = 5; gap = 2; verdict = Beyond (pos 1) };
    } ∷
    -- equal scores
    record {
      problem = given 2 ((negsuc 2 ∷ negsuc 0 ∷ []) ∷ (pos 3 ∷ negsuc 0 ∷ []) ∷ (negsuc 0 ∷ pos 1 ∷ []) ∷ []) (negsuc 0 ∷ pos 1 ∷ []) (1 ∷ 1 ∷ []) 0 2;
      allowed = 12;
      run = 2 ∷ 1 ∷ 0 ∷ [];
      verdict = Spent 36;
      made = 0;
      shares = 2 ∷ 1 ∷ 0 ∷ [];
      answer = record { steps = 2; weight = 3; distance = 36; gap = 36; verdict = Spent 36 };
    } ∷
    -- the lowest number of two of greatest score
    record {
      problem = given 2 ((negsuc 0 ∷ pos 0 ∷ []) ∷ (pos 0 ∷ pos 0 ∷ []) ∷ (pos 1 ∷ pos 1 ∷ []) ∷ []) (pos 0 ∷ pos 0 ∷ []) (1 ∷ 1 ∷ []) 0 5;
      allowed = 1;
      run = 6 ∷ 5 ∷ 4 ∷ [];
      verdict = Spent 20;
      made = 1;
      shares = 4 ∷ 7 ∷ 4 ∷ [];
      answer = record { steps = 5; weight = 15; distance = 16; gap = 16; verdict = Spent 16 };
    } ∷
    record {
      problem = given 2 ((negsuc 0 ∷ pos 0 ∷ []) ∷ (pos 0 ∷ pos 0 ∷ []) ∷ (pos 1 ∷ pos 1 ∷ []) ∷ []) (pos 0 ∷ pos 0 ∷ []) (1 ∷ 1 ∷ []) 0 5;
      allowed = 12;
      run = 6 ∷ 5 ∷ 4 ∷ [];
      verdict = Spent 20;
      made = 5;
      shares = 2 ∷ 11 ∷ 2 ∷ [];
      answer = record { steps = 5; weight = 15; distance = 4; gap = 4; verdict = Spent 4 };
    } ∷
    -- the lowest number of two of least score
    record {
      problem = given 2 ((pos 0 ∷ pos 2 ∷ []) ∷ (pos 2 ∷ negsuc 0 ∷ []) ∷ (pos 0 ∷ pos 0 ∷ []) ∷ []) (pos 0 ∷ pos 1 ∷ []) (1 ∷ 1 ∷ []) 0 5;
      allowed = 1;
      run = 10 ∷ 1 ∷ 4 ∷ [];
      verdict = Spent 20;
      made = 1;
      shares = 9 ∷ 2 ∷ 4 ∷ [];
      answer = record { steps = 5; weight = 15; distance = 17; gap = 32; verdict = Spent 17 };
    } ∷
    -- the boat of greatest score holds nothing
    record {
      problem = given 2 ((pos 0 ∷ pos 1 ∷ []) ∷ (pos 1 ∷ negsuc 0 ∷ []) ∷ (negsuc 0 ∷ pos 0 ∷ []) ∷ []) (pos 1 ∷ pos 0 ∷ []) (1 ∷ 1 ∷ []) 0 2;
      allowed = 12;
      run = 2 ∷ 1 ∷ 0 ∷ [];
      verdict = Spent 5;
      made = 1;
      shares = 1 ∷ 2 ∷ 0 ∷ [];
      answer = record { steps = 2; weight = 3; distance = 2; gap = 2; verdict = Spent 2 };
    } ∷
    -- with factors
    record {
      problem = given 2 ((negsuc 0 ∷ pos 4 ∷ []) ∷ (pos 3 ∷ pos 1 ∷ []) ∷ (pos 4 ∷ negsuc 2 ∷ []) ∷ []) (pos 3 ∷ pos 2 ∷ []) (2 ∷ 5 ∷ []) 2 4;
      allowed = 12;
      run = 6 ∷ 3 ∷ 1 ∷ [];
      verdict = Spent 938;
      made = 6;
      shares = 2 ∷ 8 ∷ 0 ∷ [];
      answer = record { steps = 4; weight = 10; distance = 208; gap = 8; verdict = Spent 8 };
    } ∷
    -- a column that does not count
    record {
      problem = given 2 ((pos 0 ∷ pos 4 ∷ []) ∷ (pos 4 ∷ negsuc 1 ∷ []) ∷ (pos 2 ∷ negsuc 2 ∷ []) ∷ []) (negsuc 2 ∷ pos 0 ∷ []) (0 ∷ 2 ∷ []) 0 2;
      allowed = 12;
      run = 2 ∷ 0 ∷ 1 ∷ [];
      verdict = Spent 50;
      made = 1;
      shares = 1 ∷ 0 ∷ 2 ∷ [];
      answer = record { steps = 2; weight = 3; distance = 8; gap = 56; verdict = Spent 8 };
    } ∷ []

-- an entry with what is computed of its problem
unfoldable pub worked_out : Marked → Marked
worked_out m =
    record {
      problem = m.problem;
      allowed = m.allowed;
      run = (run_iterate m.problem).shares;
      verdict = (run_answer m.problem).verdict;
      made = moves_made m.allowed m.problem (run_iterate m.problem).shares;
      shares = worked_shares m.problem m.allowed;
      answer = worked_answer m.problem m.allowed;
    }

unfoldable pub AllMarked : Type 0
AllMarked = map worked_out marked_moves ≡ marked_moves

-- ---- What refuses the moves

pub record MarkedRefusal : Type 0 where
  -- the number of the run's verdict, the moves allowed, and the number that refuses them
  pub verdict : ℕ
  pub allowed : ℕ
  pub number : ℕ

unfoldable pub marked_refusals : List MarkedRefusal
marked_refusals =
    record { verdict = 1; allowed = 0; number = 53 } ∷
    record { verdict = 2; allowed = 1000; number = 53 } ∷
    record { verdict = 3; allowed = 0; number = 54 } ∷
    record { verdict = 3; allowed = 1; number = 0 } ∷
    record { verdict = 3; allowed = 1000; number = 0 } ∷
    record { verdict = 3; allowed = 1001; number = 54 } ∷ []

unfoldable pub refused_by : MarkedRefusal → MarkedRefusal
refused_by m = record { verdict = m.verdict; allowed = m.allowed; number = spent_refusal m.verdict m.allowed }

unfoldable pub AllRefused : Type 0
AllRefused = map refused_by marked_refusals ≡ marked_refusals
