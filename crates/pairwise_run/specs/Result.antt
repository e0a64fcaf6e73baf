-- What the code gives back of a run that is worked over. Definitions only.
use Rattle.std.specs.Prelude.{◌≡◌, List, ℕ, Ok, take}
use Rattle.std.specs.Prelude as std
use Rattle.refusals.specs.declared.Refusal.{Refusal}
use Rattle.refusals.specs.Numbers.{refusal_number}
use Rattle.files.specs.Book.{boats}
use Rattle.method.specs.Problem.{Terms, call_problem}
use Rattle.pairwise.specs.Moves.{moves_refusal, worked_answer}
use Rattle.pairwise.specs.Call.{worked_slots}
use Rattle.pairwise_run.specs.declared.WorkedRun.{WorkedRun}

-- n is the number of moves allowed
pub record Result (m : Terms) (b s : List ℕ) (n : ℕ) (r : std.Result WorkedRun Refusal) : Type 0 where
  -- 53 or 54, 0 where neither refuses it
  pub number : refusal_number r ≡ moves_refusal (call_problem m b s) n
  -- else E, G and the verdict are those of the shares of the result
  pub answer : (w : WorkedRun) → r ≡ Ok w → w.answer ≡ worked_answer (call_problem m b s) n
  -- which are in the slots of the book's boats
  pub slots : (w : WorkedRun) → r ≡ Ok w → take (boats b) w.shares ≡ worked_slots m b s n
