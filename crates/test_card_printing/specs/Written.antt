-- What the card writer leaves in the first `room` bytes of a buffer, and the length that it gives back. Definitions only.
use Rattle.std.specs.Prelude.{cond, List, ◌++◌, ℕ, leb, length, take, drop}
use Rattle.method.specs.Problem.{problem}
use Rattle.method.specs.Answers.{run_answer, slots_after}
use Rattle.card_format.specs.Format.{run_card}
use Rattle.card_format.specs.Checks.{write_refusal}
use Rattle.card_format.specs.Filing.{written_size, filing}

-- a buffer with fewer bytes is not lent
abbrev pub written_length : (b s : List ℕ) → (room size : ℕ) → ℕ
written_length b s room size = cond (leb room size) (written_size (filing (write_refusal b s room) (run_answer (problem b s)) (length (run_card b s)))) 0

abbrev pub written_bytes : (b s : List ℕ) → (room : ℕ) → (buffer : List ℕ) → List ℕ
written_bytes b s room buffer = cond (leb room (length buffer)) (slots_after (write_refusal b s room) (run_card b s) (take room buffer) ++ drop room buffer) buffer
