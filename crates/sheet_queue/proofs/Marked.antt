-- Marked queues by the steps of their runs alone, by computation; 5,760 rounds by a law.
use mathlib.Core.Path.{◌≡◌, refl}
use mathlib.Core.List.{[], ◌∷◌, ◌++◌}
use native.Mathlib.Omega.{arith}
use lib.ListN.{replicate}
use Rattle.frank_wolfe.specs.Vectors.{sum}
use Rattle.sheet_queue.specs.Rounds.{turn, round, after, steps_got}
use Rattle.sheet_queue.proofs.Fair.{enough}

one_each : steps_got 3 (9 ∷ 3 ∷ 1 ∷ []) ≡ 1 ∷ 1 ∷ 1 ∷ []
unfolding turn round after steps_got sum
one_each = refl

two_rounds : steps_got 6 (9 ∷ 3 ∷ 1 ∷ []) ≡ 3 ∷ 2 ∷ 1 ∷ []
unfolding turn round after steps_got sum
two_rounds = refl

third_finished : steps_got 7 (9 ∷ 3 ∷ 1 ∷ []) ≡ 3 ∷ 3 ∷ 1 ∷ []
unfolding turn round after steps_got sum
third_finished = refl

all_finished : steps_got 5760 (9 ∷ 3 ∷ 1 ∷ []) ≡ 9 ∷ 3 ∷ 1 ∷ []
unfolding sum
all_finished = enough 5760 (9 ∷ 3 ∷ 1 ∷ []) (omega arith)

odd_one_first : steps_got 5 (9 ∷ 9 ∷ []) ≡ 3 ∷ 2 ∷ []
unfolding turn round after steps_got sum
odd_one_first = refl

last_cut_off : steps_got 14 (5 ∷ 5 ∷ 5 ∷ []) ≡ 5 ∷ 5 ∷ 4 ∷ []
unfolding turn round after steps_got sum
last_cut_off = refl

sixteen_cut_off : steps_got 47 (replicate 16 360) ≡ replicate 15 3 ++ 2 ∷ []
unfolding turn round after steps_got sum
sixteen_cut_off = refl
