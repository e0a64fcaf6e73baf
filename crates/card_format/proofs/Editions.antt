-- Sheets that differ in their edition alone have the same cards, and the same cards are refused for them.
use mathlib.Core.Path.{◌≡◌}
use mathlib.Core.List.{List}
use Prim.Native.Nat.{ℕ}
use Rattle.files.specs.Sheet.{sheet}
use Rattle.files.specs.Editions.{Editions, EditionsAlike}
use Rattle.files.proofs.Editions.{editions_alike}
use Rattle.method.specs.Problem.{Terms}
use Rattle.method.proofs.Promise.{same_call, same_search, same_problem}
use Rattle.card_format.specs.Format.{card_answer_with, run_card_with}
use Rattle.card_format.specs.Checks.{card_refusal_with, write_refusal_with, check_refusal_with}

module _ (m : Terms) (b s s' : List ℕ) (d : Editions s s') where
  same_sheet : sheet s' ≡ sheet s
  unfolding EditionsAlike
  same_sheet = rw (editions_alike s s' d).0

  pub same_run_card : run_card_with m b s' ≡ run_card_with m b s
  unfolding run_card_with
  same_run_card = rw (same_problem m b s s' d, same_sheet)

  pub same_writing : (room : ℕ) → write_refusal_with m b s' room ≡ write_refusal_with m b s room
  unfolding write_refusal_with
  same_writing room = rw (same_call m b s s' d, same_run_card)

  pub same_card_refusal : (w : List ℕ) → card_refusal_with m b s' w ≡ card_refusal_with m b s w
  unfolding card_refusal_with
  same_card_refusal w = rw (same_problem m b s s' d, same_sheet)

  pub same_check : (w : List ℕ) (slots : ℕ) → check_refusal_with m b s' w slots ≡ check_refusal_with m b s w slots
  unfolding check_refusal_with
  same_check w slots = rw (same_search m b s s' slots d, same_card_refusal w)

  pub same_card_answer : (w : List ℕ) → card_answer_with m b s' w ≡ card_answer_with m b s w
  unfolding card_answer_with
  same_card_answer w = rw (same_problem m b s s' d)
