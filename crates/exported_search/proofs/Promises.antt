-- What an entry promises of what it gave back, said of the outcome by which the contracts give it. Assumes nothing.
use mathlib.Core.Path.{◌≡◌, subst}
use mathlib.Core.List.{List}
use Prim.Native.Nat.{ℕ}
use Rattle.method.specs.Searched.{Searched}
use Rattle.method.specs.Problem.{Terms}
use Rattle.method.specs.Promise.{OutcomeRightWith}

pub searched_right : (m : Terms) (b s : List ℕ) {r o : Searched} {slots after : List ℕ} → r ≡ o → slots ≡ after → OutcomeRightWith m b s r slots → OutcomeRightWith m b s o slots
searched_right m b s {slots = q} e f h = subst (λ x. OutcomeRightWith m b s x q) e h
