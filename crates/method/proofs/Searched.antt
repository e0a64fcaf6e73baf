-- What a `?` gives back in a search or a card check comes to the reason that it was given.
use mathlib.Core.Path.{◌≡◌, ap}
use Rattle.std.specs.Prelude.{Result, Ok, Err}
use Rattle.std.specs.Result.{IsErr, IsErrAnd}
use Rattle.refusals.specs.declared.Refusal.{Refusal}
use Rattle.refusals.specs.Numbers.{number}
use Rattle.method.specs.declared.Answer.{Answer}
use Rattle.method.specs.Searched.{Searched, Refused, searched}

pub passed_searched : (r : Result Answer Refusal) (e : Refusal) → IsErr r × IsErrAnd r (λ x. x ≡ e) → searched r ≡ Refused (number e)
passed_searched (Ok x) e h = elim h.1 [ ]
passed_searched (Err x) e h = ap (λ x. Refused (number x)) h.1
