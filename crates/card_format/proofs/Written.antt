-- What a `?` gives back in the card writer comes to the reason that it was given.
use mathlib.Core.Path.{◌≡◌, ap}
use Rattle.std.specs.Prelude.{Result, Ok, Err}
use Rattle.std.specs.Result.{IsErr, IsErrAnd}
use Rattle.refusals.specs.declared.Refusal.{Refusal}
use Rattle.refusals.specs.Numbers.{number}
use Rattle.card_format.specs.declared.FiledCard.{FiledCard}
use Rattle.card_format.specs.Written.{Refused, written}

pub passed_written : (r : Result FiledCard Refusal) (e : Refusal) → IsErr r × IsErrAnd r (λ x. x ≡ e) → written r ≡ Refused (number e)
passed_written (Ok x) e h = elim h.1 [ ]
passed_written (Err x) e h = ap (λ x. Refused (number x)) h.1
