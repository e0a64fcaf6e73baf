-- The reason that refuses a conversion is that of its sheet for an output of 40,000 bytes. Assumes nothing.
use mathlib.Core.Path.{◌≡◌, ap, ◌∙◌}
use mathlib.Core.List.{List}
use Prim.Native.Nat.{ℕ}
use lib.ListN.{length}
use Rattle.std.specs.Prelude.{Result, Err}
use Rattle.refusals.specs.declared.Refusal.{Refusal}
use Rattle.refusals.specs.Numbers.{number}
use Rattle.editions.specs.declared.Edition.{Edition}
use Rattle.editions.specs.Rewritten.{rewritten}
use Rattle.editions.specs.Rewriting.{edition_refusal, rewriting_number}
use Rattle.editions.specs.Promise.{EditionRight}

pub number_known : {s out : List ℕ} {r : Result Edition Refusal} {e : Refusal} → r ≡ Err e → EditionRight s (rewritten r) out → length out ≡ 40000 → number e ≡ edition_refusal s 40000
unfolding rewriting_number
number_known {s} q d l = (rw q at d.number) ∙ ap (edition_refusal s) l
