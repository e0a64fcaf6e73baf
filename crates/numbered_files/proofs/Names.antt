-- A name put together from its parts. Assumes nothing.
use mathlib.Core.List.{List, []}
use Prim.Native.Nat.{ℕ, ◌+◌, ◌≤◌}
use native.Mathlib.Numerals.{add-one}
use Rattle.text.specs.Decimal.{decimal}
use Rattle.text.specs.declared.Text.{Text}
use Rattle.text.specs.Texts.{Holds, Adds}
use Rattle.text.proofs.Texts.{adds_both, adds_to_empty}
use Rattle.numbered_files.specs.Names.{numbered_name}

pub named : {t a b u : Text} {word ending : List ℕ} (k : ℕ) → Holds [] t → Adds t word a → Adds a (decimal (k + 1)) b × (b.len ≤ a.len + 20) → Adds b ending u → Holds (numbered_name word k ending) u
unfolding numbered_name
named k o p q r = adds_to_empty o (adds_both p (adds_both (rw add-one at q.0) r))
