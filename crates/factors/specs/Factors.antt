-- Whether every factor is 1. Definitions only.
use Rattle.std.specs.Prelude.{Bool, true, ◌&&◌, List, [], ◌∷◌, ℕ, eqb}

unfoldable pub all_ones : List ℕ → Bool
all_ones [] = true
all_ones (f ∷ fs) = eqb f 1 && all_ones fs
