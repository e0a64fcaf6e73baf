-- Laws of paths: three parts joined within the bound, and a file in a folder. Assumes nothing.
use mathlib.Core.Path.{◌≡◌}
use mathlib.Core.Bool.{true, false}
use mathlib.Core.List.{List, [], ◌∷◌, ◌++◌}
use Prim.Native.Nat.{ℕ, ◌+◌, ◌≤◌, ◌<◌}
use native.Mathlib.Omega.{arith}
use borrow.Author.Tests.{le-leb, lt-leb}
use lib.Dec.{leb}
use lib.ListN.{length, length-append}
use Rattle.text.specs.declared.Text.{Text}
use Rattle.text.specs.Texts.{Holds, Adds}
use Rattle.text.proofs.Texts.{adds_both, adds_to_empty}
use Rattle.paths.specs.Paths.{bounded, path_in}

module _ (a b c : List ℕ) where
  pub too_long : {t : Text} → 4095 < length a + (length b + length c) → Holds [] t → Holds (bounded (a ++ (b ++ c))) t
  unfolding bounded
  too_long h p =
      let e : leb (length (a ++ (b ++ c))) 4095 ≡ false = lt-leb (length (a ++ (b ++ c))) 4095 (simp length-append (omega arith)) in
      rw e p

  pub joined_whole : {t u v w : Text} → length a + (length b + length c) ≤ 4095 → Holds [] t → Adds t a u → Adds u b v → Adds v c w → Holds (bounded (a ++ (b ++ c))) w
  unfolding bounded
  joined_whole h p q r s =
      let e : leb (length (a ++ (b ++ c))) 4095 ≡ true = le-leb (length (a ++ (b ++ c))) 4095 (simp length-append (omega arith)) in
      rw e (adds_to_empty p (adds_both q (adds_both r s)))

pub in_current : {t : Text} (folder name : List ℕ) → length folder ≡ 0 → Holds (bounded (folder ++ name)) t → Holds (path_in folder name) t
unfolding path_in
in_current [] name e h = h
in_current (x ∷ folder) name e h = absurd (omega arith)

pub in_folder : {t : Text} (folder name : List ℕ) → 0 < length folder → Holds (bounded (folder ++ (47 ∷ name))) t → Holds (path_in folder name) t
unfolding path_in
in_folder [] name e h = absurd (omega arith)
in_folder (x ∷ folder) name e h = h
