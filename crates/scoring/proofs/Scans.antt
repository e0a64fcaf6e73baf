-- A scan of some numbers for the index of the least. Assumes nothing.
use mathlib.Core.Path.{◌≡◌, sym, ◌∙◌}
use mathlib.Core.Bool.{true, false, cond}
use mathlib.Core.List.{List, [], ◌∷◌}
use Prim.Native.Nat.{ℕ, ◌+◌, ◌≤◌, ◌<◌}
use native.Mathlib.Nat.{le_refl}
use native.Mathlib.Omega.{arith}
use native.Mathlib.Numerals.{add-one}
use lib.IntN.{ℤ, pos, negsuc}
use borrow.Author.Tests.{le-ltb}
use lib.Signed.{lt_z}
use lib.ListN.{length, get_or, drop}
use lib.Seq.{drop-cons, drop-length}
use Rattle.method.specs.Iterates.{argmin, argmin_from}
use Rattle.scoring.specs.declared.Least.{Least}
use Rattle.scoring.specs.Scores.{least_of}

-- the index `best` of the least of the first i of the numbers ps, and this least, decide the rest with those left
pub record Ahead (ps : List ℤ) (best : ℕ) (low : ℤ) (i : ℕ) : Type 0 where
  pub count : i ≤ length ps
  pub value : low ≡ get_or ps best (pos 0)
  pub least : argmin_from i best low (drop i ps) ≡ argmin ps

argmin_suc : (i best : ℕ) (least s : ℤ) (ps : List ℤ) →
    argmin_from i best least (s ∷ ps) ≡ cond (lt_z s least) (argmin_from (i + 1) i s ps) (argmin_from (i + 1) best least ps)
unfolding argmin_from
argmin_suc i best least s ps = rw add-one

pub ahead_start : {ps : List ℤ} {low : ℤ} → 1 ≤ length ps → low ≡ get_or ps 0 (pos 0) → Ahead ps 0 low 1
unfolding argmin
ahead_start {ps = []} h e = absurd (omega arith)
ahead_start {ps = p ∷ ps} h e = record { count = omega arith; value = e; least = rw e }

not_below_itself : (z : ℤ) → lt_z z z ≡ false
not_below_itself (pos n) = le-ltb n n (le_refl n)
not_below_itself (negsuc n) = le-ltb n n (le_refl n)

-- the scan may start with the first number compared with itself
pub ahead_first : {ps : List ℤ} {low : ℤ} → 1 ≤ length ps → low ≡ get_or ps 0 (pos 0) → Ahead ps 0 low 0
unfolding argmin argmin_from
ahead_first {ps = []} h e = absurd (omega arith)
ahead_first {ps = p ∷ ps} h e = record { count = omega arith; value = e; least = rw (e, not_below_itself p) }

module _ {ps : List ℤ} {best : ℕ} {low : ℤ} {i : ℕ} (d : Ahead ps best low i) where
  module _ (h : i < length ps) {s : ℤ} (es : s ≡ get_or ps i (pos 0)) where
    split : drop i ps ≡ s ∷ drop (i + 1) ps
    split = drop-cons ps i (pos 0) h ∙ rw (es, add-one)

    chosen : cond (lt_z s low) (argmin_from (i + 1) i s (drop (i + 1) ps)) (argmin_from (i + 1) best low (drop (i + 1) ps)) ≡ argmin ps
    chosen = sym (argmin_suc i best low s _) ∙ (rw split at d.least)

    pub ahead_better : {low' : ℤ} → low' ≡ s → lt_z s low ≡ true → Ahead ps i low' (i + 1)
    ahead_better e t = record { count = omega arith; value = e ∙ es; least = rw e (simp t at chosen) }

    pub ahead_same : lt_z s low ≡ false → Ahead ps best low (i + 1)
    ahead_same t = record { count = omega arith; value = d.value; least = simp t at chosen }

  pub ahead_end : length ps ≤ i → {z : ℤ} → z ≡ low → ◌≡◌ {A = Least} (record { boat = best; score = z }) (least_of ps)
  unfolding argmin_from least_of
  ahead_end h ez =
      let e : i ≡ length ps = omega (arith, d.count) in
      let f : best ≡ argmin ps = rw (e, drop-length) at d.least in
      rw (ez, d.value, f)
