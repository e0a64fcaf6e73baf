-- A scan of products that stand in memory for the least. Assumes nothing.
use mathlib.Core.Path.{◌≡◌, refl, sym, ◌∙◌}
use mathlib.Core.Bool.{true, false}
use mathlib.Core.List.{List}
use Prim.Native.Nat.{ℕ, ◌+◌, ◌≤◌, ◌<◌}
use lib.IntN.{ℤ, pos, nat_abs}
use lib.Signed.{lt_z}
use lib.ListN.{length, get_or, take}
use lib.Seq.{length-take-le, get_or-take}
use mir.Syntax.{w32, w64}
use mir.Val.{SFits, to_z, of_z}
use Rattle.integers.proofs.Bounds.{fits, read}
use Rattle.sums.specs.Operands.{Bounded}
use Rattle.scoring.specs.declared.Least.{Least}
use Rattle.scoring.specs.Scores.{least_of}
use Rattle.scoring.proofs.Scans.{Ahead, ahead_start, ahead_better, ahead_same, ahead_end}

-- the least of the first i of n products is known, and keeps to 32 bits
pub record Scanned (ps : List ℤ) (n best : ℕ) (low : ℤ) (i : ℕ) : Type 0 where
  pub ahead : Ahead (take n ps) best low i
  pub size : nat_abs low ≤ 512000000

module _ {ps : List ℤ} {n : ℕ} (b : Bounded 512000000 n ps) where
  count : length (take n ps) ≡ n
  count = length-take-le n ps b.long

  module _ {i : ℕ} (h : i < n) where
    -- a product as it is read
    abbrev there : ℤ
    there = to_z w32 (of_z w32 (get_or ps i (pos 0)))

    there_is : there ≡ get_or ps i (pos 0)
    there_is = read w32 512000000 (b.each i h) tt

    pub there_read : to_z w32 (of_z w32 (get_or ps i (pos 0))) ≡ get_or (take n ps) i (pos 0)
    there_read = there_is ∙ sym (get_or-take n ps i (pos 0) h)

    there_size : nat_abs there ≤ 512000000
    there_size = rw there_is (b.each i h)

  pub scanned_start : (some : 1 ≤ n) → Scanned ps n 0 (to_z w32 (of_z w32 (get_or ps 0 (pos 0)))) 1
  scanned_start some = record { ahead = ahead_start (rw count some) (there_read some); size = there_size some }

  module _ {best : ℕ} {low : ℤ} {i : ℕ} (d : Scanned ps n best low i) where
    module _ (h : i < n) where
      pub scanned_better : lt_z (to_z w32 (of_z w32 (get_or ps i (pos 0)))) low ≡ true → Scanned ps n i (to_z w32 (of_z w32 (get_or ps i (pos 0)))) (i + 1)
      scanned_better t = record { ahead = ahead_better d.ahead (rw count h) (there_read h) refl t; size = there_size h }

      pub scanned_same : lt_z (to_z w32 (of_z w32 (get_or ps i (pos 0)))) low ≡ false → Scanned ps n best low (i + 1)
      scanned_same t = record { ahead = ahead_same d.ahead (rw count h) (there_read h) t; size = d.size }

    pub least_fits : SFits w64 low
    least_fits = fits w64 512000000 d.size tt

    pub scanned_end : n ≤ i → {z : ℤ} → z ≡ low → ◌≡◌ {A = Least} (record { boat = best; score = z }) (least_of (take n ps))
    scanned_end h ez = ahead_end d.ahead (rw count h) ez
