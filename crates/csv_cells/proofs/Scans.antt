-- What one pass over a CSV keeps: its place, the line of a row and the row's width.
use mathlib.Core.Path.{◌≡◌}
use mathlib.Core.List.{List}
use Prim.Native.Nat.{ℕ, ◌+◌, ◌≤◌, ◌<◌}
use lib.ListN.{length, get_or}
use Rattle.csv_bytes.specs.declared.Mode.{Mode}
use Rattle.csv_bytes.specs.declared.Mode.TheVariants.{Start}
use Rattle.csv_bytes.specs.Tokens.{NumberedStep, step, ending, separator, mark_size}
use Rattle.csv_cells.specs.Cells.{Place, start, moved, last_place, line_at, line_of, width_at, width}
use Rattle.csv_cells.proofs.Places.{Placing, placing_start, placing_more, placing_end, Lining, lining_start, lining_more, lining_end}
use Rattle.csv_cells.proofs.Widths.{Widening, widening_start, widening_more, widening_end}

pub record Scanning (r : ℕ) (csv : List ℕ) (sep : ℕ) (p : Place) (m : Mode) (l n i : ℕ) : Type 0 where
  pub placing : Placing csv sep p m i
  pub lining : Lining r csv sep p m l i
  pub widening : Widening r csv sep p m n i

pub scanning_start : {r : ℕ} {csv : List ℕ} {sep i : ℕ} {p : Place} → sep ≡ separator csv → p ≡ start → i ≡ mark_size csv → Scanning r csv sep p Start 0 0 i
scanning_start es ep ei = record { placing = placing_start es ep ei; lining = lining_start es ep ei; widening = widening_start es ep ei }

module _ {r : ℕ} {csv : List ℕ} {sep : ℕ} {p : Place} {m : Mode} {l n i : ℕ} (d : Scanning r csv sep p m l n i) where
  pub scanning_more : i < length csv → {s : NumberedStep} → s ≡ step sep m (get_or csv i 0) → {q : Place} → q ≡ moved p s.token → {k : ℕ} → k ≡ line_at r l p →
      {w : ℕ} → w ≡ width_at r n p s.token → Scanning r csv sep q s.mode k w (i + 1)
  scanning_more h es eq ek ew =
      record { placing = placing_more d.placing h es eq; lining = lining_more d.lining h es ek eq; widening = widening_more d.widening h es eq ew }

  pub scanning_end : length csv ≤ i → {t : ℕ} → t ≡ ending m → {q : Place} → q ≡ moved p t → {k : ℕ} → k ≡ line_at r l p →
      (q ≡ last_place csv) × ((k ≡ line_of r csv) × ((n ≡ width r csv) × (n ≤ 65)))
  scanning_end h et eq ek = (placing_end d.placing h et eq, (lining_end d.lining h ek, widening_end d.widening h))
