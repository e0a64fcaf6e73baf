-- The place of each token, one after the other: what is left of the text decides as the whole does.
use mathlib.Core.Path.{◌≡◌, refl}
use mathlib.Core.List.{List}
use Prim.Native.Nat.{ℕ, ◌+◌, ◌≤◌, ◌<◌}
use native.Mathlib.Omega.{arith}
use lib.ListN.{length, get_or, drop}
use Rattle.csv_bytes.specs.declared.Mode.{Mode}
use Rattle.csv_bytes.specs.declared.Mode.TheVariants.{Start}
use Rattle.csv_bytes.specs.Tokens.{NumberedStep, step, ending, tokens, separator, mark_size, csv_tokens}
use Rattle.csv_fleet_reader.proofs.Reading.{mark_inside, next_tokens, last_token}
use Rattle.csv_cells.specs.Cells.{Place, start, moved, place_from, last_place, line_at, line_from, line_of}
use Rattle.csv_cells.proofs.Steps.{moved_near}

-- after i bytes a place is not far
pub record Within (csv : List ℕ) (p : Place) (i : ℕ) : Type 0 where
  pub inside : i ≤ length csv
  pub few_lines : p.line ≤ i + 1
  pub few_rows : p.row ≤ i

pub within_start : (csv : List ℕ) → Within csv start (mark_size csv)
within_start csv = record { inside = mark_inside csv; few_lines = omega arith; few_rows = omega arith }

pub within_more : {csv : List ℕ} {p : Place} {i : ℕ} → Within csv p i → i < length csv → (k : ℕ) → Within csv (moved p k) (i + 1)
within_more {p = p} w h k =
    let n = moved_near p k in
    record { inside = omega arith; few_lines = omega (arith, w.few_lines); few_rows = omega (arith, w.few_rows) }

pub within_fits : {csv : List ℕ} {p : Place} {i : ℕ} → Within csv p i → length csv ≤ 200000 → (p.line < 4294967296) × (p.row < 4294967296)
within_fits w h = (omega (arith, w.few_lines, w.inside), omega (arith, w.few_rows, w.inside))

-- ---- the last place
pub record Placing (csv : List ℕ) (sep : ℕ) (p : Place) (m : Mode) (i : ℕ) : Type 0 where
  pub near : Within csv p i
  pub later : place_from p (tokens sep m (drop i csv)) ≡ last_place csv

pub placing_start : {csv : List ℕ} {sep i : ℕ} {p : Place} → sep ≡ separator csv → p ≡ start → i ≡ mark_size csv → Placing csv sep p Start i
unfolding last_place csv_tokens
placing_start {csv} es ep ei = rw (es, ep, ei) (record { near = within_start csv; later = refl })

module _ {csv : List ℕ} {sep : ℕ} {p : Place} {m : Mode} {i : ℕ} (d : Placing csv sep p m i) where
  pub placing_more : i < length csv → {s : NumberedStep} → s ≡ step sep m (get_or csv i 0) → {q : Place} → q ≡ moved p s.token → Placing csv sep q s.mode (i + 1)
  unfolding place_from
  placing_more h {s} es eq = rw eq (record { near = within_more d.near h s.token; later = rw (next_tokens sep m csv i h es) at d.later })

  pub placing_end : length csv ≤ i → {k : ℕ} → k ≡ ending m → {q : Place} → q ≡ moved p k → q ≡ last_place csv
  unfolding place_from
  placing_end h ek eq = rw (eq, ek) (rw (last_token sep m csv i h) at d.later)

-- ---- the line of a row
pub record Lining (r : ℕ) (csv : List ℕ) (sep : ℕ) (p : Place) (m : Mode) (n i : ℕ) : Type 0 where
  pub later : line_from r n p (tokens sep m (drop i csv)) ≡ line_of r csv

pub lining_start : {r : ℕ} {csv : List ℕ} {sep i : ℕ} {p : Place} → sep ≡ separator csv → p ≡ start → i ≡ mark_size csv → Lining r csv sep p Start 0 i
unfolding line_of csv_tokens
lining_start es ep ei = rw (es, ep, ei) (record { later = refl })

module _ {r : ℕ} {csv : List ℕ} {sep : ℕ} {p : Place} {m : Mode} {n i : ℕ} (d : Lining r csv sep p m n i) where
  pub lining_more : i < length csv → {s : NumberedStep} → s ≡ step sep m (get_or csv i 0) → {l : ℕ} → l ≡ line_at r n p → {q : Place} → q ≡ moved p s.token → Lining r csv sep q s.mode l (i + 1)
  unfolding line_from
  lining_more h es el eq = rw (el, eq) (record { later = rw (next_tokens sep m csv i h es) at d.later })

  pub lining_end : length csv ≤ i → {l : ℕ} → l ≡ line_at r n p → l ≡ line_of r csv
  unfolding line_from
  lining_end h el = rw el (rw (last_token sep m csv i h) at d.later)
