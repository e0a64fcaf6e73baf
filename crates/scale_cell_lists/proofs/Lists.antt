-- Cells from lists: a kind's cell, a cell that is missing in a list, and the table of all cells.
use mathlib.Core.Path.{◌≡◌, refl, sym, ap, ◌∙◌}
use mathlib.Core.Bool.{false, and-false}
use mathlib.Core.List.{List, append-nil}
use Prim.Native.Nat.{ℕ, zero, suc, ◌+◌, ◌≤◌, ◌<◌}
use native.Mathlib.Omega.{arith}
use borrow.Author.Tests.{lt-ltb, le-ltb}
use lib.Dec.{ltb}
use lib.ListN.{length, get_or, set, replicate}
use lib.Ieee.{Float, nan}
use Rattle.integers.proofs.Filling.{Filled, filled_more, filled_end}
use Rattle.scale_cells.specs.declared.Cell.{Cell}
use Rattle.scale_cells.specs.declared.ScaleCell.{ScaleCell}
use Rattle.scale_cells.specs.Promise.{unweighed}
use Rattle.scale_cell_lists.specs.Lists.{cell_of, has_cell, flat_cell, tabulate, flat_cells}

module _ (ks : List ℕ) (xs ys : List Float) (us : List ℕ) (i : ℕ) where
  missing_by : has_cell ks xs ys us i ≡ false → unweighed ≡ flat_cell ks xs ys us i
  unfolding flat_cell
  missing_by e = rw e

  pub no_kind : length ks ≤ i → unweighed ≡ flat_cell ks xs ys us i
  unfolding has_cell
  no_kind h = missing_by (rw (le-ltb i (length ks) h))

  pub no_first : length xs ≤ i → unweighed ≡ flat_cell ks xs ys us i
  unfolding has_cell
  no_first h = missing_by (rw (le-ltb i (length xs) h) (and-false (ltb i (length ks))))

  pub no_second : length ys ≤ i → unweighed ≡ flat_cell ks xs ys us i
  unfolding has_cell
  no_second h = missing_by (rw (le-ltb i (length ys) h, and-false (ltb i (length xs))) (and-false (ltb i (length ks))))

  pub no_unit : length us ≤ i → unweighed ≡ flat_cell ks xs ys us i
  unfolding has_cell
  no_unit h = missing_by (rw (le-ltb i (length us) h, and-false (ltb i (length ys)), and-false (ltb i (length xs))) (and-false (ltb i (length ks))))

  pub present : i < length ks → i < length xs → i < length ys → i < length us → {s : Cell} → s ≡ cell_of (get_or ks i 0) (get_or xs i nan) (get_or ys i nan) →
      ◌≡◌ {A = ScaleCell} (record { cell = s; unit = get_or us i 0 }) (flat_cell ks xs ys us i)
  unfolding flat_cell has_cell
  present h k l m e = rw (e, lt-ltb i (length ks) h, lt-ltb i (length xs) k, lt-ltb i (length ys) l, lt-ltb i (length us) m)

-- the table
pub tabulate_length : (n : ℕ) (f : ℕ → ScaleCell) → length (tabulate n f) ≡ n
unfolding tabulate
tabulate_length zero f = refl
tabulate_length (suc n) f = ap suc (tabulate_length n (λ i. f (suc i)))

pub tabulate_at : (n : ℕ) (f : ℕ → ScaleCell) (i : ℕ) → i < n → get_or (tabulate n f) i unweighed ≡ f i
unfolding tabulate
tabulate_at zero f i h = absurd (omega arith)
tabulate_at (suc n) f zero h = refl
tabulate_at (suc n) f (suc i) h = tabulate_at n (λ i. f (suc i)) i (omega arith)

-- the loop: the first i cells of the table are stored
module _ (ks : List ℕ) (xs ys : List Float) (us : List ℕ) where
  abbrev table : List ScaleCell
  table = flat_cells ks xs ys us

  table_length : length table ≡ 64
  unfolding flat_cells
  table_length = tabulate_length 64 (flat_cell ks xs ys us)

  abbrev pub blank : List ScaleCell
  blank = replicate 64 unweighed

  abbrev pub Stored : (i : ℕ) → List ScaleCell → Type 0
  Stored i cells = Filled blank table i cells

  module _ {i : ℕ} {cells : List ScaleCell} (f : Stored i cells) where
    pub stored_more : i < 64 → {s : ScaleCell} → s ≡ flat_cell ks xs ys us i → Stored (i + 1) (set cells i s)
    unfolding flat_cells
    stored_more h e = filled_more f (omega (arith, table_length)) unweighed (omega (arith, table_length)) (e ∙ sym (tabulate_at 64 (flat_cell ks xs ys us) i h))

    pub stored_end : 64 ≤ i → cells ≡ table
    stored_end h = filled_end f (omega (arith, table_length)) ∙ rw (table_length) (append-nil table)
