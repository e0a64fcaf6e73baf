-- Scale cells from four lists: kinds, the nets or gross weights, the tares, and the kilograms of a unit. Definitions only.
use Rattle.std.specs.Prelude.{Bool, ◌&&◌, cond, List, [], ◌∷◌, ℕ, zero, suc, eqb, ltb, length, get_or, Float}
use Rattle.std.specs.Float.{nan}
use Rattle.scale_cells.specs.declared.Cell.{Cell}
use Rattle.scale_cells.specs.declared.Cell.TheVariants.{Unweighed, Net, Weighed}
use Rattle.scale_cells.specs.declared.ScaleCell.{ScaleCell}
use Rattle.scale_cells.specs.Promise.{unweighed}

-- by kind: 1 is a net, 2 a weighing, any other number an unweighed cell
unfoldable pub cell_of : (kind : ℕ) → (first second : Float) → Cell
cell_of kind x y = cond (eqb kind 1) (Net x) (cond (eqb kind 2) (Weighed (record { gross = x; tare = y })) Unweighed)

-- whether every list has an entry for cell i
unfoldable pub has_cell : List ℕ → List Float → List Float → List ℕ → ℕ → Bool
has_cell ks xs ys us i = ltb i (length ks) && (ltb i (length xs) && (ltb i (length ys) && ltb i (length us)))

-- cell i, unweighed where a list is too short for it
unfoldable pub flat_cell : List ℕ → List Float → List Float → List ℕ → ℕ → ScaleCell
flat_cell ks xs ys us i = cond (has_cell ks xs ys us i) (record { cell = cell_of (get_or ks i 0) (get_or xs i nan) (get_or ys i nan); unit = get_or us i 0 }) unweighed

-- f 0, f 1 and so on, n of them
unfoldable pub tabulate : ℕ → (ℕ → ScaleCell) → List ScaleCell
tabulate zero f = []
tabulate (suc n) f = f 0 ∷ tabulate n (λ i. f (suc i))

-- all 64 of them
unfoldable pub flat_cells : List ℕ → List Float → List Float → List ℕ → List ScaleCell
flat_cells ks xs ys us = tabulate 64 (flat_cell ks xs ys us)
