-- Cells worked out by hand, as statements about the definitions. A double is written by its sign, mantissa and exponent:
-- 2.5 is 5 * 2 ^ -1, `fin false 5 (negsuc 0)`.
use Rattle.std.specs.Prelude.{◌≡◌, true, false, List, [], ◌∷◌, map, ℕ, ℤ, pos, negsuc, Float}
use Rattle.std.specs.Float.{nan, inf, fin}
use Rattle.scale_cells.specs.declared.Cell.TheVariants.{Net, Weighed}
use Rattle.scale_cells.specs.declared.ScaleCell.{ScaleCell}
use Rattle.scale_cells.specs.Cells.{cell_value, cell_refusal, cells_refusal}
use Rattle.scale_cells.specs.Promise.{unweighed}

abbrev net_cell : Float → ℕ → ScaleCell
net_cell x u = record { cell = Net x; unit = u }

abbrev weighed_cell : (gross tare : Float) → ℕ → ScaleCell
weighed_cell g t u = record { cell = Weighed (record { gross = g; tare = t }); unit = u }

pub record Worked : Type 0 where
  pub given : ScaleCell
  pub refusal : ℕ
  pub value : ℤ

-- an accepted cell and its value
abbrev gives : ScaleCell → ℤ → Worked
gives s v = record { given = s; refusal = 0; value = v }

-- a refused cell and its number
abbrev refuses : ScaleCell → ℕ → Worked
refuses s n = record { given = s; refusal = n; value = pos 0 }

abbrev pub accepted_cells : List Worked
accepted_cells =
    -- halves to even: 2.5, 3.5 and -2.5
    gives (net_cell (fin false 5 (negsuc 0)) 1) (pos 2)
    ∷ gives (net_cell (fin false 7 (negsuc 0)) 1) (pos 4)
    ∷ gives (net_cell (fin true 5 (negsuc 0)) 1) (negsuc 1)
    -- 5.5 is 6 kilograms, and 6 / 4 is 2; rounded once, 5.5 / 4 would be 1
    ∷ gives (net_cell (fin false 11 (negsuc 0)) 4) (pos 2)
    -- 15 / 10 and 25 / 10
    ∷ gives (net_cell (fin false 15 (pos 0)) 10) (pos 2)
    ∷ gives (net_cell (fin false 25 (pos 0)) 10) (pos 2)
    -- negative zero, -0.4 and the smallest double
    ∷ gives (net_cell (fin true 0 (pos 0)) 1) (pos 0)
    ∷ gives (net_cell (fin true 3602879701896397 (negsuc 52)) 1) (pos 0)
    ∷ gives (net_cell (fin false 1 (negsuc 1073)) 1) (pos 0)
    -- 1000000.1 less 999997.6 is exactly 2.5, and 2^53 + 2 less 2^53 - 1 is 3
    ∷ gives (weighed_cell (fin false 8589935450993459 (negsuc 32)) (fin false 8589913976156979 (negsuc 32)) 1) (pos 2)
    ∷ gives (weighed_cell (fin false 4503599627370497 (pos 1)) (fin false 9007199254740991 (pos 0)) 1) (pos 3)
    -- the limit either way, and the largest value
    ∷ gives (net_cell (fin false 1 (pos 20)) 10000) (pos 105)
    ∷ gives (net_cell (fin true 1 (pos 20)) 10000) (negsuc 104)
    ∷ gives (net_cell (fin false 4001 (negsuc 0)) 1) (pos 2000)
    ∷ []

abbrev pub refused_cells : List Worked
refused_cells =
    refuses unweighed 41
    -- 1048576.25 either way: beyond the limit, though it rounds to it
    ∷ refuses (net_cell (fin false 4194305 (negsuc 1)) 10000) 42
    ∷ refuses (net_cell (fin true 4194305 (negsuc 1)) 10000) 42
    -- NaN, an infinity, infinity less infinity, and 10^308 less -10^308, which is an infinity; NaN with a unit of 0 too
    ∷ refuses (net_cell nan 1) 42
    ∷ refuses (net_cell (inf true) 1) 42
    ∷ refuses (weighed_cell (inf false) (inf false) 1) 42
    ∷ refuses (weighed_cell (fin false 156575653125701 (pos 976)) (fin true 156575653125701 (pos 976)) 1) 42
    ∷ refuses (net_cell nan 0) 42
    -- 2000.5000000001 and -2001, and 7 in units of 0 and of 10,001 kilograms
    ∷ refuses (net_cell (fin false 1099786505682999 (negsuc 38)) 1) 43
    ∷ refuses (net_cell (fin true 2001 (pos 0)) 1) 43
    ∷ refuses (net_cell (fin false 7 (pos 0)) 0) 43
    ∷ refuses (net_cell (fin false 7 (pos 0)) 10001) 43
    ∷ []

-- 7 in units of 0 kilograms, then an unweighed cell: the first cell refuses
abbrev pub two_cells : List ScaleCell
two_cells = net_cell (fin false 7 (pos 0)) 0 ∷ (unweighed ∷ [])

pub record Examples : Type 0 where
  pub accepted : map (λ w. cell_refusal w.given) accepted_cells ≡ map (λ w. w.refusal) accepted_cells
  pub values : map (λ w. cell_value w.given) accepted_cells ≡ map (λ w. w.value) accepted_cells
  pub refused : map (λ w. cell_refusal w.given) refused_cells ≡ map (λ w. w.refusal) refused_cells
  pub first_refuses : cells_refusal two_cells ≡ 43
