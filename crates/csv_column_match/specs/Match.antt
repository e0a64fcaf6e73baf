-- The columns of a sheet's CSV matched by name with those of a fleet's. Definitions only.
use Rattle.std.specs.Prelude.{cond, List, [], ◌∷◌, ℕ, zero, suc, ◌-◌, eqb}
use Rattle.files.specs.Bytes.{same}
use Rattle.csv_cells.specs.Cells.{cell_text}
use Rattle.csv_column_match.specs.Misfits.{Misfit}

-- the last column from 1 to n of this name, 0 if there is none
unfoldable pub column_of : (name : List ℕ) → (n : ℕ) → List ℕ → ℕ
column_of name zero csv = 0
column_of name (suc n) csv = cond (same (cell_text 0 (suc n) csv) name) (suc n) (column_of name n csv)

-- where column j of the fleet stands among the n columns of the sheet
unfoldable pub position : (n j : ℕ) → (fleet csv : List ℕ) → ℕ
position n j fleet csv = column_of (cell_text 0 j fleet) n csv

abbrev pub none : Misfit
none = record { fault = 0; column = 0 }

-- column j of the fleet: 18 the sheet has it not, 19 the sheet has it twice, 21 the fleet has it twice
unfoldable pub column_mismatch : (n j : ℕ) → (fleet csv : List ℕ) → Misfit
column_mismatch n j fleet csv =
    cond (eqb (position n j fleet csv) 0) (record { fault = 18; column = j })
    (cond (eqb (position (position n j fleet csv - 1) j fleet csv) 0)
    (cond (eqb (column_of (cell_text 0 j fleet) (j - 1) fleet) 0) none (record { fault = 21; column = j })) (record { fault = 19; column = j }))

-- the first of columns 1 to m of the fleet
unfoldable pub fleet_mismatch : (n m : ℕ) → (fleet csv : List ℕ) → Misfit
fleet_mismatch n zero fleet csv = none
fleet_mismatch n (suc m) fleet csv = cond (eqb (fleet_mismatch n m fleet csv).fault 0) (column_mismatch n (suc m) fleet csv) (fleet_mismatch n m fleet csv)

-- the first of columns 1 to n of the sheet that is none of the m of the fleet, 0 if each is
unfoldable pub unknown : (m n : ℕ) → (fleet csv : List ℕ) → ℕ
unknown m zero fleet csv = 0
unknown m (suc n) fleet csv =
    cond (eqb (unknown m n fleet csv) 0) (cond (eqb (column_of (cell_text 0 (suc n) csv) m fleet) 0) (suc n) 0) (unknown m n fleet csv)

-- the first mismatch of m columns of the fleet and n of the sheet: 20 a column of the sheet that the fleet has not
unfoldable pub mismatch : (m n : ℕ) → (fleet csv : List ℕ) → Misfit
mismatch m n fleet csv =
    cond (eqb (fleet_mismatch n m fleet csv).fault 0)
    (cond (eqb (unknown m n fleet csv) 0) none (record { fault = 20; column = unknown m n fleet csv })) (fleet_mismatch n m fleet csv)

-- the positions of columns j, j + 1, .. of the fleet, so many
unfoldable pub positions_from : (n j count : ℕ) → (fleet csv : List ℕ) → List ℕ
positions_from n j zero fleet csv = []
positions_from n j (suc k) fleet csv = position n j fleet csv ∷ positions_from n (suc j) k fleet csv

-- of all m columns of the fleet
unfoldable pub positions : (m n : ℕ) → (fleet csv : List ℕ) → List ℕ
positions m n fleet csv = positions_from n 1 m fleet csv
