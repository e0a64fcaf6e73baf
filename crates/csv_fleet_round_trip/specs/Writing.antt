-- A fleet written as CSV: names and units in quotes, values as figures, commas between them, a newline after each line. Definitions only.
use Rattle.std.specs.Prelude.{cond, List, [], ◌∷◌, ◌++◌, map, ℕ, suc, eqb, ℤ, pos, negsuc}
use Rattle.text.specs.Decimal.{decimal}
use Rattle.csv_fleet_tokens.specs.Table.{UNIT}

pub record Boat : Type 0 where
  pub name : List ℕ
  pub values : List ℤ

-- the word before the column names, these, their units, the boats
pub record Fleet : Type 0 where
  pub corner : List ℕ
  pub columns : List (List ℕ)
  pub units : List (List ℕ)
  pub boats : List Boat

-- a quote (34) is doubled
unfoldable pub doubled : List ℕ → List ℕ
doubled [] = []
doubled (b ∷ bs) = cond (eqb b 34) (34 ∷ 34 ∷ doubled bs) (b ∷ doubled bs)

unfoldable pub quoted : List ℕ → List ℕ
quoted name = 34 ∷ (doubled name ++ (34 ∷ []))

-- a minus (45) before the figures of a number below 0
unfoldable pub figures : ℤ → List ℕ
figures (pos n) = decimal n
figures (negsuc n) = 45 ∷ decimal (suc n)

-- the fields after the first, each behind a comma (44), and the newline (10)
unfoldable pub fields : List (List ℕ) → List ℕ
fields [] = 10 ∷ []
fields (f ∷ fs) = 44 ∷ (f ++ fields fs)

unfoldable pub line : (first : List ℕ) → (rest : List (List ℕ)) → List ℕ
line f fs = f ++ fields fs

unfoldable pub boat_lines : List Boat → List ℕ
boat_lines [] = []
boat_lines (b ∷ bs) = line (quoted b.name) (map figures b.values) ++ boat_lines bs

unfoldable pub fleet_csv : Fleet → List ℕ
fleet_csv f = line (quoted f.corner) (map quoted f.columns) ++ (line UNIT (map quoted f.units) ++ boat_lines f.boats)
