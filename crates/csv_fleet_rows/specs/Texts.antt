-- The fields of a fleet's CSV that hold values, as bytes, and that each value is the number that the figures of its field say.
use Rattle.std.specs.Prelude.{cond, List, [], ◌∷◌, ◌++◌, ℕ, ◌+◌, ltb, eqb, ℤ, length}
use Rattle.csv_bytes.specs.Tokens.{csv_tokens}
use Rattle.csv_numbers.specs.Numbers.{SaysValue}
use Rattle.csv_fleet_tokens.specs.Table.{Table, start, after}
use Rattle.csv_fleet_reader.specs.Fleet.{ends_value, ended_value, fleet_values}

-- the bytes of a field after one token more: a byte is added, a token that says nothing (259) leaves them, and the end of the field empties them
unfoldable pub text_after : (text : List ℕ) → (k : ℕ) → List ℕ
text_after w k = cond (ltb k 256) (w ++ (k ∷ [])) (cond (eqb k 259) w [])

-- the field of the value that a token ends after n others, or none
unfoldable pub ended_text : Table → (n k : ℕ) → (text : List ℕ) → List (List ℕ)
ended_text t n k w = cond (ltb n 16384) (cond (ends_value t k) (w ∷ []) []) []

-- from a table on, after n values and the first bytes of a field
unfoldable pub texts_from : Table → (n : ℕ) → (text : List ℕ) → List ℕ → List (List ℕ)
texts_from t n w [] = []
texts_from t n w (k ∷ ks) = ended_text t n k w ++ texts_from (after t k) (n + length (ended_value t n k)) (text_after w k) ks

-- of a whole CSV
unfoldable pub fleet_texts : List ℕ → List (List ℕ)
fleet_texts csv = texts_from start 0 [] (csv_tokens csv)

-- as many texts as values, each of which says the value at its place
pub data EachSays : List ℤ → List (List ℕ) → Type 0 where
  none : EachSays [] []
  one_more : {v : ℤ} {vs : List ℤ} {w : List ℕ} {ws : List (List ℕ)} → SaysValue v w → EachSays vs ws → EachSays (v ∷ vs) (w ∷ ws)

unfoldable pub ValuesSaid : Type 0
ValuesSaid = (csv : List ℕ) → EachSays (fleet_values csv) (fleet_texts csv)
