-- The bytes of the fields of a line, letter by letter. Assumes nothing.
use mathlib.Core.Path.{◌≡◌}
use mathlib.Core.List.{List, [], ◌++◌}
use Prim.Native.Nat.{ℕ, ◌+◌, ◌%◌, ◌≤◌, ◌<◌}
use native.Mathlib.Nat.{add-zero}
use native.Mathlib.Numerals.{add-one}
use lib.ListN.{length, get_or, drop, drop_of_length-le}
use lib.Seq.{drop-cons, drop-drop, get_or-drop}
use Rattle.files.specs.Bytes.{number_bytes}
use Rattle.test_tables.specs.Tables.{field, fields}

module _ (line others letters sizes : List ℕ) (i : ℕ) where
  pub fields_more : i < length letters →
      fields line others (drop i letters) (drop i sizes)
      ≡ number_bytes (get_or sizes i 0 % 16) (field line (get_or letters i 0) (field others (get_or letters i 0) 0)) ++ fields line others (drop (i + 1) letters) (drop (i + 1) sizes)
  unfolding fields
  fields_more h = rw (drop-cons letters i 0 h, get_or-drop i sizes 0 0, add-zero, drop-drop 1 i sizes, add-one)

  pub fields_none : length letters ≤ i → fields line others (drop i letters) (drop i sizes) ≡ []
  unfolding fields
  fields_none h = rw (drop_of_length-le letters {i = i} h)
