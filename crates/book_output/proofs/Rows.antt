-- Rows written and read back.
use mathlib.Core.Path.{◌≡◌, refl, ap, ◌∙◌}
use mathlib.Core.Bool.{true}
use mathlib.Core.List.{List, [], ◌∷◌, ◌++◌, append_assoc}
use Prim.Native.Nat.{ℕ, suc, ◌*◌, ◌<◌}
use native.Mathlib.Nat.{suc-mul, zero-mul}
use native.Mathlib.Omega.{arith}
use lib.ListN.{length, get_or, drop, length-append}
use lib.Seq.{drop_at}
use lib.IntN.{ℤ}
use Rattle.files.specs.Bytes.{values, all_in_range}
use Rattle.files.specs.Book.{rows_from, all_rows_in_range}
use Rattle.files.proofs.Refusal.{and_true}
use Rattle.sheet_output.specs.Output.{values_bytes}
use Rattle.sheet_output.proofs.Values.{length_values_bytes, values_back}
use Rattle.book_output.specs.Output.{rows_bytes}

rows_first : (v : List ℤ) (vs : List (List ℤ)) (rest : List ℕ) → rows_bytes (v ∷ vs) ++ rest ≡ values_bytes v ++ (rows_bytes vs ++ rest)
unfolding rows_bytes
rows_first v vs rest = append_assoc (values_bytes v) (rows_bytes vs) rest

-- each of c values
module _ (c : ℕ) where
  pub length_rows_bytes : (vs : List (List ℤ)) → ((i : ℕ) → i < length vs → length (get_or vs i []) ≡ c) → length (rows_bytes vs) ≡ 2 * (length vs * c)
  unfolding rows_bytes
  length_rows_bytes [] l = omega (arith, zero-mul c)
  length_rows_bytes (v ∷ vs) l =
      let e : length v ≡ c = l 0 (omega arith) in
      simp length-append (omega (arith, length_values_bytes v, length_rows_bytes vs (λ i h. l (suc i) (omega arith)), suc-mul (length vs) c))

  pub rows_back : (vs : List (List ℤ)) (rest : List ℕ) → ((i : ℕ) → i < length vs → length (get_or vs i []) ≡ c) → all_rows_in_range vs ≡ true → rows_from (length vs) c (rows_bytes vs ++ rest) ≡ vs
  unfolding rows_from all_rows_in_range
  rows_back [] rest l h = refl
  rows_back (v ∷ vs) rest l h =
      let p = and_true (all_in_range v) (all_rows_in_range vs) h in
      let e : length v ≡ c = l 0 (omega arith) in
      let first : values c (values_bytes v ++ (rows_bytes vs ++ rest)) ≡ v = rw (← e) (values_back v (rows_bytes vs ++ rest) p.0) in
      let later : drop (2 * c) (values_bytes v ++ (rows_bytes vs ++ rest)) ≡ rows_bytes vs ++ rest = drop_at (values_bytes v) (rows_bytes vs ++ rest) (2 * c) (length_values_bytes v ∙ ap (λ n. 2 * n) e) in
      rw (rows_first v vs rest, first, later, rows_back vs rest (λ i k. l (suc i) (omega arith)) p.1)
