-- Rows as bytes: equal rows are equal bytes.
use mathlib.Core.Path.{◌≡◌, refl, sym, ap, ◌∙◌}
use mathlib.Core.Bool.{Bool, true, false}
use mathlib.Core.List.{List, [], ◌∷◌, ◌++◌, append_assoc, append-nil}
use Prim.Native.Nat.{ℕ, ◌*◌}
use native.Mathlib.Omega.{arith}
use borrow.Author.Tests.{eq-eqb}
use lib.ListN.{length}
use lib.Seq.{take_all}
use lib.IntN.{ℤ}
use Rattle.files.specs.Bytes.{values, same}
use Rattle.files.proofs.Letters.{same_eq}
use Rattle.sheet_output.specs.Output.{values_bytes}
use Rattle.book_output.specs.Output.{rows_bytes}
use Rattle.derived_files.proofs.Bytes.{Bytes, values_same}
use Rattle.merged_book.specs.Merging.{same_row}
use Rattle.merged_book.proofs.Rows.{same_row_eq, same_row_self}

pub rows_one : (vs : List (List ℤ)) (v : List ℤ) → rows_bytes (vs ++ (v ∷ [])) ≡ rows_bytes vs ++ values_bytes v
unfolding rows_bytes
rows_one [] v = append-nil (values_bytes v)
rows_one (u ∷ vs) v = rw (rows_one vs v, append_assoc)

-- ---- Equal rows

same_self : (xs : List ℕ) → same xs xs ≡ true
unfolding same
same_self [] = refl
same_self (x ∷ xs) = rw (eq-eqb x x refl) (same_self xs)

pub same_bytes : (c : ℕ) (xs ys : List ℕ) → Bytes xs → Bytes ys → length xs ≡ 2 * c → length ys ≡ 2 * c → same xs ys ≡ same_row (values c xs) (values c ys)
same_bytes c xs ys f g h k = by (same xs ys) (same_row (values c xs) (values c ys)) refl refl
  where
    whole : (zs : List ℕ) → Bytes zs → length zs ≡ 2 * c → values_bytes (values c zs) ≡ zs
    whole zs d l = values_same c zs d (omega arith) ∙ take_all (2 * c) zs (omega arith)

    by : (t u : Bool) → same xs ys ≡ t → same_row (values c xs) (values c ys) ≡ u → t ≡ u
    by true true p q = refl
    by false false p q = refl
    by true false p q =
        let e : values c xs ≡ values c ys = ap (values c) (same_eq xs ys p) in
        sym (same_row_self (values c xs)) ∙ (rw e (rw e at q))
    by false true p q =
        let e : xs ≡ ys = sym (whole xs f h) ∙ ap values_bytes (same_row_eq _ _ q) ∙ whole ys g k in
        sym p ∙ (rw e (same_self ys))
