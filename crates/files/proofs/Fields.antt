-- The fields of a trailer at their offsets in the file.
use mathlib.Core.Path.{◌≡◌, ◌∙◌}
use mathlib.Core.Bool.{Bool, true, false, ◌||◌}
use mathlib.Core.List.{List}
use Prim.Native.Nat.{ℕ, ◌-◌, ◌≤◌}
use native.Mathlib.Omega.{arith}
use lib.ListN.{length, drop}
use Rattle.files.specs.Bytes.{number, same}
use Rattle.files.specs.Book.{boats, columns}
use Rattle.files.specs.Sheet.{sheet_columns, WSH1, WSH2, sheet_lettered, factor_bytes, sheet}
use Rattle.files.proofs.Numbers.{number_in_trailer, drop_trailer}

module _ (b : List ℕ) (h : 12 ≤ length b) where
  pub boats_at : boats b ≡ number (length b - 8) 2 b
  unfolding boats
  boats_at = number_in_trailer 12 4 2 (length b - 8) b (omega arith)

  pub columns_at : columns b ≡ number (length b - 6) 2 b
  unfolding columns
  columns_at = number_in_trailer 12 6 2 (length b - 6) b (omega arith)

module _ (s : List ℕ) (h : 16 ≤ length s) where
  pub sheet_columns_at : sheet_columns s ≡ number (length s - 12) 2 s
  unfolding sheet_columns
  sheet_columns_at = number_in_trailer 16 4 2 (length s - 12) s (omega arith)

  pub steps_at : (sheet s).steps ≡ number (length s - 10) 2 s
  unfolding sheet
  steps_at = number_in_trailer 16 6 2 (length s - 10) s (omega arith)

  pub tolerance_at : (sheet s).tolerance ≡ number (length s - 8) 4 s
  unfolding sheet
  tolerance_at = number_in_trailer 16 8 4 (length s - 8) s (omega arith)

  pub sheet_letters_at : (ls : List ℕ) → sheet_lettered ls s ≡ same (drop (length s - 4) s) ls
  unfolding sheet_lettered
  sheet_letters_at ls = rw (drop_trailer 16 12 (length s - 4) s (omega arith))

  -- what the letters say of the factors
  module _ (g : Bool) (e : g ≡ same (drop (length s - 4) s) WSH2) where
    pub with_factors : g ≡ true → {n : ℕ} → n ≡ sheet_columns s → n ≡ factor_bytes s
    unfolding factor_bytes
    with_factors t q = q ∙ simp (sheet_letters_at WSH2, ← e, t)

    pub without_factors : g ≡ false → 0 ≡ factor_bytes s
    unfolding factor_bytes
    without_factors t = simp (sheet_letters_at WSH2, ← e, t)

  -- the letters of either edition
  module _ (g : Bool) (e : g ≡ same (drop (length s - 4) s) WSH1) where
    pub first_letters : g ≡ true → true ≡ sheet_lettered WSH1 s || sheet_lettered WSH2 s
    first_letters t = simp (sheet_letters_at WSH1, ← e, t)

    pub second_letters : g ≡ false → (h : Bool) → h ≡ same (drop (length s - 4) s) WSH2 → h ≡ sheet_lettered WSH1 s || sheet_lettered WSH2 s
    second_letters t h d = simp (sheet_letters_at WSH1, sheet_letters_at WSH2, ← e, t, ← d)
