-- A column looked for by its name, from the last down.
use mathlib.Core.Path.{◌≡◌, refl, sym, ap, ◌∙◌}
use mathlib.Core.Bool.{Bool, true, false, cond}
use mathlib.Core.List.{List, [], ◌∷◌}
use Prim.Native.Nat.{ℕ, zero, suc, ◌-◌, ◌≤◌, ◌<◌}
use native.Mathlib.Omega.{arith}
use borrow.Author.Tests.{eqb-true, eqb-false, eq-eqb, ltb-true, ltb-false}
use lib.Dec.{eqb, ltb}
use Rattle.files.specs.Bytes.{same}
use Rattle.files.proofs.Letters.{same_eq}
use Rattle.csv_cells.specs.Cells.{cell_text}
use Rattle.csv_slots.specs.Slots.{Held}
use Rattle.csv_column_match.specs.Match.{column_of, position}

same_refl : (xs : List ℕ) → same xs xs ≡ true
unfolding same
same_refl [] = refl
same_refl (x ∷ xs) = rw (eq-eqb x x refl) (same_refl xs)

never : false ≡ true → ⊥
never e = let z : ◌≡◌ {A = ℕ} 0 1 = cc in omega arith

pub differ : (a b : ℕ) → a ≤ b → (a ≡ b → ⊥) → a < b
differ a b h n = by (ltb a b) refl
  where
    by : (t : Bool) → ltb a b ≡ t → a < b
    by true e = ltb-true a b e
    by false e = absurd (n (omega (arith, ltb-false a b e)))

module _ (name csv : List ℕ) where
  here : (j : ℕ) → 0 < j → {b : Bool} → b ≡ same (cell_text 0 j csv) name → b ≡ true → column_of name j csv ≡ j
  unfolding column_of
  here zero h e t = absurd (omega arith)
  here (suc j) h e t = rw (← e, t)

  lower : (j : ℕ) → 0 < j → {b : Bool} → b ≡ same (cell_text 0 j csv) name → b ≡ false → column_of name j csv ≡ column_of name (j - 1) csv
  unfolding column_of
  lower zero h e t = absurd (omega arith)
  lower (suc j) h e t =
      let q : suc j - 1 ≡ j = omega arith in
      rw (← e, t, q)

  nowhere : (j : ℕ) → j ≤ 0 → column_of name j csv ≡ 0
  unfolding column_of
  nowhere zero h = refl
  nowhere (suc j) h = absurd (omega arith)

  module _ (n j : ℕ) (d : column_of name j csv ≡ column_of name n csv) where
    module _ (h : 0 < j) {text : List ℕ} (et : text ≡ cell_text 0 j csv) {b : Bool} (eb : b ≡ same text name) where
      pub looking_found : b ≡ true → j ≡ column_of name n csv
      looking_found t = sym (here j h (rw et at eb) t) ∙ d

      pub looking_lower : b ≡ false → column_of name (j - 1) csv ≡ column_of name n csv
      looking_lower t = sym (lower j h (rw et at eb) t) ∙ d

    pub looking_end : j ≤ 0 → 0 ≡ column_of name n csv
    looking_end h = sym (nowhere j h) ∙ d

  -- ---- what is found

  pub column_few : (n : ℕ) → column_of name n csv ≤ n
  unfolding column_of
  column_few zero = omega arith
  column_few (suc n) = by (same (cell_text 0 (suc n) csv) name) (column_few n)
    where
      by : (b : Bool) → {k : ℕ} → k ≤ n → cond b (suc n) k ≤ suc n
      by true h = omega arith
      by false h = omega arith

  pub column_named : (n : ℕ) → (column_of name n csv ≡ 0 → ⊥) → cell_text 0 (column_of name n csv) csv ≡ name
  column_named zero z = absurd (z (nowhere 0 (omega arith)))
  column_named (suc n) z = by (same (cell_text 0 (suc n) csv) name) refl (column_named n)
    where
      by : (b : Bool) → b ≡ same (cell_text 0 (suc n) csv) name → ((column_of name n csv ≡ 0 → ⊥) → cell_text 0 (column_of name n csv) csv ≡ name) → cell_text 0 (column_of name (suc n) csv) csv ≡ name
      by true e more = rw (here (suc n) (omega arith) e refl) (same_eq _ _ (sym e))
      by false e more =
          let q : column_of name (suc n) csv ≡ column_of name n csv = lower (suc n) (omega arith) e refl ∙ ap (λ (k : ℕ). column_of name k csv) (omega arith) in
          rw q (more (λ p. z (q ∙ p)))

  -- no column after it has the name
  pub column_last : (n f : ℕ) → column_of name n csv < f → f ≤ n → cell_text 0 f csv ≡ name → ⊥
  column_last zero f h k e = omega (arith, nowhere 0 (omega arith))
  column_last (suc n) f h k e = by (same (cell_text 0 (suc n) csv) name) (eqb f (suc n)) refl refl (λ g k. column_last n f g k e)
    where
      by : (b t : Bool) → b ≡ same (cell_text 0 (suc n) csv) name → eqb f (suc n) ≡ t → (column_of name n csv < f → f ≤ n → ⊥) → ⊥
      by true t p q more = omega (arith, here (suc n) (omega arith) p refl)
      by false true p q more =
          let g : cell_text 0 (suc n) csv ≡ name = rw (eqb-true f (suc n) q) at e in
          let z : false ≡ true = p ∙ rw g (same_refl name) in
          absurd (never z)
      by false false p q more =
          let g : column_of name (suc n) csv ≡ column_of name n csv = lower (suc n) (omega arith) p refl ∙ ap (λ (k : ℕ). column_of name k csv) (omega arith) in
          let l : f < suc n = differ f (suc n) k (eqb-false f (suc n) q) in
          more (omega arith) (omega arith)

-- ---- what holds of every CSV whose names are in slots
module _ {fs fc ss sc fleet csv : List ℕ} (f : Held 0 1 fleet fs fc) (s : Held 0 1 csv ss sc) where
  pub position_held : (n j : ℕ) {r : ℕ} → ((fleet csv : List ℕ) → Held 0 1 fleet fs fc → Held 0 1 csv ss sc → r ≡ column_of (cell_text 0 j fleet) n csv) → r ≡ position n j fleet csv
  unfolding position
  position_held n j h = h fleet csv f s
