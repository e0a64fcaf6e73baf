-- What a row is by its first field, and the row of a kind: a law for each way that a function can go.
use mathlib.Core.Path.{◌≡◌, refl, sym, ◌∙◌}
use mathlib.Core.Bool.{Bool, true, false, cond}
use mathlib.Core.List.{List, [], ◌∷◌}
use Prim.Native.Nat.{ℕ, zero, suc, ◌-◌}
use native.Mathlib.Omega.{arith}
use borrow.Author.Tests.{eq-eqb, ne_eqb}
use lib.Dec.{eqb}
use lib.ListN.{length}
use Rattle.files.specs.Bytes.{same}
use Rattle.csv_cells.specs.Cells.{cell_text, width_to, width}
use Rattle.csv_sheet_rows.specs.Kinds.{UNIT, FACTOR, STEPS, TOLERANCE, EACH, DISPLACEMENT, LENGTH, kind_of, kind_at, place, row_of}

-- ---- by the word
module _ (name : List ℕ) {b₁ : Bool} (e₁ : b₁ ≡ same name UNIT) where
  pub kind_unit : b₁ ≡ true → 1 ≡ kind_of name
  unfolding kind_of
  kind_unit h = rw (← e₁, h)

  module _ (h₁ : b₁ ≡ false) {b₂ : Bool} (e₂ : b₂ ≡ same name FACTOR) where
    pub kind_factor : b₂ ≡ true → 2 ≡ kind_of name
    unfolding kind_of
    kind_factor h = rw (← e₁, h₁, ← e₂, h)

    module _ (h₂ : b₂ ≡ false) {b₃ : Bool} (e₃ : b₃ ≡ same name STEPS) where
      pub kind_steps : b₃ ≡ true → 3 ≡ kind_of name
      unfolding kind_of
      kind_steps h = rw (← e₁, h₁, ← e₂, h₂, ← e₃, h)

      module _ (h₃ : b₃ ≡ false) {b₄ : Bool} (e₄ : b₄ ≡ same name TOLERANCE) where
        pub kind_tolerance : b₄ ≡ true → 4 ≡ kind_of name
        unfolding kind_of
        kind_tolerance h = rw (← e₁, h₁, ← e₂, h₂, ← e₃, h₃, ← e₄, h)

        module _ (h₄ : b₄ ≡ false) {b₅ : Bool} (e₅ : b₅ ≡ same name EACH) where
          pub kind_each : b₅ ≡ true → 5 ≡ kind_of name
          unfolding kind_of
          kind_each h = rw (← e₁, h₁, ← e₂, h₂, ← e₃, h₃, ← e₄, h₄, ← e₅, h)

          module _ (h₅ : b₅ ≡ false) {b₆ : Bool} (e₆ : b₆ ≡ same name DISPLACEMENT) where
            pub kind_displacement : b₆ ≡ true → 6 ≡ kind_of name
            unfolding kind_of
            kind_displacement h = rw (← e₁, h₁, ← e₂, h₂, ← e₃, h₃, ← e₄, h₄, ← e₅, h₅, ← e₆, h)

            module _ (h₆ : b₆ ≡ false) {b₇ : Bool} (e₇ : b₇ ≡ same name LENGTH) where
              pub kind_length : b₇ ≡ true → 7 ≡ kind_of name
              unfolding kind_of
              kind_length h = rw (← e₁, h₁, ← e₂, h₂, ← e₃, h₃, ← e₄, h₄, ← e₅, h₅, ← e₆, h₆, ← e₇, h)

              pub kind_hull : b₇ ≡ false → 0 ≡ kind_of name
              unfolding kind_of
              kind_hull h = rw (← e₁, h₁, ← e₂, h₂, ← e₃, h₃, ← e₄, h₄, ← e₅, h₅, ← e₆, h₆, ← e₇, h)

kind_empty : (name : List ℕ) → length name ≡ 0 → kind_of name ≡ 0
unfolding kind_of same
kind_empty [] h = refl
kind_empty (x ∷ xs) h = absurd (omega arith)

-- ---- at a row

-- a row whose first field has bytes has a width
wide : (r : ℕ) (csv : List ℕ) (n : ℕ) → (length (cell_text r 0 csv) ≡ 0 → ⊥) → width_to (suc n) r csv ≡ 0 → ⊥
unfolding width_to
wide r csv zero h z =
    let y : ◌≡◌ {A = ℕ} 1 0 = rw (ne_eqb (length (cell_text r 0 csv)) 0 h) at z in
    omega arith
wide r csv (suc n) h z = by (eqb (length (cell_text r (suc n) csv)) 0) (wide r csv n h) z
  where
    by : (b : Bool) → {m : ℕ} → (m ≡ 0 → ⊥) → cond b m (suc (suc n)) ≡ 0 → ⊥
    by true g e = g e
    by false g e = omega arith

module _ (r : ℕ) (csv : List ℕ) {n : ℕ} (en : n ≡ length (cell_text r 0 csv)) where
  pub at_word : (n ≡ 0 → ⊥) → {text : List ℕ} → text ≡ cell_text r 0 csv → {x : ℕ} → x ≡ kind_of text → x ≡ kind_at r csv
  unfolding kind_at width
  at_word h et e = e ∙ rw (et, ne_eqb (width_to 65 r csv) 0 (wide r csv 64 (λ z. h (en ∙ z))))

  module _ (z : n ≡ 0) {w : ℕ} (ew : w ≡ width r csv) where
    pub at_blank : w ≡ 0 → 8 ≡ kind_at r csv
    unfolding kind_at
    at_blank h = rw (← ew, eq-eqb w 0 h)

    pub at_nameless : (w ≡ 0 → ⊥) → 0 ≡ kind_at r csv
    unfolding kind_at
    at_nameless h = rw (← ew, ne_eqb w 0 h, kind_empty (cell_text r 0 csv) (sym en ∙ z))

-- ---- the row of a kind
row_step : (k r : ℕ) (csv : List ℕ) → (r ≡ 0 → ⊥) → row_of k r csv ≡ cond (eqb (place (kind_at r csv)) k) r (row_of k (r - 1) csv)
unfolding row_of
row_step k zero csv h = absurd (h refl)
row_step k (suc r) csv h = let e : suc r - 1 ≡ r = omega arith in rw e

-- none of the rows after row r is of the kind
pub record Seeking (k n : ℕ) (csv : List ℕ) (r : ℕ) : Type 0 where
  pub later : row_of k r csv ≡ row_of k n csv

pub seeking_start : {k n : ℕ} {csv : List ℕ} → Seeking k n csv n
seeking_start = record { later = refl }

module _ {k n : ℕ} {csv : List ℕ} {r : ℕ} (d : Seeking k n csv r) where
  pub seeking_here : (r ≡ 0 → ⊥) → {x : ℕ} → x ≡ kind_at r csv → {y : ℕ} → y ≡ place x → y ≡ k → r ≡ row_of k n csv
  seeking_here h ex {y} ey e = sym (row_step k r csv h ∙ rw (← ex, ← ey, eq-eqb y k e)) ∙ d.later

  pub seeking_more : (r ≡ 0 → ⊥) → {x : ℕ} → x ≡ kind_at r csv → {y : ℕ} → y ≡ place x → (y ≡ k → ⊥) → Seeking k n csv (r - 1)
  seeking_more h ex {y} ey e = record { later = sym (row_step k r csv h ∙ rw (← ex, ← ey, ne_eqb y k e)) ∙ d.later }

  pub seeking_end : r ≡ 0 → 0 ≡ row_of k n csv
  unfolding row_of
  seeking_end h = rw h at d.later
