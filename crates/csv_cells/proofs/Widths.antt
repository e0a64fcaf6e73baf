-- How many fields a row has: up to the last that one of its bytes is in, for places never go back.
use mathlib.Core.Path.{◌≡◌, refl, sym, ap, ◌∙◌}
use mathlib.Core.Bool.{Bool, true, false, cond}
use mathlib.Core.List.{List, [], ◌∷◌}
use Prim.Native.Nat.{ℕ, zero, suc, ◌+◌, ◌≤◌, ◌<◌}
use native.Mathlib.Omega.{arith}
use borrow.Author.Tests.{ltb-true, ltb-false, eqb-true, ne_eqb}
use lib.Dec.{ltb, eqb}
use lib.ListN.{length, get_or, drop}
use Rattle.csv_bytes.specs.declared.Mode.{Mode}
use Rattle.csv_bytes.specs.declared.Mode.TheVariants.{Start}
use Rattle.csv_bytes.specs.Tokens.{NumberedStep, step, tokens, separator, mark_size, csv_tokens}
use Rattle.csv_fleet_reader.proofs.Reading.{next_tokens}
use Rattle.csv_fields.specs.Fields.{byte_if}
use Rattle.csv_fields.proofs.Fielding.{both}
use Rattle.csv_cells.specs.Cells.{Place, start, moved, is_in, cell_from, cell_text, width_to, width, width_at}
use Rattle.csv_cells.proofs.Steps.{moved_near, few_fields}
use Rattle.csv_cells.proofs.Places.{Within, within_start, within_more}
use Rattle.csv_cells.proofs.Celling.{no_bytes_left}

-- ---- a token and the fields of the row
second : (b x : Bool) → cond b x false ≡ true → x ≡ true
second true x p = p
second false true p = refl
second false false p = p

module _ (r f : ℕ) (p : Place) (k : ℕ) where
  in_place : is_in r f p k ≡ true → (p.row ≡ r) × (p.field ≡ f)
  unfolding is_in
  in_place h =
      let t = second (eqb (moved p k).fault 0) _ (second (ltb k 256) _ h) in
      (eqb-true p.row r (both (eqb p.row r) _ t), eqb-true p.field f (second (eqb p.row r) _ t))

  in_other : (p.field ≡ f → ⊥) → is_in r f p k ≡ false
  in_other n = by (is_in r f p k) refl
    where
      by : (b : Bool) → is_in r f p k ≡ b → b ≡ false
      by true e = absurd (n (in_place e).1)
      by false e = refl

  in_none : is_in r p.field p k ≡ false → is_in r f p k ≡ false
  in_none h = by (is_in r f p k) refl
    where
      by : (b : Bool) → is_in r f p k ≡ b → b ≡ false
      by true e = sym e ∙ (sym (ap (λ (g : ℕ). is_in r g p k) (in_place e).1) ∙ h)
      by false e = refl

  module _ (ks : List ℕ) where
    cell_later : is_in r f p k ≡ false → cell_from r f 0 p (k ∷ ks) ≡ cell_from r f 0 (moved p k) ks
    unfolding cell_from byte_if
    cell_later h = rw h

    cell_now : is_in r f p k ≡ true → length (cell_from r f 0 p (k ∷ ks)) ≡ 0 → ⊥
    unfolding cell_from byte_if
    cell_now h = rw h (λ z. omega arith)

-- ---- the width after a token
-- ---- what is known after some tokens
pub record Widening (r : ℕ) (csv : List ℕ) (sep : ℕ) (p : Place) (m : Mode) (n i : ℕ) : Type 0 where
  pub near : Within csv p i
  pub narrow : p.field ≤ 64
  pub most : n ≤ 65
  -- the last field that is known has bytes, and the place is not before it
  pub last : (f : ℕ) → n ≡ f + 1 → length (cell_text r f csv) ≡ 0 → ⊥
  pub rows : 0 < n → r ≤ p.row
  pub fields : 0 < n → p.row ≡ r → n ≤ p.field + 1
  -- the bytes of a field after it are all still to come
  pub later : (f : ℕ) → n ≤ f → cell_text r f csv ≡ cell_from r f 0 p (tokens sep m (drop i csv))

pub widening_start : {r : ℕ} {csv : List ℕ} {sep i : ℕ} {p : Place} → sep ≡ separator csv → p ≡ start → i ≡ mark_size csv → Widening r csv sep p Start 0 i
unfolding cell_text csv_tokens
widening_start {csv = csv} es ep ei =
    rw (es, ep, ei)
    (record {
      near = within_start csv;
      narrow = omega arith;
      most = omega arith;
      last = λ f e. absurd (omega arith);
      rows = λ h. absurd (omega arith);
      fields = λ h. absurd (omega arith);
      later = λ f h. refl;
    })

module _ {r : ℕ} {csv : List ℕ} {sep : ℕ} {p : Place} {m : Mode} {n i : ℕ} (d : Widening r csv sep p m n i) where
  -- so far not beyond the place's own field, where it is in the row
  not_beyond : p.row ≡ r → n ≤ p.field + 1
  not_beyond e = by (ltb 0 n) refl
    where
      by : (b : Bool) → ltb 0 n ≡ b → n ≤ p.field + 1
      by true h = d.fields (ltb-true 0 n h) e
      by false h = omega (arith, ltb-false 0 n h)

  module _ (h : i < length csv) {s : NumberedStep} (es : s ≡ step sep m (get_or csv i 0)) where
    from_next : (f : ℕ) → n ≤ f → cell_text r f csv ≡ cell_from r f 0 p (s.token ∷ tokens sep s.mode (drop (i + 1) csv))
    from_next f l = d.later f l ∙ ap (cell_from r f 0 p) (next_tokens sep m csv i h es)

    widening_same : is_in r p.field p s.token ≡ false → Widening r csv sep (moved p s.token) s.mode n (i + 1)
    widening_same e =
        let q = moved_near p s.token in
        record {
          near = within_more d.near h s.token;
          narrow = few_fields p d.narrow s.token;
          most = d.most;
          last = d.last;
          rows = λ z. omega (arith, d.rows z);
          fields = λ z w.
              let l = d.rows z in
              let v : p.row ≡ r = omega arith in
              omega (arith, d.fields z v, q.fields (w ∙ sym v));
          later = λ f l. from_next f l ∙ cell_later r f p s.token _ (in_none r f p s.token e);
        }

    module _ (e : is_in r p.field p s.token ≡ true) where
      own_row : p.row ≡ r
      own_row = (in_place r p.field p s.token e).0

      own_bytes : length (cell_text r p.field csv) ≡ 0 → ⊥
      own_bytes z = by (ltb p.field n) refl
        where
          by : (b : Bool) → ltb p.field n ≡ b → ⊥
          by true l = d.last p.field (omega (arith, ltb-true p.field n l, not_beyond own_row)) z
          by false l = cell_now r p.field p s.token _ e (ap length (sym (from_next p.field (ltb-false p.field n l))) ∙ z)

      widening_wider : Widening r csv sep (moved p s.token) s.mode (p.field + 1) (i + 1)
      widening_wider =
          let q = moved_near p s.token in
          let o = own_row in
          record {
            near = within_more d.near h s.token;
            narrow = few_fields p d.narrow s.token;
            most = omega (arith, d.narrow);
            last = λ f w z.
                let v : f ≡ p.field = omega arith in
                own_bytes (ap (λ (g : ℕ). length (cell_text r g csv)) (sym v) ∙ z);
            rows = λ z. omega arith;
            fields = λ z w. omega (arith, q.fields (w ∙ sym o));
            later = λ f l. from_next f (omega (arith, not_beyond o)) ∙ cell_later r f p s.token _ (in_other r f p s.token (λ w. omega arith));
          }

    pub widening_more : {next : Place} → next ≡ moved p s.token → {w : ℕ} → w ≡ width_at r n p s.token → Widening r csv sep next s.mode w (i + 1)
    widening_more ep ew = rw (ep, ew) (by (is_in r p.field p s.token) refl)
      where
        by : (b : Bool) → is_in r p.field p s.token ≡ b → Widening r csv sep (moved p s.token) s.mode (cond b (p.field + 1) n) (i + 1)
        by true e = widening_wider e
        by false e = widening_same e

  -- where no bytes are to come of a field that a row can have
  module _ (none : (f : ℕ) → f ≤ 64 → cell_from r f 0 p (tokens sep m (drop i csv)) ≡ []) where
    widest : (j : ℕ) → n ≤ j → j ≤ 65 → width_to j r csv ≡ n
    unfolding width_to
    widest zero h l = omega arith
    widest (suc j) h l = by (ltb j n) refl (λ g. widest j g (omega arith))
      where
        by : (b : Bool) → ltb j n ≡ b → (n ≤ j → width_to j r csv ≡ n) → width_to (suc j) r csv ≡ n
        by true e w =
            let g = ltb-true j n e in
            let v : n ≡ j + 1 = omega arith in
            rw (ne_eqb (length (cell_text r j csv)) 0 (d.last j v)) (omega arith)
        by false e w =
            let g = ltb-false j n e in
            rw (d.later j g ∙ none j (omega arith)) (w g)

    known : (n ≡ width r csv) × (n ≤ 65)
    unfolding width
    known = (sym (widest 65 d.most (omega arith)), d.most)

  pub widening_end : length csv ≤ i → (n ≡ width r csv) × (n ≤ 65)
  widening_end h = known (λ f l. no_bytes_left r f 0 sep p m csv i h)

few_to : (n r : ℕ) (csv : List ℕ) → width_to n r csv ≤ n
unfolding width_to
few_to zero r csv = omega arith
few_to (suc n) r csv = by (eqb (length (cell_text r n csv)) 0) (few_to n r csv)
  where
    by : (b : Bool) → {m : ℕ} → m ≤ n → cond b m (suc n) ≤ suc n
    by true h = omega arith
    by false h = omega arith

pub width_few : (r : ℕ) (csv : List ℕ) → width r csv ≤ 65
unfolding width
width_few r csv = few_to 65 r csv
