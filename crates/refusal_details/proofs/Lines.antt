-- Texts with the parts of a refusal's line added.
use mathlib.Core.Path.{◌≡◌, refl, sym, ap, ◌∙◌}
use mathlib.Core.Bool.{Bool, true, false, cond}
use mathlib.Core.List.{List, [], ◌∷◌}
use Prim.Native.Nat.{ℕ, zero, suc, ◌+◌, ◌*◌, ◌-◌, ◌/◌, ◌%◌, ◌≤◌, ◌<◌}
use native.Mathlib.Omega.{arith}
use borrow.Author.Tests.{eq-eqb, ne_eqb, lt-ltb, le-ltb}
use lib.Dec.{eqb}
use lib.ListN.{length, take, drop, length-take}
use Rattle.files.specs.Bytes.{number, value, same}
use Rattle.files.proofs.Letters.{same_eq}
use Rattle.csv_fleet_tokens.specs.Table.{UNIT}
use Rattle.files.specs.Book.{boats, columns, rows_offset}
use Rattle.files.specs.Sheet.{sheet, sheet_columns, files_refusal}
use Rattle.text.specs.Decimal.{decimal}
use Rattle.text.specs.Texts.{Holds, Adds}
use Rattle.text.specs.declared.Text.{Text}
use Rattle.text.proofs.Texts.{adds_both, adds_to_empty}
use Rattle.message_parts.specs.Parts.{THEN, COLON, COLUMN, RANGE_WORDS, part}
use Rattle.csv_fleet_round_trip.specs.Writing.{figures}
use Rattle.csv_cells.specs.Cells.{Place, last_place, cell_text, width}
use Rattle.refusal_details.specs.Details.{BOOK, SHEET, BOAT, SHEET_HAS, COLUMNS_BOOK, book_front, first_boat, names_all, names_csv, boat_name, column_name, called, first_out, out_words, book_values, value_line, target_line, columns_line, line_of, detail}
use Rattle.refusal_details.proofs.Scan.{OutAt}

-- ---- a value
module _ (v : ℕ) {t r : Text} where
  pub figures_above : v < 32768 → Adds t (decimal v) r × (r.len ≤ t.len + 20) → Adds t (figures (value v)) r × (r.len ≤ t.len + 21)
  unfolding value figures
  figures_above h a = rw (lt-ltb v 32768 h) (a.0, omega (arith, a.1))

  pub figures_below : {a : Text} → 32768 ≤ v → v < 65536 → Adds t (45 ∷ []) a → Adds a (decimal (65536 - v)) r × (r.len ≤ a.len + 20) →
      Adds t (figures (value v)) r × (r.len ≤ t.len + 21)
  unfolding value figures
  figures_below h k p q =
      let e : suc (65535 - v) ≡ 65536 - v = omega arith in
      rw (le-ltb v 32768 h, e) (adds_both p q.0, omega (arith, p.length_is, q.1))

  pub out_added : {a b d : Text} → Adds t COLON a → Adds a (figures (value v)) b × (b.len ≤ a.len + 21) → Adds b RANGE_WORDS d → Adds d (10 ∷ []) r → Adds t (out_words (value v)) r
  unfolding out_words
  out_added p q x y = adds_both p (adds_both q.0 (adds_both x y))

-- ---- a name or a number
module _ (word : List ℕ) (k : ℕ) (name : List ℕ) {t r : Text} where
  pub called_by_number : length name ≡ 0 → length word ≤ 10 → {a b : Text} → Adds t THEN a → Adds a word b → Adds b (decimal (k + 1)) r × (r.len ≤ b.len + 20) →
      Adds t (called word k name) r × (r.len ≤ t.len + 240)
  unfolding called
  called_by_number e h p q x = rw (eq-eqb (length name) 0 e) (adds_both p (adds_both q x.0), omega (arith, p.length_is, q.length_is, x.1))

  pub called_by_name : (length name ≡ 0 → ⊥) → length name ≤ 200 → Adds t (part name) r × (r.len ≤ t.len + length name + 2) → Adds t (called word k name) r × (r.len ≤ t.len + 240)
  unfolding called
  called_by_name e h p = rw (ne_eqb (length name) 0 e) (p.0, omega (arith, p.1))

-- ---- the lines
pub columns_told : (b s : List ℕ) {t₀ t₁ t₂ t₃ t₄ t₅ : Text} {m n : ℕ} → Holds [] t₀ → Adds t₀ SHEET_HAS t₁ → m ≡ sheet_columns s → Adds t₁ (decimal m) t₂ → Adds t₂ COLUMNS_BOOK t₃ → n ≡ columns b →
    Adds t₃ (decimal n) t₄ → Adds t₄ (10 ∷ []) t₅ → Holds (columns_line b s) t₅
unfolding columns_line
columns_told b s e p em q x en y z = rw (← em, ← en) (adds_to_empty e (adds_both p (adds_both q (adds_both x (adds_both y z)))))

module _ (b : List ℕ) {at c k m v : ℕ} {f : List ℕ} (ef : f ≡ names_csv b) (ec : c ≡ columns b) (o : OutAt (book_values b) b at k) (em : m ≡ first_boat f) (ev : v ≡ number (at + 2 * k) 2 b) where
  pub value_told : {t₀ t₁ t₂ t₃ t₄ : Text} → Holds [] t₀ → Adds t₀ BOOK t₁ → Adds t₁ (called BOAT (k / c) (cell_text (m + k / c) 0 f)) t₂ →
      Adds t₂ (called COLUMN (k % c) (cell_text 0 (k % c + 1) f)) t₃ → Adds t₃ (out_words (value v)) t₄ → Holds (value_line (first_out (book_values b)) b) t₄
  unfolding value_line boat_name column_name
  value_told e p q x y = rw (← ef, ← ec, ← o.first, o.value_is, ← ev, ← em) (adds_to_empty e (adds_both p (adds_both q (adds_both x y))))

module _ (b s : List ℕ) {at k v : ℕ} {f : List ℕ} (ef : f ≡ names_csv b) (o : OutAt (sheet s).target s at k) (ev : v ≡ number (at + 2 * k) 2 s) where
  pub target_told : {t₀ t₁ t₂ t₃ : Text} → Holds [] t₀ → Adds t₀ SHEET t₁ → Adds t₁ (called COLUMN k (cell_text 0 (k + 1) f)) t₂ → Adds t₂ (out_words (value v)) t₃ →
      Holds (target_line (first_out (sheet s).target) b s) t₃
  unfolding target_line column_name
  target_told e p q x = rw (← ef, ← o.first, o.value_is, ← ev) (adds_to_empty e (adds_both p (adds_both q x)))

-- ---- the line of a refusal
module _ (b s : List ℕ) {r : ℕ} {t : Text} where
  pub not_refused : {n : ℕ} → n ≡ files_refusal b s → (n ≡ r → ⊥) → Holds [] t → Holds (detail b s r) t
  unfolding detail
  not_refused {n} en d h = rw (← en, ne_eqb n r d) h

  module _ (e : files_refusal b s ≡ r) where
    pub told_6 : r ≡ 6 → Holds (value_line (first_out (book_values b)) b) t → Holds (detail b s r) t
    unfolding detail line_of
    told_6 z h = rw (eq-eqb (files_refusal b s) r e, z) h

    pub told_13 : r ≡ 13 → Holds (columns_line b s) t → Holds (detail b s r) t
    unfolding detail line_of
    told_13 z h = rw (eq-eqb (files_refusal b s) r e, z) h

    pub told_17 : r ≡ 17 → Holds (target_line (first_out (sheet s).target) b s) t → Holds (detail b s r) t
    unfolding detail line_of
    told_17 z h = rw (eq-eqb (files_refusal b s) r e, z) h

    pub told_other : (r ≡ 6 → ⊥) → (r ≡ 13 → ⊥) → (r ≡ 17 → ⊥) → Holds [] t → Holds (detail b s r) t
    unfolding detail line_of
    told_other x y z h = rw (eq-eqb (files_refusal b s) r e, ne_eqb r 6 x, ne_eqb r 13 y, ne_eqb r 17 z) h

-- accepted files have no line
pub accepted : (b s : List ℕ) (r : ℕ) {t : Text} → 0 ≡ files_refusal b s → Holds [] t → Holds (detail b s r) t
unfolding detail line_of
accepted b s zero e h = rw (← e) h
accepted b s (suc r) e h = rw (← e, ne_eqb 0 (suc r) (λ z. omega (arith, z))) h

-- ---- the row of the first boat
different : (xs ys : List ℕ) → (length xs ≡ length ys → ⊥) → same xs ys ≡ false
different xs ys n = by (same xs ys) refl
  where
    by : (t : Bool) → same xs ys ≡ t → t ≡ false
    by true e = absurd (n (ap length (same_eq xs ys e)))
    by false e = refl

module _ (csv : List ℕ) {n : ℕ} (e : n ≡ length (cell_text 1 0 csv)) where
  pub other_length : (n ≡ 4 → ⊥) → (1 ≡ first_boat csv) × (1 ≤ 2)
  unfolding first_boat
  other_length d = rw (different (cell_text 1 0 csv) UNIT (λ z. d (e ∙ z))) (refl, omega arith)

  module _ {w : List ℕ} {g : Bool} (z : n ≡ 4) (ew : w ≡ cell_text 1 0 csv) (eg : g ≡ same (drop (length w - 4) w) UNIT) where
    decides : g ≡ same (cell_text 1 0 csv) UNIT
    decides =
        let k : length (cell_text 1 0 csv) - 4 ≡ 0 = omega arith in
        eg ∙ rw (ew, k)

    pub units_second : g ≡ true → (2 ≡ first_boat csv) × (2 ≤ 2)
    unfolding first_boat
    units_second t = rw (sym decides ∙ t) (refl, omega arith)

    pub boat_second : g ≡ false → (1 ≡ first_boat csv) × (1 ≤ 2)
    unfolding first_boat
    boat_second t = rw (sym decides ∙ t) (refl, omega arith)

-- ---- the CSV in front of a book
module _ (csv : List ℕ) (n c : ℕ) {p : Place} (e : p ≡ last_place csv) where
  pub faulty_names : (p.fault ≡ 0 → ⊥) → false ≡ names_all csv n c
  unfolding names_all
  faulty_names d = rw (← e, ne_eqb p.fault 0 d)

  module _ (z : p.fault ≡ 0) {m : ℕ} (em : m ≡ first_boat csv) where
    pub other_rows : (p.row ≡ m + n → ⊥) → false ≡ names_all csv n c
    unfolding names_all
    other_rows d = rw (← e, eq-eqb p.fault 0 z, ← em, ne_eqb p.row (m + n) d)

    pub as_many_rows : p.row ≡ m + n → {w : ℕ} → w ≡ width 0 csv → eqb w (c + 1) ≡ names_all csv n c
    unfolding names_all
    as_many_rows y ew = rw (← e, eq-eqb p.fault 0 z, ← em, eq-eqb p.row (m + n) y, ← ew)

module _ (b : List ℕ) {z n c : ℕ} (ez : z ≡ rows_offset b) (en : n ≡ boats b) (ec : c ≡ columns b) {g : Bool} (eg : g ≡ names_all (take z b) n c) where
  names_test : g ≡ names_all (book_front b) (boats b) (columns b)
  unfolding book_front
  names_test = eg ∙ rw (ez, en, ec)

  pub named : g ≡ true → take z b ≡ names_csv b
  unfolding names_csv book_front
  named t = rw (sym names_test ∙ t, ez)

  pub nameless : g ≡ false → {k : ℕ} → k ≡ 0 → take k b ≡ names_csv b
  unfolding names_csv
  nameless t e = rw (sym names_test ∙ t, e)

few_if : (g : Bool) (xs : List ℕ) {n : ℕ} → length xs ≤ n → length {A = ℕ} (cond g xs []) ≤ n
few_if true xs h = h
few_if false xs h = omega arith

pub few_names : (b : List ℕ) → length (names_csv b) ≤ length b
unfolding names_csv book_front
few_names b = few_if (names_all (book_front b) (boats b) (columns b)) (take (rows_offset b) b) (simp length-take (omega arith))
