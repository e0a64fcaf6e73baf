-- Texts with the words of a fault added, and its line.
use mathlib.Core.Path.{◌≡◌}
use mathlib.Core.List.{List, [], ◌∷◌, ◌++◌, map}
use Prim.Native.Nat.{ℕ, ◌+◌, ◌-◌, ◌≤◌, ◌<◌}
use native.Mathlib.Omega.{arith}
use borrow.Author.Tests.{ne_eqb, lt-ltb, le-ltb}
use lib.ListN.{length, length-map}
use Rattle.text.specs.Texts.{Holds, Adds}
use Rattle.text.specs.declared.Text.{Text}
use Rattle.text.proofs.Texts.{adds_both, adds_to_empty}
use Rattle.message_parts.specs.Parts.{COLON, shown, part}
use Rattle.csv_book_words.specs.Words.{NONE_WORDS, NOT_WHOLE_WORDS, place, unnamed_words, many_words}
use Rattle.csv_sheet.specs.Outcomes.{Outcome}
use Rattle.csv_sheet_words.specs.Words.{SHEET_FILE, MANY_FOR_ONE, HULL_UNNAMED, range_words, beyond_words, nameless_words, words, row_line, no_fault, opening, closing, column_line}

-- ---- words
module _ {t r : Text} {w : List ℕ} (a : Adds t w r) (h : length w ≤ 50) where
  pub said : {l : List ℕ} → l ≡ w → (Adds t l r) × (r.len ≤ t.len + 50)
  said e = rw e (a, omega (arith, a.length_is))

  pub said_long : {l : List ℕ} → l ≡ w → (Adds t l r) × (r.len ≤ t.len + 60)
  said_long e = rw e (a, omega (arith, a.length_is))

-- with numbers
module _ (p : ℕ) {t r : Text} where
  pub beyond_one : p < 3 → Adds t MANY_FOR_ONE r → (Adds t (beyond_words p) r) × (r.len ≤ t.len + 60)
  unfolding beyond_words
  beyond_one h a = rw (lt-ltb p 3 h) (a, omega (arith, a.length_is))

  pub beyond_some : 3 ≤ p → (Adds t (many_words (p - 1)) r) × (r.len ≤ t.len + 60) → (Adds t (beyond_words p) r) × (r.len ≤ t.len + 60)
  unfolding beyond_words
  beyond_some h a = rw (le-ltb p 3 h) a

  pub nameless_hull : p ≡ 0 → Adds t HULL_UNNAMED r → (Adds t (nameless_words p) r) × (r.len ≤ t.len + 60)
  unfolding nameless_words
  nameless_hull e a = rw e (a, omega (arith, a.length_is))

  pub nameless_column : (p ≡ 0 → ⊥) → (Adds t (unnamed_words p) r) × (r.len ≤ t.len + 60) → (Adds t (nameless_words p) r) × (r.len ≤ t.len + 60)
  unfolding nameless_words
  nameless_column n a = rw (ne_eqb p 0 n) a

abbrev Told : (f p k : ℕ) → (v : List ℕ) → Text → Text → Type 0
Told f p k v t r = (Adds t (words f p k v) r) × (r.len ≤ t.len + length v + 60)

module _ (f p k : ℕ) (v : List ℕ) {t r : Text} where
  pub words_6 : f ≡ 6 → {a : Text} → Adds t (map shown v) a → Adds a NOT_WHOLE_WORDS r → Told f p k v t r
  unfolding words
  words_6 e x y = rw e (adds_both x y, omega (arith, x.length_is, y.length_is, length-map v shown))

  pub words_7 : f ≡ 7 → {a : Text} → Adds t (map shown v) a → (Adds a (range_words k) r) × (r.len ≤ a.len + 50) → Told f p k v t r
  unfolding words
  words_7 e x y = rw e (adds_both x y.0, omega (arith, x.length_is, y.1, length-map v shown))

-- ---- the lines
pub row_told : (m : Outcome) (k : ℕ) (row column value : List ℕ) {t₀ t₁ t₂ t₃ t₄ t₅ t₆ t₇ : Text} → Holds [] t₀ → Adds t₀ SHEET_FILE t₁ → Adds t₁ (place m.line) t₂ → Adds t₂ (part row) t₃ →
    Adds t₃ (part column) t₄ → Adds t₄ COLON t₅ → Adds t₅ (words m.fault m.field k value) t₆ → Adds t₆ (10 ∷ []) t₇ → Holds (row_line m k row column value) t₇
unfolding row_line
row_told m k row column value e a b c d f g h = adds_to_empty e (adds_both a (adds_both b (adds_both c (adds_both d (adds_both f (adds_both g h))))))

pub none_told : (l : ℕ) {t₀ t₁ t₂ t₃ : Text} → Holds [] t₀ → Adds t₀ SHEET_FILE t₁ → Adds t₁ (place l) t₂ → Adds t₂ (COLON ++ (NONE_WORDS ++ (10 ∷ []))) t₃ → Holds (no_fault l) t₃
unfolding no_fault
none_told l e a b c = adds_to_empty e (adds_both a (adds_both b c))

pub column_told : (f : ℕ) (name : List ℕ) {t₀ t₁ t₂ t₃ t₄ : Text} → Holds [] t₀ → Adds t₀ (opening f) t₁ → Adds t₁ (map shown name) t₂ → Adds t₂ (closing f) t₃ → Adds t₃ (10 ∷ []) t₄ → Holds (column_line f name) t₄
unfolding column_line
column_told f name e a b c d = adds_to_empty e (adds_both a (adds_both b (adds_both c d)))
