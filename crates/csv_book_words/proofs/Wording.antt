-- Texts with the words of a fault added, its line, and the words of the front text.
use mathlib.Core.Path.{◌≡◌}
use mathlib.Core.List.{List, [], ◌∷◌, map}
use Prim.Native.Nat.{ℕ, ◌+◌, ◌≤◌}
use native.Mathlib.Omega.{arith}
use borrow.Author.Tests.{eq-eqb, ne_eqb}
use lib.ListN.{length, length-map}
use Rattle.text.specs.Decimal.{decimal}
use Rattle.text.specs.Texts.{text_limit, Holds, Adds}
use Rattle.text.specs.declared.Text.{Text}
use Rattle.text.proofs.Texts.{adds_both, adds_to_empty}
use Rattle.message_parts.specs.Parts.{COLON, COLUMN, RANGE_WORDS, shown, part}
use Rattle.message_parts.proofs.Parts.{nothing_added}
use Rattle.csv_front_text.specs.declared.Front.{Front}
use Rattle.csv_front_text.specs.declared.Front.TheVariants.{Whole, Names, Nothing}
use Rattle.csv_book.specs.Books.{Made}
use Rattle.csv_book_words.specs.Words.{FILE, UNNAMED, MORE_THAN, VALUES, OF, NOT_WHOLE_WORDS, place, plain_words, few_words, unnamed_words, many_words, words, fault_line, front_line}

-- ---- the place
module _ {t : Text} (l : ℕ) where
  pub place_none : l ≡ 0 → t.len + 26 ≤ text_limit → (Adds t (place l) t) × (t.len ≤ t.len + 26)
  unfolding place
  place_none e h = rw (eq-eqb l 0 e) (nothing_added t (omega arith), omega arith)

  pub place_some : (l ≡ 0 → ⊥) → {a r : Text} → Adds t (32 ∷ 108 ∷ 105 ∷ 110 ∷ 101 ∷ 32 ∷ []) a → Adds a (decimal l) r × (r.len ≤ a.len + 20) → (Adds t (place l) r) × (r.len ≤ t.len + 26)
  unfolding place
  place_some n p q = rw (ne_eqb l 0 n) (adds_both p q.0, omega (arith, p.length_is, q.1))

-- ---- words
module _ {t r : Text} {w : List ℕ} (a : Adds t w r) (h : length w ≤ 40) where
  pub said : {l : List ℕ} → l ≡ w → (Adds t l r) × (r.len ≤ t.len + 40)
  said e = rw e (a, omega (arith, a.length_is))

-- with numbers
module _ {t a b d r : Text} where
  pub few_added : (p c : ℕ) → Adds t (decimal p) a × (a.len ≤ t.len + 20) → Adds a OF b → Adds b (decimal c) d × (d.len ≤ b.len + 20) → Adds d VALUES r →
      (Adds t (few_words p c) r) × (r.len ≤ t.len + 60)
  unfolding few_words
  few_added p c x y z w = (adds_both x.0 (adds_both y (adds_both z.0 w)), omega (arith, x.1, y.length_is, z.1, w.length_is))

module _ {t a b r : Text} where
  pub unnamed_added : (p : ℕ) → Adds t COLUMN a → Adds a (decimal p) b × (b.len ≤ a.len + 20) → Adds b UNNAMED r → (Adds t (unnamed_words p) r) × (r.len ≤ t.len + 60)
  unfolding unnamed_words
  unnamed_added p x y z = (adds_both x (adds_both y.0 z), omega (arith, x.length_is, y.1, z.length_is))

  pub many_added : (c : ℕ) → Adds t MORE_THAN a → Adds a (decimal c) b × (b.len ≤ a.len + 20) → Adds b VALUES r → (Adds t (many_words c) r) × (r.len ≤ t.len + 60)
  unfolding many_words
  many_added c x y z = (adds_both x (adds_both y.0 z), omega (arith, x.length_is, y.1, z.length_is))

abbrev Told : (f p c : ℕ) → (v : List ℕ) → Text → Text → Type 0
Told f p c v t r = (Adds t (words f p c v) r) × (r.len ≤ t.len + length v + 60)

module _ (f p c : ℕ) (v : List ℕ) {t r : Text} where
  pub words_6 : f ≡ 6 → {a : Text} → Adds t (map shown v) a → Adds a NOT_WHOLE_WORDS r → Told f p c v t r
  unfolding words
  words_6 e x y = rw e (adds_both x y, omega (arith, x.length_is, y.length_is, length-map v shown))

  pub words_7 : f ≡ 7 → {a : Text} → Adds t (map shown v) a → Adds a RANGE_WORDS r → Told f p c v t r
  unfolding words
  words_7 e x y = rw e (adds_both x y, omega (arith, x.length_is, y.length_is, length-map v shown))

  pub words_5 : f ≡ 5 → (Adds t (few_words p c) r) × (r.len ≤ t.len + 60) → Told f p c v t r
  unfolding words
  words_5 e x = rw e (x.0, omega (arith, x.1))

  pub words_2 : f ≡ 2 → (c ≡ 0 → ⊥) → (Adds t (plain_words f) r) × (r.len ≤ t.len + 40) → Told f p c v t r
  unfolding words
  words_2 e z x = let y : Adds t (plain_words 2) r = rw e at x.0 in rw (e, ne_eqb c 0 z) (y, omega (arith, x.1))

  pub words_other : (f ≡ 6 → ⊥) → (f ≡ 7 → ⊥) → (f ≡ 5 → ⊥) → (f ≡ 2 → ⊥) → (f ≡ 4 → ⊥) → (Adds t (plain_words f) r) × (r.len ≤ t.len + 40) → Told f p c v t r
  unfolding words
  words_other a b d e g x = rw (ne_eqb f 6 a, ne_eqb f 7 b, ne_eqb f 5 d, ne_eqb f 2 e, ne_eqb f 4 g) (x.0, omega (arith, x.1))

-- ---- the line
pub line_told : (m : Made) (boat column value : List ℕ) {t₀ t₁ t₂ t₃ t₄ t₅ t₆ t₇ : Text} → Holds [] t₀ → Adds t₀ FILE t₁ → Adds t₁ (place m.line) t₂ → Adds t₂ (part boat) t₃ →
    Adds t₃ (part column) t₄ → Adds t₄ COLON t₅ → Adds t₅ (words m.fault m.field m.columns value) t₆ → Adds t₆ (10 ∷ []) t₇ → Holds (fault_line m boat column value) t₇
unfolding fault_line
line_told m boat column value e a b c d f g h = adds_to_empty e (adds_both a (adds_both b (adds_both c (adds_both d (adds_both f (adds_both g h))))))

-- ---- the front text of a book
module _ {f : Front} {t r : Text} where
  pub front_whole : f ≡ Whole → Adds t (front_line Whole) r → Adds t (front_line f) r
  front_whole e a = rw e a

  pub front_names : f ≡ Names → Adds t (front_line Names) r → Adds t (front_line f) r
  front_names e a = rw e a

  pub front_nothing : f ≡ Nothing → Adds t (front_line Nothing) r → Adds t (front_line f) r
  front_nothing e a = rw e a
