-- The loop that reads a number. What it has read, followed by the bytes that are left, says what the whole text says.
use mathlib.Core.Path.{◌≡◌, refl, sym, ap, ◌∙◌}
use mathlib.Core.Bool.{Bool, true, false, ◌&&◌, true≢false}
use mathlib.Core.List.{List, [], ◌∷◌}
use Prim.Native.Nat.{ℕ, suc, ◌+◌, ◌*◌, ◌-◌, ◌≤◌, ◌<◌}
use native.Mathlib.Numerals.{add-one}
use native.Mathlib.Omega.{arith}
use borrow.Author.Tests.{leb-true, lt-ltb, le-ltb, eq-eqb, ne_eqb}
use lib.Dec.{leb, ltb}
use lib.ListN.{length, drop, get_or, drop_of_length-le}
use lib.Seq.{drop-cons}
use Rattle.text.specs.Decimal.{read_after, read_decimal}
use Rattle.std.specs.Prelude.{None, Some}
use Rattle.arguments.specs.Numbers.{is_figure, all_figures, is_number, number_in}

-- figures behind a number never make it less
grows : (n : ℕ) (bs : List ℕ) → n ≤ read_after n bs
unfolding read_after
grows n [] = omega arith
grows n (b ∷ bs) = omega (arith, grows (10 * n + (b - 48)) bs)

-- what the loop knows behind the first i bytes
pub record Reading (text : List ℕ) (value i : ℕ) : Type 0 where
  pub some : (length text ≡ 0) → ⊥
  pub reached : i ≤ length text
  pub small : value < 4294967296
  pub figures : all_figures text ≡ all_figures (drop i text)
  pub reads : read_decimal text ≡ read_after value (drop i text)

figure_bounds : (b : ℕ) → is_figure b ≡ true → (48 ≤ b) × (b ≤ 57)
unfolding is_figure
figure_bounds b h = by (leb 48 b) (leb b 57) refl refl h
  where
    by : (s t : Bool) → leb 48 b ≡ s → leb b 57 ≡ t → (s && t) ≡ true → (48 ≤ b) × (b ≤ 57)
    by false t p q h = absurd (true≢false (sym h))
    by true false p q h = absurd (true≢false (sym h))
    by true true p q h = (leb-true 48 b p, leb-true b 57 q)

and_false : (t : Bool) → (t && false) ≡ false
and_false true = refl
and_false false = refl

not_a_number : (text : List ℕ) → is_number text ≡ false → None ≡ number_in text
unfolding number_in
not_a_number text h = rw h

no_bytes : (text : List ℕ) → length text ≡ 0 → is_number text ≡ false
unfolding is_number
no_bytes text h = rw (eq-eqb (length text) 0 h)

pub empty_text : (text : List ℕ) → length text ≡ 0 → None ≡ number_in text
empty_text text h = not_a_number text (no_bytes text h)

module _ {text : List ℕ} where
  pub reading_start : ((length text ≡ 0) → ⊥) → Reading text 0 0
  reading_start h = record { some = h; reached = omega arith; small = omega arith; figures = refl; reads = refl }

  module _ {value i b : ℕ} (r : Reading text value i) (below : i < length text) (at : b ≡ get_or text i 0) where
    here : drop i text ≡ b ∷ drop (suc i) text
    here = drop-cons text i 0 below ∙ ap (λ (x : ℕ). x ∷ drop (suc i) text) (sym at)

    pub figure_least : is_figure b ≡ true → 48 ≤ b
    figure_least h = (figure_bounds b h).0

    pub figure_most : is_figure b ≡ true → b ≤ 57
    figure_most h = (figure_bounds b h).1

    others : is_figure b ≡ false → all_figures text ≡ false
    unfolding all_figures
    others h = r.figures ∙ ap all_figures here ∙ rw h

    no_figures : is_figure b ≡ false → is_number text ≡ false
    unfolding is_number
    no_figures h = rw (ne_eqb (length text) 0 r.some, others h)

    pub other_byte : is_figure b ≡ false → None ≡ number_in text
    other_byte h = not_a_number text (no_figures h)

    -- the number with the byte's figure behind it
    module _ (h : is_figure b ≡ true) where
      reads_on : read_decimal text ≡ read_after (10 * value + (b - 48)) (drop (suc i) text)
      unfolding read_after
      reads_on = r.reads ∙ ap (read_after value) here

      figures_on : all_figures text ≡ all_figures (drop (suc i) text)
      unfolding all_figures
      figures_on = r.figures ∙ ap all_figures here ∙ rw h

      large : 4294967295 < 10 * value + (b - 48) → ltb (read_decimal text) 4294967296 ≡ false
      large g = le-ltb (read_decimal text) 4294967296 (omega (arith, reads_on, grows (10 * value + (b - 48)) (drop (suc i) text)))

      no_room : 4294967295 < 10 * value + (b - 48) → is_number text ≡ false
      unfolding is_number
      no_room g = rw (ne_eqb (length text) 0 r.some, large g, and_false (all_figures text))

      pub too_large : 4294967295 < 10 * value + (b - 48) → None ≡ number_in text
      too_large g = not_a_number text (no_room g)

      pub reading_more : 10 * value + (b - 48) ≤ 4294967295 → Reading text (10 * value + (b - 48)) (i + 1)
      reading_more g =
          record {
            some = r.some;
            reached = omega arith;
            small = omega arith;
            figures = rw add-one figures_on;
            reads = rw add-one reads_on;
          }

  -- all bytes are read
  module _ {value i : ℕ} (r : Reading text value i) (h : length text ≤ i) where
    all_read : all_figures text ≡ true
    unfolding all_figures
    all_read = r.figures ∙ ap all_figures (drop_of_length-le text h)

    value_is : read_decimal text ≡ value
    unfolding read_after
    value_is = r.reads ∙ ap (read_after value) (drop_of_length-le text h)

    is_one : is_number text ≡ true
    unfolding is_number
    is_one = rw (ne_eqb (length text) 0 r.some, all_read, value_is, lt-ltb value 4294967296 r.small)

    pub reading_end : Some value ≡ number_in text
    unfolding number_in
    reading_end = rw (is_one, value_is)
