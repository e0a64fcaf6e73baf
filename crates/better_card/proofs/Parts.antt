-- Parts of a card as the code finds them, and products of weights. Assumes nothing.
use mathlib.Core.Path.{◌≡◌, sym, ◌∙◌}
use mathlib.Core.Bool.{Bool, true, false, cond}
use mathlib.Core.List.{List}
use Prim.Native.Nat.{ℕ, ◌+◌, ◌*◌, ◌-◌, ◌^◌, ◌≤◌, ◌<◌}
use native.Mathlib.Omega.{arith}
use native.Mathlib.Nat.{mul-le-mul}
use borrow.Author.Tests.{eq-eqb, ne_eqb}
use lib.Dec.{eqb, ltb}
use lib.ListN.{length, take, drop}
use Rattle.files.specs.Bytes.{number}
use Rattle.method.specs.declared.Answer.{Answer}
use Rattle.card_format.specs.Format.{card_fields}
use Rattle.card_input.proofs.Reading.{back_at}
use Rattle.better_card_promise.specs.declared.Choice.{Choice}
use Rattle.better_card_promise.specs.Choices.{nearer, numbered, bare_choice, part_of, place_of}

-- the square of a number of 32 bits fits 64
square_fits : (w : ℕ) → w < 2 ^ 32 → w * w < 2 ^ 64
square_fits w h = let m : w ≤ 4294967295 = omega arith in let k = mul-le-mul m m in omega arith

pub squares_fit : (a b : Answer) → a.weight < 2 ^ 32 → b.weight < 2 ^ 32 → (a.weight * a.weight < 2 ^ 64) × (b.weight * b.weight < 2 ^ 64)
squares_fit a b h k = (square_fits a.weight h, square_fits b.weight k)

pub nearer_by : (a b : Answer) {r : Bool} → r ≡ ltb (a.distance * (b.weight * b.weight)) (b.distance * (a.weight * a.weight)) → r ≡ nearer a b
unfolding nearer
nearer_by a b e = e

-- ---- Body and trailer

module _ (w : List ℕ) {k : ℕ} (h : (card_fields w).back + 36 ≤ length w) (e : k ≡ number (length w - 36) 4 w) where
  back_is : k ≡ (card_fields w).back
  back_is = e ∙ sym (back_at w (omega arith))

  pub back_room : k ≤ length w - 36
  back_room = omega (arith, back_is)

  pub bare_by : (n : ℕ) → record { refusal = 0; card = n; offset = length w - 36 - k; len = k + 36 } ≡ bare_choice n w
  unfolding bare_choice
  bare_by n = rw back_is

-- ---- The part that a choice names

module _ (c : Choice) (x y : List ℕ) where
  second_is : c.card ≡ 2 → numbered c.card x y ≡ y
  unfolding numbered
  second_is h = rw (eq-eqb c.card 2 h)

  first_is : (c.card ≡ 2 → ⊥) → numbered c.card x y ≡ x
  unfolding numbered
  first_is h = rw (ne_eqb c.card 2 h)

  module _ (fits : c.offset + c.len ≤ length (numbered c.card x y)) where
    pub end_fits : length x < 2 ^ 64 → length y < 2 ^ 64 → c.offset + c.len < 2 ^ 64
    unfolding numbered
    end_fits hx hy = by (eqb c.card 2) fits
      where
        by : (t : Bool) → c.offset + c.len ≤ length (cond t y x) → c.offset + c.len < 2 ^ 64
        by true k = omega arith
        by false k = omega arith

    pub second_ends : c.card ≡ 2 → c.offset + c.len ≤ length y
    second_ends h = rw (second_is h) at fits

    pub first_ends : (c.card ≡ 2 → ⊥) → c.offset + c.len ≤ length x
    first_ends h = rw (first_is h) at fits

  same_length : c.offset + c.len - c.offset ≡ c.len
  same_length = omega arith

  -- its bytes and its place, of cards that start at p and q
  pub second_part : c.card ≡ 2 → (p q : ℕ × ℕ) → (take (c.offset + c.len - c.offset) (drop c.offset y) ≡ part_of c x y) × ((q.0, c.offset + q.1) ≡ place_of c p q)
  unfolding part_of place_of
  second_part h p q = (rw (second_is h, same_length), rw (eq-eqb c.card 2 h))

  pub first_part : (c.card ≡ 2 → ⊥) → (p q : ℕ × ℕ) → (take (c.offset + c.len - c.offset) (drop c.offset x) ≡ part_of c x y) × ((p.0, c.offset + p.1) ≡ place_of c p q)
  unfolding part_of place_of
  first_part h p q = (rw (first_is h, same_length), rw (ne_eqb c.card 2 h))
