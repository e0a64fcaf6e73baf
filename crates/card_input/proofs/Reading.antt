-- The tests of a card's form, as the code has them, are those of the definitions.
use mathlib.Core.Path.{◌≡◌, refl, sym, ap, ◌∙◌}
use mathlib.Core.Bool.{Bool, true, false, ◌||◌, not}
use mathlib.Core.List.{List}
use Prim.Native.Nat.{ℕ, zero, suc, ◌*◌, ◌-◌, ◌/◌, ◌%◌, ◌≤◌, ◌<◌}
use native.Mathlib.Omega.{arith}
use borrow.Author.Tests.{eq-eqb, ne_eqb, le-leb, lt-leb, lt-ltb, le-ltb, not-true, not-false}
use lib.Dec.{eqb, leb, ltb}
use lib.ListN.{length, take, drop}
use Rattle.files.specs.Bytes.{number, same, between, length_in_range, trailer, body, reaches}
use Rattle.files.proofs.Numbers.{number_in_trailer, drop_trailer}
use Rattle.files.specs.Limits.{file_limit}
use Rattle.method.specs.declared.Test.TheVariants.{Former, Sharper}
use Rattle.card_format.specs.Format.{WCD1, WCD2, letters, fields, card_fields, lettered, card_test, card_body, pair_count, shares_into}
use Rattle.card_format.specs.Checks.{back_fits, pairs_in_order, counts_agree, steps_fit, form_refusal}
use Rattle.card_format.proofs.Accepted.{BackFits, back_means}
use Rattle.card_pairs.proofs.Pairs.{order_take, into_take}

-- ---- Fields

module _ (w : List ℕ) (h : 36 ≤ length w) where
  pub back_at : (card_fields w).back ≡ number (length w - 36) 4 w
  unfolding card_fields fields
  back_at = number_in_trailer 36 0 4 (length w - 36) w (omega arith)

  pub verdict_at : (card_fields w).verdict ≡ number (length w - 32) 2 w
  unfolding card_fields fields
  verdict_at = number_in_trailer 36 4 2 (length w - 32) w (omega arith)

  pub steps_at : (card_fields w).steps ≡ number (length w - 30) 2 w
  unfolding card_fields fields
  steps_at = number_in_trailer 36 6 2 (length w - 30) w (omega arith)

  pub tolerance_at : (card_fields w).tolerance ≡ number (length w - 28) 4 w
  unfolding card_fields fields
  tolerance_at = number_in_trailer 36 8 4 (length w - 28) w (omega arith)

  pub distance_at : (card_fields w).distance ≡ number (length w - 24) 8 w
  unfolding card_fields fields
  distance_at = number_in_trailer 36 12 8 (length w - 24) w (omega arith)

  pub gap_at : (card_fields w).gap ≡ number (length w - 16) 8 w
  unfolding card_fields fields
  gap_at = number_in_trailer 36 20 8 (length w - 16) w (omega arith)

  pub boats_at : (card_fields w).boats ≡ number (length w - 8) 2 w
  unfolding card_fields fields
  boats_at = number_in_trailer 36 28 2 (length w - 8) w (omega arith)

  pub columns_at : (card_fields w).columns ≡ number (length w - 6) 2 w
  unfolding card_fields fields
  columns_at = number_in_trailer 36 30 2 (length w - 6) w (omega arith)

  pub letters_at : drop 32 (trailer 36 w) ≡ drop (length w - 4) w
  letters_at = drop_trailer 36 32 (length w - 4) w (omega arith)

-- ---- The letters, as the file's last four bytes

module _ (w : List ℕ) (h : 36 ≤ length w) where
  former_is : lettered Former w ≡ same (drop (length w - 4) w) WCD1
  unfolding lettered letters
  former_is = ap (λ l. same l WCD1) (letters_at w h)

  sharper_is : lettered Sharper w ≡ same (drop (length w - 4) w) WCD2
  unfolding lettered letters
  sharper_is = ap (λ l. same l WCD2) (letters_at w h)

  module _ {g : Bool} (e : g ≡ same (drop (length w - 4) w) WCD1) where
    pub former_lettered : g ≡ true → true ≡ lettered Former w || lettered Sharper w
    former_lettered t = rw (former_is ∙ sym e ∙ t)

    pub other_lettered : g ≡ false → {k : Bool} → k ≡ same (drop (length w - 4) w) WCD2 → k ≡ lettered Former w || lettered Sharper w
    other_lettered t f = f ∙ sym sharper_is ∙ rw (former_is ∙ sym e ∙ t)

  module _ {g : Bool} (e : g ≡ same (drop (length w - 4) w) WCD2) where
    pub tested_sharper : g ≡ true → Sharper ≡ card_test w
    unfolding card_test
    tested_sharper t = rw (sharper_is ∙ sym e ∙ t)

    pub tested_former : g ≡ false → Former ≡ card_test w
    unfolding card_test
    tested_former t = rw (sharper_is ∙ sym e ∙ t)

-- ---- Tests

module _ (n c : ℕ) (w : List ℕ) (h : 36 ≤ length w) (x : ℕ) (ex : x ≡ number (length w - 8) 2 w) where
  pub counts_differ : (x ≡ n → ⊥) → false ≡ counts_agree n c w
  unfolding counts_agree
  counts_differ k = simp (boats_at w h, ← ex, ne_eqb _ _ k)

  pub counts_same : x ≡ n → (y : ℕ) → y ≡ number (length w - 6) 2 w → eqb y c ≡ counts_agree n c w
  unfolding counts_agree
  counts_same k y ey = simp (boats_at w h, ← ex, eq-eqb _ _ k, columns_at w h, ← ey)

module _ (steps : ℕ) (w : List ℕ) (h : 36 ≤ length w) (x : ℕ) (ex : x ≡ number (length w - 32) 2 w) (g : Bool) (eg : g ≡ between 1 3 x) where
  pub steps_out : not g ≡ true → false ≡ steps_fit steps w
  unfolding steps_fit
  steps_out k = simp (verdict_at w h, ← ex, ← eg, not-true g k)

  pub steps_tested : not g ≡ false → (y : ℕ) → y ≡ (card_fields w).steps → (r : Bool) → r ≡ between 1 steps y → r ≡ steps_fit steps w
  unfolding steps_fit
  steps_tested k y ey r er = er ∙ simp (verdict_at w h, ← ex, ← eg, not-false g k, ← ey)

module _ (n : ℕ) (w : List ℕ) (h : 36 ≤ length w) (back : ℕ) (eb : back ≡ number (length w - 36) 4 w) where
  pub back_zero : back ≡ 0 → false ≡ back_fits n (card_fields w).back w
  unfolding back_fits
  back_zero k = simp (back_at w h, ← eb, le-ltb 0 back (omega arith))

  module _ (some : back ≡ 0 → ⊥) where
    positive : ltb 0 back ≡ true
    positive = by back some
      where
        by : (b : ℕ) → (b ≡ 0 → ⊥) → ltb 0 b ≡ true
        by zero k = absurd (k refl)
        by (suc b) k = lt-ltb 0 (suc b) (omega arith)

    pub back_uneven : (back % 4 ≡ 0 → ⊥) → false ≡ back_fits n (card_fields w).back w
    unfolding back_fits
    back_uneven k = simp (back_at w h, ← eb, positive, ne_eqb _ _ k)

    module _ (even : back % 4 ≡ 0) where
      pub back_many : 4 * n < back → false ≡ back_fits n (card_fields w).back w
      unfolding back_fits
      back_many k = simp (back_at w h, ← eb, positive, eq-eqb _ _ even, lt-leb _ _ k)

      pub back_last : back ≤ 4 * n → leb back (length w - 36) ≡ back_fits n (card_fields w).back w
      unfolding back_fits reaches
      back_last k = simp (back_at w h, ← eb, positive, eq-eqb _ _ even, le-leb _ _ k)

pub count_at : (w : List ℕ) → 36 ≤ length w → (x : ℕ) → x ≡ number (length w - 36) 4 w → x / 4 ≡ pair_count w
unfolding pair_count
count_at w h x e = ap (λ n. n / 4) (e ∙ sym (back_at w h))

-- ---- The body

module _ {n : ℕ} {w : List ℕ} (f : BackFits n (card_fields w).back w) where
  pub back_fours : (card_fields w).back ≡ 4 * pair_count w
  unfolding pair_count
  back_fours = omega (arith, f.fours)

  pub body_at : card_body w ≡ take (4 * pair_count w) (drop (length w - 36 - 4 * pair_count w) w)
  unfolding card_body body
  body_at = rw back_fours

  pub order_at : pairs_in_order (pair_count w) 0 n (drop (length w - 36 - 4 * pair_count w) w) ≡ pairs_in_order (pair_count w) 0 n (card_body w)
  order_at = sym (ap (pairs_in_order (pair_count w) 0 n) body_at ∙ order_take (pair_count w) 0 n _)

  pub into_at : (qs : List ℕ) → shares_into (pair_count w) (drop (length w - 36 - 4 * pair_count w) w) qs ≡ shares_into (pair_count w) (card_body w) qs
  into_at qs = sym (ap (λ l. shares_into (pair_count w) l qs) body_at ∙ into_take (pair_count w) _ qs)

-- ---- The refusal of a card's form, test by test; each law's premises are the facts as the code has them at one of its returns
module _ (n c steps : ℕ) (w : List ℕ) (g₁ : Bool) (e₁ : g₁ ≡ between 36 file_limit (length w)) where
  pub length_out : not g₁ ≡ true → 31 ≡ form_refusal n c steps w
  unfolding form_refusal length_in_range
  length_out t = simp (← e₁, not-true g₁ t)

  module _ (t₁ : not g₁ ≡ false) (g₂ : Bool) (e₂ : g₂ ≡ lettered Former w || lettered Sharper w) where
    pub letters_differ : not g₂ ≡ true → 32 ≡ form_refusal n c steps w
    unfolding form_refusal length_in_range
    letters_differ t = simp (← e₁, not-false g₁ t₁, ← e₂, not-true g₂ t)

    module _ (t₂ : not g₂ ≡ false) (g₃ : Bool) (e₃ : g₃ ≡ counts_agree n c w) where
      pub counts_out : not g₃ ≡ true → 33 ≡ form_refusal n c steps w
      unfolding form_refusal length_in_range
      counts_out t = simp (← e₁, not-false g₁ t₁, ← e₂, not-false g₂ t₂, ← e₃, not-true g₃ t)

      module _ (t₃ : not g₃ ≡ false) (g₄ : Bool) (e₄ : g₄ ≡ steps_fit steps w) where
        pub steps_refused : not g₄ ≡ true → 34 ≡ form_refusal n c steps w
        unfolding form_refusal length_in_range
        steps_refused t = simp (← e₁, not-false g₁ t₁, ← e₂, not-false g₂ t₂, ← e₃, not-false g₃ t₃, ← e₄, not-true g₄ t)

        module _ (t₄ : not g₄ ≡ false) (g₅ : Bool) (e₅ : g₅ ≡ back_fits n (card_fields w).back w) where
          pub back_refused : not g₅ ≡ true → 35 ≡ form_refusal n c steps w
          unfolding form_refusal length_in_range
          back_refused t = simp (← e₁, not-false g₁ t₁, ← e₂, not-false g₂ t₂, ← e₃, not-false g₃ t₃, ← e₄, not-false g₄ t₄, ← e₅, not-true g₅ t)

          module _ (t₅ : not g₅ ≡ false) (k : ℕ) (ek : k ≡ pair_count w) (g₆ : Bool) (e₆ : g₆ ≡ pairs_in_order k 0 n (drop (length w - 36 - 4 * k) w)) where
            ordered_is : pairs_in_order (pair_count w) 0 n (card_body w) ≡ g₆
            ordered_is = sym (e₆ ∙ rw ek (order_at (back_means n (card_fields w).back w (sym e₅ ∙ not-false g₅ t₅))))

            pub pairs_refused : not g₆ ≡ true → 36 ≡ form_refusal n c steps w
            unfolding form_refusal length_in_range
            pairs_refused t = simp (← e₁, not-false g₁ t₁, ← e₂, not-false g₂ t₂, ← e₃, not-false g₃ t₃, ← e₄, not-false g₄ t₄, ← e₅, not-false g₅ t₅, ordered_is, not-true g₆ t)

            pub form_right : not g₆ ≡ false → 0 ≡ form_refusal n c steps w
            unfolding form_refusal length_in_range
            form_right t = simp (← e₁, not-false g₁ t₁, ← e₂, not-false g₂ t₂, ← e₃, not-false g₃ t₃, ← e₄, not-false g₄ t₄, ← e₅, not-false g₅ t₅, ordered_is, not-false g₆ t)

-- the pairs stand before the trailer
pub body_room : (n : ℕ) (w : List ℕ) (g : Bool) → g ≡ back_fits n (card_fields w).back w → not g ≡ false → (k : ℕ) → k ≡ pair_count w → 4 * k ≤ length w - 36
body_room n w g e t k ek =
    let f = back_means n (card_fields w).back w (sym e ∙ not-false g t) in
    omega (arith, f.inside, back_fours f)
