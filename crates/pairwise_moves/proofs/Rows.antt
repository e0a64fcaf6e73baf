-- The products of two boats' rows in the memory: what they differ by is the product of the rows' difference. Over an accepted fleet
-- book b and sheet s. Assumes nothing.
use mathlib.Core.Path.{◌≡◌, sym, ap₂, ◌∙◌}
use mathlib.Core.List.{List, [], ◌∷◌}
use Prim.Native.Nat.{ℕ, ◌+◌, ◌*◌, ◌≤◌, ◌<◌}
use native.Mathlib.Omega.{arith}
use lib.IntN.{ℤ, pos, nat_abs, ◌-ℤ◌}
use lib.ListN.{length, get_or}
use Rattle.integers.proofs.Solver.{◌⊝◌, x₀, x₁, x₂, solve}
use Rattle.files.specs.Book.{boats, columns, rows}
use Rattle.files.specs.Sheet.{sheet, files_refusal}
use Rattle.frank_wolfe.specs.Vectors.{subtract, weighted, inner, squared_norm, ones, sum}
use Rattle.frank_wolfe.proofs.Vectors.{length_subtract, weighted_symmetric, weighted_subtract, weighted_ones}
use Rattle.frank_wolfe.proofs.Mixtures.{nonneg}
use Rattle.method.specs.Iterates.{row}
use Rattle.method.proofs.Entries as E
use Rattle.method.proofs.Argmin.{score_at}
use Rattle.method.proofs.Plain.{few_ones}
use Rattle.iteration.specs.States.{boat_products}
use Rattle.iteration.proofs.States.{book_fits, sheet_fits, product_size}
use Rattle.pairwise_moves.specs.Passes.{HeldProducts, Differ, ApartSized}
use Rattle.pairwise_moves.proofs.Numbers.{apart_is}
use Rattle.pairwise_moves.proofs.Remembering.{row_room, product_at}

module _ (b s : List ℕ) (ok : files_refusal b s ≡ 0) where
  long : (i : ℕ) → i < boats b → length (row (rows b) i) ≡ columns b
  unfolding row
  long i h = (book_fits b s ok).row_length i h

  entries : (i : ℕ) → E.Bounded 2000 (row (rows b) i)
  unfolding row
  entries i = record { each = λ j. (book_fits b s ok).entry_bound i j }

  -- <v - u, w> - <x - u, w> = <v - x, w>
  pub products_differ : (i j q : ℕ) → i < boats b → j < boats b →
      get_or (boat_products b s i) q (pos 0) -ℤ get_or (boat_products b s j) q (pos 0) ≡ weighted (ones (columns b)) (subtract (row (rows b) i) (row (rows b) j)) (row (rows b) q)
  products_differ i j q hi hj =
      ap₂ (λ x y. x -ℤ y) (along i hi) (along j hj)
      ∙ solve (weighted fs w (row (rows b) i) ∷ weighted fs w (row (rows b) j) ∷ weighted fs w u ∷ []) ((x₀ ⊝ x₂) ⊝ (x₁ ⊝ x₂)) (x₀ ⊝ x₁) tt
      ∙ sym (weighted_subtract fs w (row (rows b) i) (row (rows b) j) (long i hi ∙ sym (long j hj)))
      ∙ weighted_symmetric fs w (subtract (row (rows b) i) (row (rows b) j))
    where
      fs : List ℕ
      fs = ones (columns b)

      u : List ℤ
      u = (sheet s).target

      w : List ℤ
      w = row (rows b) q

      along : (k : ℕ) → k < boats b → get_or (boat_products b s k) q (pos 0) ≡ weighted (ones (columns b)) (row (rows b) q) (row (rows b) k) -ℤ weighted (ones (columns b)) (row (rows b) q) (sheet s).target
      along k hk =
          score_at (ones (columns b)) (subtract (row (rows b) k) (sheet s).target) (rows b) q
          ∙ weighted_symmetric (ones (columns b)) (subtract (row (rows b) k) (sheet s).target) (row (rows b) q)
          ∙ weighted_subtract (ones (columns b)) (row (rows b) q) (row (rows b) k) (sheet s).target (long k hk ∙ sym (sheet_fits b s ok).target_length)

  difference_size : (i j q : ℕ) → nat_abs (weighted (ones (columns b)) (subtract (row (rows b) i) (row (rows b) j)) (row (rows b) q)) ≤ 512000000
  difference_size i j q =
      let m : nat_abs (weighted (ones (columns b)) (subtract (row (rows b) i) (row (rows b) j)) (row (rows b) q)) ≤ sum (ones (columns b)) * (4000 * 2000) =
      E.weighted_bound (ones (columns b)) 4000 2000 (subtract (row (rows b) i) (row (rows b) j)) (row (rows b) q) (E.bounded_subtract (entries i) (entries j)) (entries q) in
      omega (arith, m, few_ones b s ok)

  -- |v - s|², of the rows v of boat j and s of boat i
  products_apart : (i j : ℕ) → i < boats b → j < boats b →
      (get_or (boat_products b s i) i (pos 0) -ℤ get_or (boat_products b s j) i (pos 0)) -ℤ (get_or (boat_products b s i) j (pos 0) -ℤ get_or (boat_products b s j) j (pos 0))
      ≡ pos (squared_norm (subtract (row (rows b) j) (row (rows b) i)))
  products_apart i j hi hj =
      ap₂ (λ x y. x -ℤ y) (products_differ i j i hi hj ∙ plain (row (rows b) i)) (products_differ i j j hi hj ∙ plain (row (rows b) j))
      ∙ apart_is (row (rows b) j) (row (rows b) i) (long j hj ∙ sym (long i hi))
    where
      plain : (w : List ℤ) → weighted (ones (columns b)) (subtract (row (rows b) i) (row (rows b) j)) w ≡ inner (subtract (row (rows b) i) (row (rows b) j)) w
      plain w =
          weighted_ones (columns b) (subtract (row (rows b) i) (row (rows b) j)) w (length_subtract (row (rows b) i) (row (rows b) j) (long i hi ∙ sym (long j hj)) ∙ long i hi)

  -- as they stand in the memory
  module _ {qs : List ℕ} {memory : List ℤ} (r : HeldProducts b s qs memory) (i j : ℕ) (hi : i < boats b) (hj : j < boats b) (some-i : 1 ≤ get_or qs i 0) (some-j : 1 ≤ get_or qs j 0) where
    there : (q : ℕ) → q < boats b → get_or memory (i * boats b + q) (pos 0) -ℤ get_or memory (j * boats b + q) (pos 0) ≡ get_or (boat_products b s i) q (pos 0) -ℤ get_or (boat_products b s j) q (pos 0)
    there q h = ap₂ (λ x y. x -ℤ y) (product_at b s ok r i hi some-i q h) (product_at b s ok r j hj some-j q h)

    pub memory_differ : (q : ℕ) → q < boats b → Differ memory (i * boats b) (j * boats b) q
    memory_differ q h =
        record {
          in_takes = omega (arith, row_room b s ok r i hi some-i);
          in_gives = omega (arith, row_room b s ok r j hj some-j);
          take_size = rw (product_at b s ok r i hi some-i q h) (product_size b s ok i hi q h);
          give_size = rw (product_at b s ok r j hj some-j q h) (product_size b s ok j hj q h);
          size = rw (there q h, products_differ i j q hi hj) (difference_size i j q);
        }

    pub memory_apart : (get_or memory (i * boats b + i) (pos 0) -ℤ get_or memory (j * boats b + i) (pos 0)) -ℤ (get_or memory (i * boats b + j) (pos 0) -ℤ get_or memory (j * boats b + j) (pos 0))
        ≡ pos (squared_norm (subtract (row (rows b) j) (row (rows b) i)))
    memory_apart = ap₂ (λ x y. x -ℤ y) (there i hi) (there j hj) ∙ products_apart i j hi hj

    pub memory_sized : ApartSized memory (i * boats b) (j * boats b) j i
    memory_sized = record { at_from = memory_differ j hj; at_to = memory_differ i hi; sign = rw memory_apart (nonneg (squared_norm (subtract (row (rows b) j) (row (rows b) i)))) }
