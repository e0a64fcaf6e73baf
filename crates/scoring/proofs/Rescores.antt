-- A score moved by k times a product, in an i64, and all scores moved in their place. Assumes nothing.
use mathlib.Core.Path.{◌≡◌, refl, sym, ◌∙◌}
use mathlib.Core.Bool.{true, false}
use mathlib.Core.List.{List, [], ◌∷◌, ◌++◌}
use Prim.Native.Nat.{ℕ, zero, suc, ◌+◌, ◌≤◌, ◌<◌}
use native.Mathlib.Omega.{arith}
use lib.IntN.{ℤ, pos, nat_abs, ◌+ℤ◌, ◌*ℤ◌}
use lib.Signed.{lt_z}
use lib.ListN.{length, get_or, set, take, drop}
use lib.Seq.{length-take-le, get_or-take}
use mir.Syntax.{w32, w64}
use mir.Val.{SFits, to_z, of_z}
use mir.Facts.{to_z-of_z, to_z_pos}
use Rattle.integers.proofs.Bounds.{fits, read, abs_add, abs_mul_le}
use Rattle.integers.proofs.Filling.{Filled, filled_start, filled_long, filled_later, filled_more, filled_end}
use Rattle.frank_wolfe.specs.Vectors.{add, scale}
use Rattle.frank_wolfe.proofs.Vectors.{length_add, length_scale}
use Rattle.sums.specs.Operands.{ScoreSized, Rescorable}
use Rattle.scoring.specs.declared.Least.{Least}
use Rattle.scoring.specs.Scores.{least_of}
use Rattle.sums.proofs.Sums.{cast_fits, cast_read}
use Rattle.scoring.proofs.Scans.{Ahead, ahead_first, ahead_better, ahead_same, ahead_end}
use Rattle.files.specs.Limits.{total_limit}

module _ {b : ℤ} {k : ℕ} {p : ℤ} (z : ScoreSized b k p) where
  -- k p, and b + k p, as the machine has them
  abbrev change : ℤ
  change = to_z w64 k *ℤ to_z w64 (of_z w64 (to_z w32 (of_z w32 p)))

  abbrev score : ℤ
  score = to_z w64 (of_z w64 b) +ℤ to_z w64 (of_z w64 change)

  pub product_cast : SFits w64 (to_z w32 (of_z w32 p))
  product_cast = cast_fits p 512000000 z.product_size tt

  change_is : change ≡ pos k *ℤ p
  change_is = rw (to_z_pos w64 {n = k} (omega (arith, z.few_shares)), cast_read p 512000000 z.product_size tt)

  change_size : nat_abs (pos k *ℤ p) ≤ 33269760000000
  change_size = abs_mul_le (pos k) p total_limit 512000000 z.few_shares z.product_size

  pub change_fits : SFits w64 change
  change_fits = rw change_is (fits w64 33269760000000 change_size tt)

  score_is : score ≡ b +ℤ pos k *ℤ p
  score_is = rw (read w64 {z = b} 33269760000000 z.score_size tt, to_z-of_z change_fits, change_is)

  pub score_fits : SFits w64 score
  score_fits = rw score_is (fits w64 66539520000000 (omega (arith, abs_add b (pos k *ℤ p), change_size, z.score_size)) tt)

  pub score_read : to_z w64 (of_z w64 score) ≡ b +ℤ pos k *ℤ p
  score_read = to_z-of_z score_fits ∙ score_is

  -- the same where the score and the product are read from memory
  abbrev b' : ℤ
  b' = to_z w64 (of_z w64 b)

  abbrev p' : ℤ
  p' = to_z w32 (of_z w32 p)

  b_read : b' ≡ b
  b_read = read w64 33269760000000 z.score_size tt

  p_read : p' ≡ p
  p_read = read w32 512000000 z.product_size tt

  pub read_sized : ScoreSized b' k p'
  read_sized = rw (b_read, p_read) z

  pub read_moved : {s : ℤ} → s ≡ b' +ℤ pos k *ℤ p' → s ≡ b +ℤ pos k *ℤ p
  read_moved es = es ∙ rw (b_read, p_read)

entry_moved : (x y : List ℤ) (k i : ℕ) → length x ≡ length y → i < length x → get_or (add x (scale k y)) i (pos 0) ≡ get_or x i (pos 0) +ℤ pos k *ℤ get_or y i (pos 0)
unfolding add scale
entry_moved [] y k i e h = absurd (omega arith)
entry_moved (a ∷ x) [] k i e h = absurd (omega arith)
entry_moved (a ∷ x) (b ∷ y) k zero e h = refl
entry_moved (a ∷ x) (b ∷ y) k (suc i) e h = entry_moved x y k i (omega arith) (omega arith)

-- in a loop the first i of n scores are moved, and the least of them is known
abbrev pub Rescored : (old : List ℤ) → (k : ℕ) → (products : List ℤ) → (n best : ℕ) → (low : ℤ) → (i : ℕ) → (new : List ℤ) → Type 0
Rescored old k products n best low i new =
    Filled old (add (take n old) (scale k (take n products))) i new × Ahead (add (take n old) (scale k (take n products))) best low i

module _ {old : List ℤ} {k : ℕ} {products : List ℤ} {n : ℕ} (z : Rescorable old k products n) where
  -- the scores moved
  abbrev moved : List ℤ
  moved = add (take n old) (scale k (take n products))

  front_old : length (take n old) ≡ n
  front_old = length-take-le n old z.in_scores

  front_products : length (take n products) ≡ n
  front_products = length-take-le n products z.in_products

  count : length moved ≡ n
  count = length_add (take n old) (scale k (take n products)) (front_old ∙ sym (length_scale k (take n products) ∙ front_products)) ∙ front_old

  moved_at : (i : ℕ) → i < n → get_or moved i (pos 0) ≡ get_or old i (pos 0) +ℤ pos k *ℤ get_or products i (pos 0)
  moved_at i h =
      entry_moved (take n old) (take n products) k i (front_old ∙ sym front_products) (rw front_old h)
      ∙ rw (get_or-take n old i (pos 0) h, get_or-take n products i (pos 0) h)

  -- ---- The loop

  pub rescored_long : {best : ℕ} {low : ℤ} {i : ℕ} {new : List ℤ} → Rescored old k products n best low i new → length new ≡ length old
  rescored_long r = filled_long r.0 (rw count z.in_scores)

  -- a score that is not moved yet, with its product, keeps to the machine's numbers
  pub sized_at : {i : ℕ} {new : List ℤ} → Filled old moved i new → i < n → ScoreSized (get_or new i (pos 0)) k (get_or products i (pos 0))
  sized_at {i} f h = rw (filled_later f (rw count z.in_scores) (pos 0) i (omega arith)) (z.each i h)

  score_there : {i : ℕ} {new : List ℤ} → Filled old moved i new → i < n → {s : ℤ} → s ≡ get_or new i (pos 0) +ℤ pos k *ℤ get_or products i (pos 0) → s ≡ get_or moved i (pos 0)
  score_there {i} f h es = es ∙ rw (filled_later f (rw count z.in_scores) (pos 0) i (omega arith)) (sym (moved_at i h))

  pub rescored_start : {low s : ℤ} → s ≡ get_or old 0 (pos 0) +ℤ pos k *ℤ get_or products 0 (pos 0) → low ≡ s → Rescored old k products n 0 low 0 old
  rescored_start es e =
      let f : Filled old moved 0 old = filled_start in
      (f, ahead_first (rw count z.some_boats) (e ∙ score_there f z.some_boats es))

  module _ {best : ℕ} {low : ℤ} {i : ℕ} {new : List ℤ} (r : Rescored old k products n best low i new) where
    module _ (h : i < n) {s x : ℤ} (es : s ≡ get_or new i (pos 0) +ℤ pos k *ℤ get_or products i (pos 0)) (ex : x ≡ s) where
      stored : Filled old moved (i + 1) (set new i x)
      stored = filled_more r.0 (rw count z.in_scores) (pos 0) (rw count h) (ex ∙ score_there r.0 h es)

      pub rescored_better : {low' : ℤ} → low' ≡ s → lt_z s low ≡ true → Rescored old k products n i low' (i + 1) (set new i x)
      rescored_better e t = (stored, ahead_better r.1 (rw count h) (score_there r.0 h es) e t)

      pub rescored_same : lt_z s low ≡ false → Rescored old k products n best low (i + 1) (set new i x)
      rescored_same t = (stored, ahead_same r.1 (rw count h) (score_there r.0 h es) t)

    pub rescored_end : n ≤ i → (◌≡◌ {A = Least} (record { boat = best; score = low }) (least_of moved)) × (new ≡ moved ++ drop n old)
    rescored_end h = (ahead_end r.1 (rw count h) refl, (let f = filled_end r.0 (rw count h) in rw count at f))
