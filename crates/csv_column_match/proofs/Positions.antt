-- The positions of columns put one after the other.
use mathlib.Core.Path.{◌≡◌, refl, ap, ◌∙◌}
use mathlib.Core.List.{List, [], ◌∷◌, ◌++◌}
use Prim.Native.Nat.{ℕ, zero, suc, ◌+◌, ◌-◌, ◌≤◌, ◌<◌}
use native.Mathlib.Numerals.{add-one}
use native.Mathlib.Omega.{arith}
use lib.ListN.{length, get_or, set}
use Rattle.buffers.specs.Placed.{placed}
use Rattle.buffers.proofs.Placing.{placed_set}
use Rattle.buffers.proofs.Writing.{Writing, writing_start, writing_more, writing_end}
use Rattle.csv_column_match.specs.Match.{position, positions_from, positions}

module _ (n : ℕ) (fleet csv : List ℕ) where
  from_long : (j k : ℕ) → length (positions_from n j k fleet csv) ≡ k
  unfolding positions_from
  from_long j zero = refl
  from_long j (suc k) = ap suc (from_long (suc j) k)

  pub positions_long : (m : ℕ) → length (positions m n fleet csv) ≡ m
  unfolding positions
  positions_long m = from_long 1 m

  from_at : (j k i : ℕ) → i < k → get_or (positions_from n j k fleet csv) i 0 ≡ position n (j + i) fleet csv
  unfolding positions_from
  from_at j zero i h = absurd (omega arith)
  from_at j (suc k) zero h = ap (λ (x : ℕ). position n x fleet csv) (omega arith)
  from_at j (suc k) (suc i) h = from_at (suc j) k i (omega arith) ∙ ap (λ (x : ℕ). position n x fleet csv) (omega arith)

  pub position_at : (m i : ℕ) → i < m → get_or (positions m n fleet csv) i 0 ≡ position n (i + 1) fleet csv
  unfolding positions
  position_at m i h = from_at 1 m i h ∙ ap (λ (x : ℕ). position n x fleet csv) (omega arith)

  -- ---- the first j are put
  pub record PositionsPut (m : ℕ) (out : List ℕ) (j : ℕ) (now : List ℕ) : Type 0 where
    pub within : j ≤ m
    pub so_far : Writing out 0 (positions m n fleet csv) j (positions_from n (j + 1) (m - j) fleet csv) now

  pub positions_start : (m : ℕ) (out : List ℕ) → PositionsPut m out 0 out
  unfolding positions
  positions_start m out =
      let e : m - 0 ≡ m = omega arith in
      record { within = omega arith; so_far = rw e writing_start }

  next_from : (j k : ℕ) → positions_from n j (suc k) fleet csv ≡ (position n j fleet csv ∷ []) ++ positions_from n (suc j) k fleet csv
  unfolding positions_from
  next_from j k = refl

  module _ {m : ℕ} {out : List ℕ} {j : ℕ} {now : List ℕ} (d : PositionsPut m out j now) (l : m ≤ length out) where
    pub positions_more : j < m → {p : ℕ} → p ≡ position n (j + 1) fleet csv → PositionsPut m out (j + 1) (set now j p)
    positions_more h {p} e =
        let q : m - j ≡ suc (m - (j + 1)) = omega arith in
        let s : positions_from n (j + 1) (m - j) fleet csv ≡ (p ∷ []) ++ positions_from n (j + 1 + 1) (m - (j + 1)) fleet csv = rw (q, e) (next_from (j + 1) (m - (j + 1)) ∙ rw (add-one (j + 1))) in
        record {
          within = omega arith;
          so_far = writing_more d.so_far (p ∷ []) _ s (omega (arith, positions_long m)) refl (placed_set now j p (omega (arith, d.so_far.long)));
        }

    pub positions_end : m ≤ j → now ≡ placed out 0 (positions m n fleet csv)
    unfolding positions_from
    positions_end h = let q : m - j ≡ 0 = omega arith in writing_end d.so_far (rw q)
