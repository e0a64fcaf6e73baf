-- What the sums over columns and the passes over the boats ask of their operands. Definitions only. Assumes nothing.
use Rattle.std.specs.Prelude.{◌≡◌, List, [], ℕ, ◌+◌, ◌*◌, ◌-◌, ◌≤◌, ◌<◌, length, get_or, drop, replicate, ℤ, pos, nat_abs, ◌+ℤ◌, ◌-ℤ◌, ◌*ℤ◌, ◌≤ℤ◌}
use Rattle.files.specs.Limits.{total_limit, entry_limit, sum_limit}

-- there are `count` numbers, and the first `count` are at most so large
pub record Bounded (most count : ℕ) (xs : List ℤ) : Type 0 where
  pub long : count ≤ length xs
  pub each : (i : ℕ) → i < count → nat_abs (get_or xs i (pos 0)) ≤ most

-- the products of the first `count` numbers are at most 8,000,000 = 4,000 × 2,000
pub record Multipliable (count : ℕ) (xs ys : List ℤ) : Type 0 where
  pub each : (i : ℕ) → i < count → nat_abs (get_or xs i (pos 0) *ℤ get_or ys i (pos 0)) ≤ 8000000

-- 64 numbers: the first `count` are at most 4,000, and the others 0
pub record Padded (count : ℕ) (xs : List ℤ) : Type 0 where
  pub entries : Bounded 4000 count xs
  pub zeros : drop count xs ≡ replicate (64 - count) (pos 0)

-- a row of `columns` values at `at` lies inside the bytes
pub record Span (bs : List ℕ) (at columns : ℕ) : Type 0 where
  pub few_columns : columns ≤ 64
  pub inside : at + 2 * columns ≤ length bs

-- so do `boats` rows, at least one
pub record Grid (bs : List ℕ) (at boats columns : ℕ) : Type 0 where
  pub some_boats : 1 ≤ boats
  pub few_boats : boats ≤ 256
  pub few_columns : columns ≤ 64
  pub inside : at + 2 * (boats * columns) ≤ length bs

-- the numbers r stay within 260,000,000 when they move by k (v - u), with v and u in a book's and a sheet's range
pub record Movable (r v u : List ℤ) (columns k : ℕ) : Type 0 where
  pub few_shares : k ≤ total_limit
  pub row_range : Bounded 2000 columns v
  pub target_range : Bounded 2000 columns u
  pub room : (j : ℕ) → j < columns → nat_abs (get_or r j (pos 0)) + 4000 * k ≤ entry_limit

-- E + w (a - b) is not below 0 and all of it keeps to 63 bits
pub record GapSized (e w : ℕ) (a b : ℤ) : Type 0 where
  pub distance : e < sum_limit
  pub few_shares : w ≤ total_limit
  pub first : nat_abs a ≤ 512000000 * w
  pub second : nat_abs b ≤ 512000000 * w
  pub sign : pos 0 ≤ℤ (pos e +ℤ pos w *ℤ (a -ℤ b))

-- every row has `columns` values in a book's range
pub record RowsBounded (rs : List (List ℤ)) (columns : ℕ) : Type 0 where
  pub each_row : (i : ℕ) → i < length rs → Bounded 2000 columns (get_or rs i [])

-- a score and a product that keep to 63 bits when the score moves by k times the product
pub record ScoreSized (score : ℤ) (k : ℕ) (product : ℤ) : Type 0 where
  pub few_shares : k ≤ total_limit
  pub score_size : nat_abs score ≤ 33269760000000
  pub product_size : nat_abs product ≤ 512000000

-- so at each of the boats, of which there is one at least
pub record Rescorable (scores : List ℤ) (k : ℕ) (products : List ℤ) (boats : ℕ) : Type 0 where
  pub some_boats : 1 ≤ boats
  pub in_scores : boats ≤ length scores
  pub in_products : boats ≤ length products
  pub each : (i : ℕ) → i < boats → ScoreSized (get_or scores i (pos 0)) k (get_or products i (pos 0))
