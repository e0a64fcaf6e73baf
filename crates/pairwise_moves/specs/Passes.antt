-- What the passes over the boats give back, and what a move asks of its operands. Definitions only. Assumes nothing.
use Rattle.std.specs.Prelude.{◌≡◌, Bool, cond, List, [], ◌∷◌, ℕ, suc, ◌+◌, ◌*◌, ◌-◌, ◌≤◌, ◌<◌, eqb, ℤ, pos, nat_abs, ◌+ℤ◌, ◌-ℤ◌, ◌*ℤ◌, length, get_or, set, drop, ◌≤ℤ◌}
use Rattle.files.specs.Book.{boats}
use Rattle.files.specs.Limits.{total_limit}
use Rattle.sums.specs.Operands.{Bounded}
use Rattle.run_loop.specs.Runs.{Products}
use Rattle.pairwise.specs.Moves.{foremost, greater, less}
use Rattle.pairwise_moves.specs.declared.Pair.{Pair}
use Rattle.pairwise_moves.specs.declared.Found.{Found}

-- of the boats that hold shares the one of greatest score and the one of least, by these shares and scores
unfoldable pub pair_of : (shares : List ℕ) → (scores : List ℤ) → Pair
pair_of qs ps = record { from = foremost greater (length qs) qs ps; to = foremost less (length qs) qs ps }

-- boat i where its score comes before that of the boat found; else the boat found
unfoldable pub ahead : (before : ℤ → ℤ → Bool) → Found → (i : ℕ) → (score : ℤ) → Found
ahead before f i p = cond (before p f.score) (record { boat = i; score = p }) f

-- the scores of the boats that hold shares, moved by m times their products; the others as they were
unfoldable pub held_moved : (m : ℕ) → (shares : List ℕ) → (products scores : List ℤ) → List ℤ
held_moved m [] xs ps = ps
held_moved m (q ∷ qs) [] ps = ps
held_moved m (q ∷ qs) (x ∷ xs) [] = []
held_moved m (q ∷ qs) (x ∷ xs) (p ∷ ps) = cond (eqb q 0) p (p +ℤ pos m *ℤ x) ∷ held_moved m qs xs ps

-- ---- The list of the boats that hold shares

-- boats from k on and before i hold none
abbrev pub Idle : (shares : List ℕ) → (k i : ℕ) → Type 0
Idle qs k i = (x : ℕ) → k ≤ x → x < i → get_or qs x 0 ≡ 0

-- boats in order, of those from k on and before n, up to n itself; those that are not there hold none
unfoldable pub Lists : (shares : List ℕ) → (n k : ℕ) → (list : List ℕ) → Type 0
Lists qs n k [] = ⊥
Lists qs n k (i ∷ l) = (k ≤ i) × ((i ≤ n) × (Idle qs k i × (i < n → Lists qs n (suc i) l)))

-- the list has every boat of the first n that holds shares, in order, and n behind them
pub record Listed (shares : List ℕ) (n : ℕ) (list : List ℕ) : Type 0 where
  pub all : Lists shares n 0 list

-- ---- The memory of products

-- for each boat that holds shares its products with every row, from the slot on that is the boat's
pub record HeldProducts (b s : List ℕ) (shares : List ℕ) (memory : List ℤ) : Type 0 where
  pub room : boats b * boats b ≤ length memory
  pub each : (i : ℕ) → i < boats b → 1 ≤ get_or shares i 0 → Products b s i (drop (i * boats b) memory)

-- ---- What a move asks of its operands

-- the difference of two scores, which is not below 0, keeps to 63 bits
pub record SlopeSized (a b : ℤ) : Type 0 where
  pub first : nat_abs a ≤ 33269760000000
  pub second : nat_abs b ≤ 33269760000000
  pub sign : pos 0 ≤ℤ (a -ℤ b)

-- of two rows of products in the memory, the i-th of each is there, and these and their difference are products of rows
pub record Differ (memory : List ℤ) (takes gives i : ℕ) : Type 0 where
  pub in_takes : takes + i < length memory
  pub in_gives : gives + i < length memory
  pub take_size : nat_abs (get_or memory (takes + i) (pos 0)) ≤ 512000000
  pub give_size : nat_abs (get_or memory (gives + i) (pos 0)) ≤ 512000000
  pub size : nat_abs (get_or memory (takes + i) (pos 0) -ℤ get_or memory (gives + i) (pos 0)) ≤ 512000000

-- what the first row is above the second is not less at `to` than at `from`
pub record ApartSized (memory : List ℤ) (takes gives from to : ℕ) : Type 0 where
  pub at_from : Differ memory takes gives from
  pub at_to : Differ memory takes gives to
  pub sign : pos 0 ≤ℤ ((get_or memory (takes + to) (pos 0) -ℤ get_or memory (gives + to) (pos 0)) -ℤ (get_or memory (takes + from) (pos 0) -ℤ get_or memory (gives + from) (pos 0)))

-- an amount can be found: the rows are apart where the scores differ, and the numbers keep to 63 bits
pub record Divisible (slope apart : ℕ) : Type 0 where
  pub slope_size : slope ≤ 66539520000000
  pub apart_size : apart ≤ 1024000000
  pub some_apart : 1 ≤ slope → 1 ≤ apart

-- m shares can go from one boat to another
pub record Exchangeable (shares : List ℕ) (from to m : ℕ) : Type 0 where
  pub gives : from < length shares
  pub takes : to < length shares
  pub held : m ≤ get_or shares from 0
  pub room : get_or (set shares from (get_or shares from 0 - m)) to 0 + m < 65536

-- a score for each of the boats, a share too, two rows of products, and at most 64,980 shares move
pub record MovableScores (scores : List ℤ) (shares : List ℕ) (boats m : ℕ) (memory : List ℤ) (takes gives : ℕ) : Type 0 where
  pub score_sizes : Bounded 33269760000000 boats scores
  pub in_shares : boats ≤ length shares
  pub few_shares : m ≤ total_limit
  pub takes_room : takes + boats ≤ length memory
  pub gives_room : gives + boats ≤ length memory
  pub products : (i : ℕ) → i < boats → Differ memory takes gives i
