-- What a run keeps from step to step: the shares, the scores and the memory of products. Assumes nothing.
use Rattle.std.specs.Prelude.{◌≡◌, cond, List, ℕ, zero, suc, ◌+◌, ◌*◌, ◌-◌, ◌≤◌, ◌<◌, eqb, ltb, length, get_or, set, take, drop, replicate, ℤ, pos}
use Rattle.std.proofs.Math.Seq.{paste}
use Rattle.files.specs.Book.{boats, columns, rows}
use Rattle.files.specs.Sheet.{sheet}
use Rattle.frank_wolfe.specs.Vectors.{ones}
use Rattle.method.specs.Problem.{Schedule, allowed_steps}
use Rattle.method.specs.Plain.{plain_problem}
use Rattle.method.specs.Iterates.{scores, residual}
use Rattle.method.specs.Answers.{steps_from, steps_used}
use Rattle.iteration.specs.declared.State.{State}
use Rattle.iteration.specs.States.{iterate_of, pick_at, boat_products, target_product, Holds}

-- the state holds an iterate that did not stop the run, and steps are left
pub record Going (a : Schedule) (b s : List ℕ) (x : State) : Type 0 where
  pub held : Holds a b s x.steps x
  pub left : x.steps < allowed_steps a (sheet s).steps
  pub undecided : steps_from (allowed_steps a (sheet s).steps - x.steps) x.steps (plain_problem a b s) (iterate_of a b s x.steps) ≡ steps_used (plain_problem a b s)

-- the first slots are the shares of the iterate after t steps, one a boat
pub record SharesAt (a : Schedule) (b s : List ℕ) (t : ℕ) (qs : List ℕ) : Type 0 where
  pub room : boats b ≤ length qs
  pub are : take (boats b) qs ≡ (iterate_of a b s t).shares

-- the first slots are the scores under the residual after t steps, one a boat
pub record ScoresAt (a : Schedule) (b s : List ℕ) (t : ℕ) (ps : List ℤ) : Type 0 where
  pub room : boats b ≤ length ps
  pub are : take (boats b) ps ≡ scores (ones (columns b)) (residual (plain_problem a b s) t (iterate_of a b s t)) (rows b)

-- the first slots are the products of a boat's row less the target with every row
pub record Products (b s : List ℕ) (boat : ℕ) (ps : List ℤ) : Type 0 where
  pub room : boats b ≤ length ps
  pub are : take (boats b) ps ≡ boat_products b s boat

-- ---- The memory of products

-- 64 slots for the products of a boat with every row, and 64 for that with the target. The tags have for each of 256 boats its slot,
-- counted from 1, or 0 for none, and behind them how many slots are taken
pub record Memory : Type 0 where
  pub tags : List ℕ
  pub targets : List ℤ
  pub products : List ℤ

abbrev pub memory_of : (tags : List ℕ) → (targets products : List ℤ) → Memory
memory_of ts us ps = record { tags = ts; targets = us; products = ps }

abbrev pub taken : Memory → ℕ
taken m = get_or m.tags 256 0

-- the slot for a boat: its own, or the next one
unfoldable pub slot_of : (boat : ℕ) → Memory → ℕ
slot_of i m = cond (eqb (get_or m.tags i 0) 0) (taken m) (get_or m.tags i 0 - 1)

-- a boat takes slot k; the last is nobody's, and serves all boats that come when the others are taken
unfoldable pub tagged : (boat k : ℕ) → (tags : List ℕ) → List ℕ
tagged i k ts = cond (ltb k 63) (set (set ts i (k + 1)) 256 (k + 1)) ts

-- with a boat's products, as it was where the boat has a slot
unfoldable pub remembering : (b s : List ℕ) → (boat : ℕ) → Memory → Memory
remembering b s i m =
    cond (eqb (get_or m.tags i 0) 0)
    (memory_of (tagged i (taken m) m.tags) (set m.targets (taken m) (target_product b s i)) (paste m.products (taken m * boats b) (boat_products b s i) (boats b)))
    m

-- after t steps of a run that starts with these numbers and no boat in a slot
unfoldable pub memory_after : Schedule → (b s : List ℕ) → (t : ℕ) → (products : List ℤ) → Memory
memory_after a b s zero ps = memory_of (replicate 257 0) (replicate 64 (pos 0)) ps
memory_after a b s (suc t) ps = remembering b s (pick_at a b s t) (memory_after a b s t ps)

-- where a boat has a slot, its products are there; the slots taken are the first ones, and the last is not
pub record Remembered (b s : List ℕ) (m : Memory) : Type 0 where
  pub tags_long : length m.tags ≡ 257
  pub targets_long : length m.targets ≡ 64
  pub room : 64 * boats b ≤ length m.products
  pub few : taken m ≤ 63
  pub below : (i j : ℕ) → i < boats b → get_or m.tags i 0 ≡ suc j → j < taken m
  pub targets : (i j : ℕ) → i < boats b → get_or m.tags i 0 ≡ suc j → get_or m.targets j (pos 0) ≡ target_product b s i
  pub products : (i j : ℕ) → i < boats b → get_or m.tags i 0 ≡ suc j → Products b s i (drop (j * boats b) m.products)
