-- Where a field is before a place, or there is a fault, no token from there on is a byte of it.
use mathlib.Core.Path.{◌≡◌, refl}
use mathlib.Core.Bool.{Bool, true, false, cond}
use mathlib.Core.List.{List, [], ◌∷◌}
use Prim.Native.Nat.{ℕ, ◌+◌, ◌≤◌, ◌<◌}
use native.Mathlib.Omega.{arith}
use borrow.Author.Tests.{ltb-true, eqb-true, eqb-false, ne_eqb}
use lib.Dec.{ltb, eqb}
use Rattle.csv_fields.specs.Fields.{byte_if}
use Rattle.csv_cells.specs.Cells.{Place, moved, is_in, is_past, cell_from}
use Rattle.csv_cells.proofs.Steps.{moved_faulty, moved_near}

-- ---- the test
-- ---- what it says
data Past (r f : ℕ) (p : Place) : Type 0 where
  wrong : (p.fault ≡ 0 → ⊥) → Past r f p
  beyond : r ≤ p.row → (p.row ≡ r → f < p.field) → Past r f p

past : (r f : ℕ) (p : Place) → is_past r f p ≡ true → Past r f p
unfolding is_past
past r f p = by (eqb p.fault 0) (eqb p.row r) refl refl
  where
    by : (a b : Bool) → eqb p.fault 0 ≡ a → eqb p.row r ≡ b → cond a (cond b (ltb f p.field) (ltb r p.row)) true ≡ true → Past r f p
    by false b z e h = wrong (eqb-false p.fault 0 z)
    by true true z e h = beyond (omega (arith, eqb-true p.row r e)) (λ _. ltb-true f p.field h)
    by true false z e h =
        let l = ltb-true r p.row h in
        beyond (omega arith) (λ q. absurd (omega arith))

-- places never go back
past_moved : {r f : ℕ} {p : Place} → Past r f p → (k : ℕ) → Past r f (moved p k)
past_moved {r} {f} {p} (wrong h) k = rw (← moved_faulty p k h) (wrong h)
past_moved {r} {f} {p} (beyond h i) k =
    let n = moved_near p k in
    beyond (omega arith) (λ q. omega (arith, i (omega arith), n.fields (omega arith)))

past_none : {r f : ℕ} {p : Place} → Past r f p → (k : ℕ) → is_in r f p k ≡ false
unfolding is_in
past_none {r} {f} {p} (wrong h) k = rw (← moved_faulty p k h, ne_eqb p.fault 0 h) (none (ltb k 256))
  where
    none : (a : Bool) → cond a false false ≡ false
    none true = refl
    none false = refl
past_none {r} {f} {p} (beyond h i) k = by (ltb k 256) (eqb (moved p k).fault 0) (eqb p.row r) refl
  where
    by : (a b c : Bool) → eqb p.row r ≡ c → cond a (cond b (cond c (eqb p.field f) false) false) false ≡ false
    by false b c e = refl
    by true false c e = refl
    by true true false e = refl
    by true true true e = let l = i (eqb-true p.row r e) in ne_eqb p.field f (λ q. omega arith)

no_byte : (m k : ℕ) → byte_if false m k ≡ []
unfolding byte_if
no_byte m k = by (ltb m 200)
  where
    by : (a : Bool) → cond {A = List ℕ} a [] [] ≡ []
    by true = refl
    by false = refl

none_from : {r f : ℕ} (m : ℕ) {p : Place} → Past r f p → (ks : List ℕ) → cell_from r f m p ks ≡ []
unfolding cell_from
none_from m h [] = refl
none_from {r} {f} m {p} h (k ∷ ks) = rw (past_none h k, no_byte m k) (none_from (m + 0) (past_moved h k) ks)

pub past_no_bytes : (r f m : ℕ) (p : Place) (ks : List ℕ) → is_past r f p ≡ true → cell_from r f m p ks ≡ []
past_no_bytes r f m p ks h = none_from m (past r f p h) ks
