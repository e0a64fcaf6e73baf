-- The value that a token ends: how large it is, how it is written, how many there can be.
use mathlib.Core.Path.{◌≡◌, refl, sym, ◌∙◌}
use mathlib.Core.Bool.{Bool, true, false, cond}
use mathlib.Core.List.{List, [], ◌∷◌, append-nil}
use Prim.Native.Nat.{ℕ, zero, suc, ◌+◌, ◌*◌, ◌-◌, ◌%◌, ◌≤◌, ◌<◌}
use native.Mathlib.Nat.{mod-eq_of_lt}
use native.Mathlib.Omega.{arith}
use borrow.Author.Tests.{ltb-true, ltb-false, eqb-true, eq-eqb, ne_eqb, lt-ltb, le-ltb}
use lib.Dec.{ltb, eqb}
use lib.IntN.{ℤ}
use lib.ListN.{length, length-append}
use Rattle.files.specs.Bytes.{number_bytes}
use Rattle.buffers.specs.Placed.{placed}
use Rattle.buffers.proofs.Placing.{placed_nil}
use Rattle.sheet_output.specs.Output.{bits, values_bytes}
use Rattle.csv_bytes.specs.Cells.{signed, is_number}
use Rattle.csv_fleet_tokens.specs.Table.{Table, number_fault, after}
use Rattle.csv_fleet_reader.specs.Fleet.{ends_value, ended_value, values_from}

-- ---- the 16 bits
pub bits_plain : (n : Bool) (m : ℕ) → n ≡ false → m ≡ bits (signed n m)
unfolding bits
bits_plain true m e = let z : ◌≡◌ {A = ℕ} 0 1 = cc in absurd (omega arith)
bits_plain false m e = refl

pub bits_negative : (n : Bool) (m : ℕ) → n ≡ true → m ≤ 2000 → (65536 - m) % 65536 ≡ bits (signed n m)
unfolding bits
bits_negative false m e h = let z : ◌≡◌ {A = ℕ} 0 1 = cc in absurd (omega arith)
bits_negative true zero e h = refl
bits_negative true (suc m) e h =
    let k : 65536 - suc m ≡ 65535 - m = omega arith in
    mod-eq_of_lt {n = 65536 - suc m} {m = 65536} (omega arith) ∙ k

-- ---- what holds of a value that ends
skip : (b x : Bool) → cond b false x ≡ true → x ≡ true
skip true x p = let z : ◌≡◌ {A = ℕ} 0 1 = cc in absurd (omega arith)
skip false x p = p

both : (b x : Bool) → cond b x false ≡ true → (b ≡ true) × (x ≡ true)
both true x p = (refl, p)
both false x p = let z : ◌≡◌ {A = ℕ} 0 1 = cc in absurd (omega arith)

within : (p q : Bool) → eqb (cond p (cond q 7 0) 6) 0 ≡ true → (p ≡ true) × (q ≡ false)
within true true e = let z : ◌≡◌ {A = ℕ} 0 1 = cc in absurd (omega arith)
within true false e = (refl, refl)
within false q e = let z : ◌≡◌ {A = ℕ} 0 1 = cc in absurd (omega arith)

module _ (t : Table) (k : ℕ) (e : ends_value t k ≡ true) where
  ends : eqb (number_fault t.cell) 0 ≡ true
  unfolding ends_value
  ends = skip (eqb t.field 0) _ (skip t.units _ (skip (eqb t.columns 0) _ (skip (ltb 258 k) _ (skip (ltb k 256) _ (both (eqb t.fault 0) _ e).1))))

  small : t.cell.magnitude ≤ 2000
  unfolding number_fault
  small = ltb-false 2000 t.cell.magnitude (within (is_number t.cell) (ltb 2000 t.cell.magnitude) ends).1

  pub value_whole : (t.fault ≡ 0) × (is_number t.cell ≡ true)
  unfolding ends_value number_fault
  value_whole = (eqb-true t.fault 0 (both (eqb t.fault 0) _ e).0, (within (is_number t.cell) (ltb 2000 t.cell.magnitude) ends).0)

-- ---- what the test for it says, and what is put then
module _ (t : Table) (k : ℕ) where
  module _ (h : t.fault ≡ 0) where
    pub test_byte : k < 256 → false ≡ ends_value t k
    unfolding ends_value
    test_byte a = rw (eq-eqb t.fault 0 h, lt-ltb k 256 a)

    module _ (a : 256 ≤ k) where
      pub test_other : 258 < k → false ≡ ends_value t k
      unfolding ends_value
      test_other b = rw (eq-eqb t.fault 0 h, le-ltb k 256 a, lt-ltb 258 k b)

      module _ (b : k ≤ 258) where
        pub test_names : t.columns ≡ 0 → false ≡ ends_value t k
        unfolding ends_value
        test_names c = rw (eq-eqb t.fault 0 h, le-ltb k 256 a, le-ltb 258 k b, eq-eqb t.columns 0 c)

        module _ (c : t.columns ≡ 0 → ⊥) where
          pub test_units : t.units ≡ true → false ≡ ends_value t k
          unfolding ends_value
          test_units u = rw (eq-eqb t.fault 0 h, le-ltb k 256 a, le-ltb 258 k b, ne_eqb t.columns 0 c, u)

          module _ (u : t.units ≡ false) where
            pub test_name : t.field ≡ 0 → false ≡ ends_value t k
            unfolding ends_value
            test_name f = rw (eq-eqb t.fault 0 h, le-ltb k 256 a, le-ltb 258 k b, ne_eqb t.columns 0 c, u, eq-eqb t.field 0 f)

            module _ (f : t.field ≡ 0 → ⊥) where
              pub test_value : {x : ℕ} → x ≡ number_fault t.cell → eqb x 0 ≡ ends_value t k
              unfolding ends_value
              test_value e = rw (e, eq-eqb t.fault 0 h, le-ltb k 256 a, le-ltb 258 k b, ne_eqb t.columns 0 c, u, ne_eqb t.field 0 f)

pub value_full : (t : Table) (n k : ℕ) → 16384 ≤ n → (out : List ℕ) → (n ≡ n + length (ended_value t n k)) × (out ≡ placed out (2 * n) (values_bytes (ended_value t n k)))
unfolding ended_value values_bytes
value_full t n k h out = rw (le-ltb n 16384 h) (omega arith, sym (placed_nil out (2 * n)))

module _ (t : Table) (k : ℕ) {b : Bool} (eb : b ≡ ends_value t k) where
  pub value_small : b ≡ true → t.cell.magnitude ≤ 2000
  value_small h = small t k (sym eb ∙ h)

  module _ (n : ℕ) (a : n < 16384) (out : List ℕ) where
    pub value_none : b ≡ false → (n ≡ n + length (ended_value t n k)) × (out ≡ placed out (2 * n) (values_bytes (ended_value t n k)))
    unfolding ended_value values_bytes
    value_none z = rw (lt-ltb n 16384 a, ← eb, z) (omega arith, sym (placed_nil out (2 * n)))

    pub value_put : b ≡ true → {v : ℕ} → v ≡ bits (signed t.cell.negative t.cell.magnitude) → {new : List ℕ} → new ≡ placed out (2 * n) (number_bytes 2 v) →
        (n + 1 ≡ n + length (ended_value t n k)) × (new ≡ placed out (2 * n) (values_bytes (ended_value t n k)))
    unfolding ended_value values_bytes
    value_put h ev en = rw (lt-ltb n 16384 a, ← eb, h) (refl, en ∙ rw (ev, append-nil))

-- ---- at most 16,384 values
one : (a b : Bool) (n : ℕ) (x : ℤ) → ltb n 16384 ≡ a → n ≤ 16384 → n + length (cond a (cond b (x ∷ []) []) []) ≤ 16384
one true true n x e h = omega (arith, ltb-true n 16384 e)
one true false n x e h = omega arith
one false b n x e h = omega arith

few : (t : Table) (n k : ℕ) → n ≤ 16384 → n + length (ended_value t n k) ≤ 16384
unfolding ended_value
few t n k h = one (ltb n 16384) (ends_value t k) n _ refl h

pub few_values : (t : Table) (n : ℕ) (ks : List ℕ) → n ≤ 16384 → n + length (values_from t n ks) ≤ 16384
unfolding values_from
few_values t n [] h = omega arith
few_values t n (k ∷ ks) h =
    omega (
      arith,
      length-append (ended_value t n k) (values_from (after t k) (n + length (ended_value t n k)) ks),
      few_values (after t k) (n + length (ended_value t n k)) ks (few t n k h),
    )
