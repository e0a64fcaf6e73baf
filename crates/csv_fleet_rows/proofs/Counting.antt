-- A CSV without fault has as many values as boats times columns, all in range.
use mathlib.Core.Path.{◌≡◌, refl}
use mathlib.Core.Bool.{Bool, true, false, cond, ◌&&◌}
use mathlib.Core.List.{List, [], ◌∷◌, ◌++◌}
use Prim.Native.Nat.{ℕ, zero, suc, ◌+◌, ◌≤◌}
use native.Mathlib.Omega.{arith}
use borrow.Author.Tests.{le-leb, lt-ltb}
use lib.Dec.{ltb}
use lib.IntN.{ℤ}
use lib.ListN.{length, length-append, drop}
use Rattle.files.specs.Bytes.{in_range, all_in_range}
use Rattle.csv_bytes.specs.Cells.{signed}
use Rattle.csv_bytes.specs.declared.Mode.{Mode}
use Rattle.csv_bytes.specs.declared.Mode.TheVariants.{Start, Plain, Quoted, Closing, Return}
use Rattle.csv_bytes.specs.Tokens.{step, ending, tokens, csv_tokens, separator, mark_size}
use Rattle.csv_fleet_tokens.specs.Table.{Table, start, after}
use Rattle.csv_fleet_reader.specs.Fleet.{ends_value, ended_value, values_from, table_from, fleet_values, last_table}
use Rattle.csv_fleet_reader.proofs.Values.{value_small}
use Rattle.csv_fleet_rows.specs.Rows.{FaultlessWhole}
use Rattle.csv_fleet_rows.proofs.Kept.{in_names, Kept, kept_more, Ends, end_kept, open_kept}

-- ---- the count
last_kept : (t : Table) (n : ℕ) → Kept t n → (m : Mode) → Ends (after t (ending m)) (n + length (ended_value t n (ending m)))
last_kept t n h Start = end_kept t n h
last_kept t n h Plain = end_kept t n h
last_kept t n h Quoted = open_kept t n h
last_kept t n h Closing = end_kept t n h
last_kept t n h Return = end_kept t n h

all_kept : (sep : ℕ) (m : Mode) (bs : List ℕ) (t : Table) (n : ℕ) → Kept t n → Ends (table_from t (tokens sep m bs)) (n + length (values_from t n (tokens sep m bs)))
unfolding tokens table_from values_from
all_kept sep m [] t n h e =
    let k = ending m in
    let q : n + length (ended_value t n k ++ []) ≡ n + length (ended_value t n k) = omega (arith, length-append (ended_value t n k) []) in
    rw q (last_kept t n h m e)
all_kept sep m (b ∷ bs) t n h e =
    let k = (step sep m b).token in
    let ks = tokens sep (step sep m b).mode bs in
    let l = length (ended_value t n k) in
    let q : n + length (ended_value t n k ++ values_from (after t k) (n + l) ks) ≡ n + l + length (values_from (after t k) (n + l) ks) =
    omega (arith, length-append (ended_value t n k) (values_from (after t k) (n + l) ks)) in
    rw q (all_kept sep (step sep m b).mode bs (after t k) (n + l) (kept_more t n h k) e)

-- ---- the range
pub signed_in : (b : Bool) (m : ℕ) → m ≤ 2000 → in_range (signed b m) ≡ true
unfolding in_range
signed_in false m h = le-leb m 2000 h
signed_in true zero h = refl
signed_in true (suc m) h = lt-ltb m 2000 (omega arith)

and_map : (a b c : Bool) → (a && b) ≡ true → (b ≡ true → c ≡ true) → (a && c) ≡ true
and_map true b c p f = f p
and_map false b c p f = p

pub in_range_append : (xs ys : List ℤ) → all_in_range xs ≡ true → all_in_range ys ≡ true → all_in_range (xs ++ ys) ≡ true
unfolding all_in_range
in_range_append [] ys p q = q
in_range_append (x ∷ xs) ys p q = and_map (in_range x) _ _ p (λ h. in_range_append xs ys h q)

ended_in : (t : Table) (n k : ℕ) → all_in_range (ended_value t n k) ≡ true
unfolding ended_value all_in_range
ended_in t n k = by (ltb n 16384) (ends_value t k) refl
  where
    by : (a b : Bool) → b ≡ ends_value t k → all_in_range (cond a (cond b (signed t.cell.negative t.cell.magnitude ∷ []) []) []) ≡ true
    by true true e = rw (signed_in t.cell.negative t.cell.magnitude (value_small t k e refl))
    by true false e = refl
    by false b e = refl

none_in : all_in_range [] ≡ true
unfolding all_in_range
none_in = refl

all_in : (t : Table) (n : ℕ) (ks : List ℕ) → all_in_range (values_from t n ks) ≡ true
unfolding values_from
all_in t n [] = none_in
all_in t n (k ∷ ks) = in_range_append (ended_value t n k) _ (ended_in t n k) (all_in (after t k) (n + length (ended_value t n k)) ks)

pub faultless_whole : FaultlessWhole
unfolding FaultlessWhole fleet_values last_table csv_tokens
faultless_whole csv e =
    let d = all_kept (separator csv) Start (drop (mark_size csv) csv) start 0 (λ _. in_names refl refl (omega arith) refl) e in
    record {
      some_boats = d.some_boats;
      most_boats = d.most_boats;
      some_columns = d.some_columns;
      most_columns = d.most_columns;
      count = omega (arith, d.count);
      in_range = all_in start 0 _;
    }
