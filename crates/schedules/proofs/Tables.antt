-- What the loops over a table keep: the total of the entries passed, and that those to come fit as all did. Assumes nothing.
use mathlib.Core.Path.{◌≡◌, refl, ◌∙◌}
use mathlib.Core.Bool.{true, false, ◌&&◌}
use mathlib.Core.List.{List}
use Prim.Native.Nat.{ℕ, suc, ◌+◌, ◌*◌, ◌≤◌, ◌<◌}
use native.Mathlib.Numerals.{add-one}
use native.Mathlib.Omega.{arith}
use borrow.Author.Tests.{le-leb, lt-leb}
use lib.Dec.{ltb, leb}
use lib.ListN.{length, get_or, take, drop, drop_of_length-le}
use lib.Seq.{drop-cons, take_all}
use Rattle.frank_wolfe.specs.Vectors.{sum}
use Rattle.files.specs.Bytes.{between}
use Rattle.files.specs.Limits.{step_limit, total_limit}
use Rattle.files.proofs.Refusal.{between_true}
use Rattle.method.specs.Calls.{shares_fit, table_refusal}
use Rattle.method.proofs.Weights.{take_more}

-- the total of the first i entries, each below 65,536
pub record Totalling (table : List ℕ) (i total : ℕ) : Type 0 where
  pub is : total ≡ sum (take i table)
  pub most : total ≤ 65535 * i

pub totalling_start : {table : List ℕ} → Totalling table 0 0
unfolding sum
totalling_start = record { is = refl; most = omega arith }

pub totalling_more : {table : List ℕ} {i total : ℕ} → Totalling table i total → {a : ℕ} → a ≡ get_or table i 0 → a < 65536 → Totalling table (i + 1) (total + a)
totalling_more {table} {i} h {a} e k = record { is = rw (add-one i, take_more table i) (omega (arith, h.is)); most = omega (arith, h.most) }

-- the entries from i on fit after that total exactly where all do
pub record Testing (table : List ℕ) (i total : ℕ) : Type 0 where
  pub so_far : Totalling table i total
  pub inside : i ≤ length table
  pub few : between 1 step_limit (length table) ≡ true
  pub rest : shares_fit 0 table ≡ shares_fit total (drop i table)

pub testing_start : (table : List ℕ) → between 1 step_limit (length table) ≡ true → Testing table 0 0
testing_start table n = record { so_far = totalling_start; inside = omega arith; few = n; rest = refl }

-- the totals keep to 32 bits
pub testing_most : {table : List ℕ} {i total : ℕ} → Testing table i total → total ≤ 23592600
testing_most {table} h = omega (arith, h.so_far.most, h.inside, (between_true 1 step_limit (length table) h.few).1)

module _ {table : List ℕ} {i total : ℕ} (h : Testing table i total) (k : i < length table) {a : ℕ} (e : a ≡ get_or table i 0) (small : a < 65536) where
  here : shares_fit 0 table ≡ (ltb 0 a && leb (a * a) (2 * (total + a))) && shares_fit (total + a) (drop (suc i) table)
  unfolding shares_fit
  here = h.rest ∙ rw (drop-cons table i 0 k, e)

  pub testing_more : true ≡ ltb 0 a && leb (a * a) (2 * (total + a)) → Testing table (i + 1) (total + a)
  testing_more f = record { so_far = totalling_more h.so_far e small; inside = omega arith; few = h.few; rest = here ∙ rw (← f, add-one i) }

  pub entry_refused : false ≡ ltb 0 a && leb (a * a) (2 * (total + a)) → 50 ≡ table_refusal table
  unfolding table_refusal
  entry_refused f = let g : shares_fit 0 table ≡ false = here ∙ rw (← f) in rw (h.few, g)

pub length_refused : (table : List ℕ) → between 1 step_limit (length table) ≡ false → 49 ≡ table_refusal table
unfolding table_refusal
length_refused table e = rw e

module _ {table : List ℕ} {i total : ℕ} (h : Testing table i total) (k : length table ≤ i) where
  all_fit : shares_fit 0 table ≡ true
  unfolding shares_fit
  all_fit = h.rest ∙ rw (drop_of_length-le table k)

  all_total : total ≡ sum table
  all_total = h.so_far.is ∙ rw (take_all i table k)

  pub total_refused : total_limit < total → 51 ≡ table_refusal table
  unfolding table_refusal
  total_refused g = rw (h.few, all_fit, ← all_total, lt-leb total total_limit g)

  pub table_taken : total ≤ total_limit → 0 ≡ table_refusal table
  unfolding table_refusal
  table_taken g = rw (h.few, all_fit, ← all_total, le-leb total total_limit g)
