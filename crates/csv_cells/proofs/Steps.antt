-- One step of a place: a law for each way that a function of it can go, and how far it goes.
use mathlib.Core.Path.{◌≡◌, refl, ◌∙◌}
use mathlib.Core.Bool.{Bool, true, false, cond}
use Prim.Native.Nat.{ℕ, ◌+◌, ◌≤◌, ◌<◌}
use native.Mathlib.Omega.{arith}
use borrow.Author.Tests.{ltb-true, eqb-true, eq-eqb, ne_eqb, lt-ltb, le-ltb}
use lib.Dec.{ltb, eqb}
use Rattle.csv_cells.specs.Cells.{Place, faulty, with_text, next_field, row_after, next_line, ended, consumed, moved}

module _ (p : Place) where
  pub text_added : p.size < 200 → record { line = p.line; row = p.row; field = p.field; size = p.size + 1; fault = 0 } ≡ with_text p
  unfolding with_text
  text_added h = rw (lt-ltb p.size 200 h)

  pub text_long : 200 ≤ p.size → {x : Place} → x ≡ faulty p 1 → x ≡ with_text p
  unfolding with_text
  text_long h e = e ∙ rw (le-ltb p.size 200 h)

  pub field_added : p.field < 64 → record { line = p.line; row = p.row; field = p.field + 1; size = 0; fault = 0 } ≡ next_field p
  unfolding next_field
  field_added h = rw (lt-ltb p.field 64 h)

  pub field_many : 64 ≤ p.field → {x : Place} → x ≡ faulty p 4 → x ≡ next_field p
  unfolding next_field
  field_many h e = e ∙ rw (le-ltb p.field 64 h)

  pub row_fields : (p.field ≡ 0 → ⊥) → p.row + 1 ≡ row_after p
  unfolding row_after
  row_fields h = rw (ne_eqb p.field 0 h)

  pub row_bytes : p.field ≡ 0 → (p.size ≡ 0 → ⊥) → p.row + 1 ≡ row_after p
  unfolding row_after
  row_bytes h k = rw (eq-eqb p.field 0 h, ne_eqb p.size 0 k)

  pub row_none : p.field ≡ 0 → p.size ≡ 0 → p.row ≡ row_after p
  unfolding row_after
  row_none h k = rw (eq-eqb p.field 0 h, eq-eqb p.size 0 k)

  pub line_next : {r : ℕ} → r ≡ row_after p → record { line = p.line + 1; row = r; field = 0; size = 0; fault = 0 } ≡ next_line p
  unfolding next_line
  line_next e = rw e

  pub text_ended : {r : ℕ} → r ≡ row_after p → record { line = p.line; row = r; field = 0; size = 0; fault = 0 } ≡ ended p
  unfolding ended
  text_ended e = rw e

-- ---- a token
module _ (p : Place) (k : ℕ) where
  pub moved_faulty : (p.fault ≡ 0 → ⊥) → p ≡ moved p k
  unfolding moved
  moved_faulty h = rw (ne_eqb p.fault 0 h)

  pub moved_good : p.fault ≡ 0 → {x : Place} → x ≡ consumed p k → x ≡ moved p k
  unfolding moved
  moved_good h e = e ∙ rw (eq-eqb p.fault 0 h)

  pub token_text : k < 256 → {x : Place} → x ≡ with_text p → x ≡ consumed p k
  unfolding consumed
  token_text h e = e ∙ rw (lt-ltb k 256 h)

  pub token_field : k ≡ 256 → {x : Place} → x ≡ next_field p → x ≡ consumed p k
  unfolding consumed
  token_field h e = e ∙ rw h

  pub token_line : k ≡ 257 → {x : Place} → x ≡ next_line p → x ≡ consumed p k
  unfolding consumed
  token_line h e = e ∙ rw h

  pub token_end : k ≡ 258 → {x : Place} → x ≡ ended p → x ≡ consumed p k
  unfolding consumed
  token_end h e = e ∙ rw h

  pub token_nothing : k ≡ 259 → p ≡ consumed p k
  unfolding consumed
  token_nothing h = rw h

  pub token_wrong : 256 ≤ k → (k ≡ 256 → ⊥) → (k ≡ 257 → ⊥) → (k ≡ 258 → ⊥) → (k ≡ 259 → ⊥) → {x : Place} → x ≡ faulty p k → x ≡ consumed p k
  unfolding consumed
  token_wrong h a b c d e = e ∙ rw (le-ltb k 256 h, ne_eqb k 256 a, ne_eqb k 257 b, ne_eqb k 258 c, ne_eqb k 259 d)

-- ---- a token goes on by at most one line and one row, and neither back by a row nor by a field in its row
pub record Near (p q : Place) : Type 0 where
  pub lines : q.line ≤ p.line + 1
  pub rows : q.row ≤ p.row + 1
  pub onward : p.row ≤ q.row
  pub fields : q.row ≡ p.row → p.field ≤ q.field

either : (p : Place) (b : Bool) (x y : Place) → Near p x → Near p y → Near p (cond b x y)
either p true x y i j = i
either p false x y i j = j

one_row : (n : ℕ) (a b : Bool) → (n ≤ cond a (cond b n (n + 1)) (n + 1)) × (cond a (cond b n (n + 1)) (n + 1) ≤ n + 1)
one_row n true true = (omega arith, omega arith)
one_row n true false = (omega arith, omega arith)
one_row n false b = (omega arith, omega arith)

no_fields : (n f : ℕ) (a b : Bool) → eqb f 0 ≡ a → cond a (cond b n (n + 1)) (n + 1) ≡ n → f ≤ 0
no_fields n f true b e h = omega (arith, eqb-true f 0 e)
no_fields n f false b e h = absurd (omega arith)

module _ (p : Place) where
  beside : (f s k : ℕ) → p.field ≤ f → Near p (record { line = p.line; row = p.row; field = f; size = s; fault = k })
  beside f s k h = record { lines = omega arith; rows = omega arith; onward = omega arith; fields = λ _. h }

  same : (s k : ℕ) → Near p (record { line = p.line; row = p.row; field = p.field; size = s; fault = k })
  same s k = beside p.field s k (omega arith)

  row_near : (p.row ≤ row_after p) × (row_after p ≤ p.row + 1)
  unfolding row_after
  row_near = one_row p.row (eqb p.field 0) (eqb p.size 0)

  row_kept : row_after p ≡ p.row → p.field ≤ 0
  unfolding row_after
  row_kept = no_fields p.row p.field (eqb p.field 0) (eqb p.size 0) refl

  text_near : Near p (with_text p)
  unfolding with_text
  text_near = either p (ltb p.size 200) _ _ (same (p.size + 1) 0) (same p.size 1)

  field_near : Near p (next_field p)
  unfolding next_field
  field_near = either p (ltb p.field 64) _ _ (beside (p.field + 1) 0 0 (omega arith)) (same p.size 4)

  line_near : Near p (next_line p)
  unfolding next_line
  line_near = record { lines = omega arith; rows = row_near.1; onward = row_near.0; fields = row_kept }

  end_near : Near p (ended p)
  unfolding ended
  end_near = record { lines = omega arith; rows = row_near.1; onward = row_near.0; fields = row_kept }

  consumed_near : (k : ℕ) → Near p (consumed p k)
  unfolding consumed
  consumed_near k =
      either p (ltb k 256) _ _ text_near
      (either p (eqb k 256) _ _ field_near
      (either p (eqb k 257) _ _ line_near
      (either p (eqb k 258) _ _ end_near (either p (eqb k 259) _ _ (same p.size p.fault) (same p.size k)))))

  pub moved_near : (k : ℕ) → Near p (moved p k)
  unfolding moved
  moved_near k = either p (eqb p.fault 0) _ _ (consumed_near k) (same p.size p.fault)

-- ---- at most 64 fields are before a field
few_either : (b : Bool) (x y : Place) → x.field ≤ 64 → y.field ≤ 64 → (cond b x y).field ≤ 64
few_either true x y i j = i
few_either false x y i j = j

module _ (p : Place) (h : p.field ≤ 64) where
  few_text : (with_text p).field ≤ 64
  unfolding with_text
  few_text = few_either (ltb p.size 200) _ _ h h

  few_next : (next_field p).field ≤ 64
  unfolding next_field
  few_next = by (ltb p.field 64) refl
    where
      by : (b : Bool) → ltb p.field 64 ≡ b → (cond b (record { line = p.line; row = p.row; field = p.field + 1; size = 0; fault = 0 }) (faulty p 4)).field ≤ 64
      by true e = omega (arith, ltb-true p.field 64 e)
      by false e = h

  few_line : (next_line p).field ≤ 64
  unfolding next_line
  few_line = omega arith

  few_end : (ended p).field ≤ 64
  unfolding ended
  few_end = omega arith

  few_consumed : (k : ℕ) → (consumed p k).field ≤ 64
  unfolding consumed
  few_consumed k =
      few_either (ltb k 256) _ _ few_text
      (few_either (eqb k 256) _ _ few_next
      (few_either (eqb k 257) _ _ few_line (few_either (eqb k 258) _ _ few_end (few_either (eqb k 259) _ _ h h))))

  pub few_fields : (k : ℕ) → (moved p k).field ≤ 64
  unfolding moved
  few_fields k = few_either (eqb p.fault 0) _ _ (few_consumed k) h
