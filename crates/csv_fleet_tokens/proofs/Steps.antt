-- One step of a table: a law for each way that a function of it can go.
use mathlib.Core.Path.{◌≡◌, ◌∙◌}
use mathlib.Core.Bool.{Bool, true, false}
use Prim.Native.Nat.{ℕ, ◌+◌, ◌≤◌, ◌<◌}
use lib.Dec.{eqb}
use borrow.Author.Tests.{eq-eqb, ne_eqb, lt-ltb, le-ltb}
use Rattle.csv_bytes.specs.Cells.{no_bytes, with_byte, is_number, progress}
use Rattle.csv_bytes.specs.declared.Cell.{Cell}
use Rattle.csv_fleet_tokens.specs.Table.{Table, faulty, UNIT, with_text, number_fault, name_fault, field_fault, limit, units_after, next_field, field_ended, end_fault, columns_after, boats_after, word_after, next_line, whole_line_ended, line_ended, finished, consumed, after}

-- ---- a field
module _ (c : Cell) {b : Bool} (eb : b ≡ is_number c) where
  pub number_good : b ≡ true → c.magnitude ≤ 2000 → 0 ≡ number_fault c
  unfolding number_fault
  number_good h k = rw (← eb, h, le-ltb 2000 c.magnitude k)

module _ (c : Cell) where
  pub name_none : c.size ≡ 0 → 2 ≡ name_fault c
  unfolding name_fault
  name_none h = rw (eq-eqb c.size 0 h)

  pub name_some : (c.size ≡ 0 → ⊥) → 0 ≡ name_fault c
  unfolding name_fault
  name_some h = rw (ne_eqb c.size 0 h)

pub limit_first : (c : ℕ) → c ≡ 0 → 64 ≡ limit c
unfolding limit
limit_first c h = rw (eq-eqb c 0 h)

pub limit_later : (c : ℕ) → (c ≡ 0 → ⊥) → c ≡ limit c
unfolding limit
limit_later c h = rw (ne_eqb c 0 h)

pub word_first : (c : ℕ) → c ≡ 0 → 0 ≡ word_after c
unfolding word_after
word_first c h = rw (eq-eqb c 0 h)

pub word_later : (c : ℕ) → (c ≡ 0 → ⊥) → 5 ≡ word_after c
unfolding word_after
word_later c h = rw (ne_eqb c 0 h)

module _ (t : Table) (k : ℕ) where
  pub text_added : t.cell.size < 200 → {x : Cell} → x ≡ with_byte t.cell k → {w : ℕ} → w ≡ progress UNIT t.word k →
      record { field = t.field; columns = t.columns; boats = t.boats; units = t.units; cell = x; word = w; fault = t.fault } ≡ with_text t k
  unfolding with_text
  text_added h e f = rw (e, f, lt-ltb t.cell.size 200 h)

  pub text_long : 200 ≤ t.cell.size → {x : Table} → x ≡ faulty t 1 → x ≡ with_text t k
  unfolding with_text
  text_long h e = e ∙ rw (le-ltb t.cell.size 200 h)

module _ (t : Table) where
  pub fault_header : t.columns ≡ 0 → {x : ℕ} → x ≡ name_fault t.cell → x ≡ field_fault t
  unfolding field_fault
  fault_header h e = e ∙ rw (eq-eqb t.columns 0 h)

  pub units_word : t.field ≡ 0 → eqb t.word 4 ≡ units_after t
  unfolding units_after
  units_word h = rw (eq-eqb t.field 0 h)

  pub units_kept : (t.field ≡ 0 → ⊥) → t.units ≡ units_after t
  unfolding units_after
  units_kept h = rw (ne_eqb t.field 0 h)

  pub columns_first : t.columns ≡ 0 → t.field ≡ columns_after t
  unfolding columns_after
  columns_first h = rw (eq-eqb t.columns 0 h)

  pub columns_kept : (t.columns ≡ 0 → ⊥) → t.columns ≡ columns_after t
  unfolding columns_after
  columns_kept h = rw (ne_eqb t.columns 0 h)

  pub boats_first : t.columns ≡ 0 → t.boats ≡ boats_after t
  unfolding boats_after
  boats_first h = rw (eq-eqb t.columns 0 h)

  pub end_none : t.columns ≡ 0 → t.field ≡ 0 → 3 ≡ end_fault t
  unfolding end_fault
  end_none h k = rw (eq-eqb t.columns 0 h, eq-eqb t.field 0 k)

  pub end_names : t.columns ≡ 0 → (t.field ≡ 0 → ⊥) → 0 ≡ end_fault t
  unfolding end_fault
  end_names h k = rw (eq-eqb t.columns 0 h, ne_eqb t.field 0 k)

  -- past the line of names
  module _ (h : t.columns ≡ 0 → ⊥) where
    pub fault_units : t.units ≡ true → 0 ≡ field_fault t
    unfolding field_fault
    fault_units u = rw (ne_eqb t.columns 0 h, u)

    pub fault_name : t.units ≡ false → t.field ≡ 0 → t.boats < 256 → {x : ℕ} → x ≡ name_fault t.cell → x ≡ field_fault t
    unfolding field_fault
    fault_name u f b e = e ∙ rw (ne_eqb t.columns 0 h, u, eq-eqb t.field 0 f, lt-ltb t.boats 256 b)

    pub fault_boats : t.units ≡ false → t.field ≡ 0 → 256 ≤ t.boats → 8 ≡ field_fault t
    unfolding field_fault
    fault_boats u f b = rw (ne_eqb t.columns 0 h, u, eq-eqb t.field 0 f, le-ltb t.boats 256 b)

    pub fault_value : t.units ≡ false → (t.field ≡ 0 → ⊥) → {x : ℕ} → x ≡ number_fault t.cell → x ≡ field_fault t
    unfolding field_fault
    fault_value u f e = e ∙ rw (ne_eqb t.columns 0 h, u, ne_eqb t.field 0 f)

    pub boats_units : t.units ≡ true → t.boats ≡ boats_after t
    unfolding boats_after
    boats_units u = rw (ne_eqb t.columns 0 h, u)

    pub boats_more : t.units ≡ false → t.boats + 1 ≡ boats_after t
    unfolding boats_after
    boats_more u = rw (ne_eqb t.columns 0 h, u)

    pub end_whole : t.field ≡ t.columns → 0 ≡ end_fault t
    unfolding end_fault
    end_whole k = rw (ne_eqb t.columns 0 h, eq-eqb t.field t.columns k)

    pub end_short : (t.field ≡ t.columns → ⊥) → 5 ≡ end_fault t
    unfolding end_fault
    end_short k = rw (ne_eqb t.columns 0 h, ne_eqb t.field t.columns k)

-- ---- the end of a field
module _ (t : Table) {m : ℕ} (em : m ≡ limit t.columns) where
  pub field_many : m ≤ t.field → {x : Table} → x ≡ faulty t 4 → x ≡ field_ended t
  unfolding field_ended
  field_many h e = e ∙ rw (← em, le-ltb t.field m h)

  module _ (h : t.field < m) {f : ℕ} (ef : f ≡ field_fault t) where
    pub field_next : f ≡ 0 → {u : Bool} → u ≡ units_after t → {x : Cell} → x ≡ no_bytes →
        record { field = t.field + 1; columns = t.columns; boats = t.boats; units = u; cell = x; word = 0; fault = 0 } ≡ field_ended t
    unfolding field_ended next_field
    field_next z eu ex = rw (eu, ex, ← em, lt-ltb t.field m h, ← ef, eq-eqb f 0 z)

-- ---- the end of a line
module _ (t : Table) {f : ℕ} (ef : f ≡ field_fault t) where
  module _ (z : f ≡ 0) {g : ℕ} (eg : g ≡ end_fault t) where
    pub line_next : g ≡ 0 → {c : ℕ} → c ≡ columns_after t → {b : ℕ} → b ≡ boats_after t → {x : Cell} → x ≡ no_bytes → {w : ℕ} → w ≡ word_after t.columns →
        record { field = 0; columns = c; boats = b; units = false; cell = x; word = w; fault = 0 } ≡ whole_line_ended t
    unfolding whole_line_ended next_line
    line_next y ec eb ex ew = rw (ec, eb, ex, ew, ← ef, eq-eqb f 0 z, ← eg, eq-eqb g 0 y)

module _ (t : Table) where
  pub line_later : (t.field ≡ 0 → ⊥) → {x : Table} → x ≡ whole_line_ended t → x ≡ line_ended t
  unfolding line_ended
  line_later h e = e ∙ rw (ne_eqb t.field 0 h)

  pub line_blank : t.field ≡ 0 → t.cell.size ≡ 0 → t ≡ line_ended t
  unfolding line_ended
  line_blank h k = rw (eq-eqb t.field 0 h, eq-eqb t.cell.size 0 k)

  pub finished_boats : t.fault ≡ 0 → (t.boats ≡ 0 → ⊥) → t ≡ finished t
  unfolding finished
  finished_boats h k = rw (eq-eqb t.fault 0 h, ne_eqb t.boats 0 k)

-- ---- a token
module _ (t : Table) (k : ℕ) where
  pub after_good : t.fault ≡ 0 → {x : Table} → x ≡ consumed t k → x ≡ after t k
  unfolding after
  after_good h e = e ∙ rw (eq-eqb t.fault 0 h)

  pub token_text : k < 256 → {x : Table} → x ≡ with_text t k → x ≡ consumed t k
  unfolding consumed
  token_text h e = e ∙ rw (lt-ltb k 256 h)

  pub token_field : k ≡ 256 → {x : Table} → x ≡ field_ended t → x ≡ consumed t k
  unfolding consumed
  token_field h e = e ∙ rw h

  pub token_line : k ≡ 257 → {x : Table} → x ≡ line_ended t → x ≡ consumed t k
  unfolding consumed
  token_line h e = e ∙ rw h

  pub token_end : k ≡ 258 → {y : Table} → y ≡ line_ended t → {x : Table} → x ≡ finished y → x ≡ consumed t k
  unfolding consumed
  token_end h f e = e ∙ rw (f, h)

  pub token_nothing : k ≡ 259 → t ≡ consumed t k
  unfolding consumed
  token_nothing h = rw h

  pub token_wrong : 256 ≤ k → (k ≡ 256 → ⊥) → (k ≡ 257 → ⊥) → (k ≡ 258 → ⊥) → (k ≡ 259 → ⊥) → {x : Table} → x ≡ faulty t k → x ≡ consumed t k
  unfolding consumed
  token_wrong h a b c d e = e ∙ rw (le-ltb k 256 h, ne_eqb k 256 a, ne_eqb k 257 b, ne_eqb k 258 c, ne_eqb k 259 d)
