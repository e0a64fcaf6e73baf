-- What each token keeps: at the start of a line there are as many values as boats times columns, and inside a boat's line one more for each value read.
use mathlib.Core.Path.{◌≡◌, refl, sym, ◌∙◌}
use mathlib.Core.Bool.{Bool, true, false, cond}
use mathlib.Core.List.{[]}
use Prim.Native.Nat.{ℕ, zero, suc, ◌+◌, ◌*◌, ◌≤◌, ◌<◌}
use native.Mathlib.Nat.{add-mul, mul-le-mul}
use native.Mathlib.Omega.{arith}
use borrow.Author.Tests.{ltb-true, ltb-false, eqb-true, eqb-false, lt-ltb, eq-eqb}
use lib.Dec.{ltb, eqb}
use lib.IntN.{ℤ}
use lib.ListN.{length}
use Rattle.csv_fleet_tokens.specs.Table.{Table, faulty, with_text, number_fault, field_fault, limit, units_after, next_field, field_ended, end_fault, columns_after, boats_after, next_line, whole_line_ended, line_ended, finished, consumed, after}
use Rattle.csv_fleet_tokens.proofs.Steps.{limit_first, limit_later, fault_boats, fault_value, units_kept, columns_first, columns_kept, boats_first, boats_units, boats_more, end_none, end_short}
use Rattle.csv_fleet_reader.specs.Fleet.{ends_value, ended_value}
use Rattle.csv_fleet_reader.proofs.Values.{test_byte, test_other, test_names, test_units, test_name, test_value}

-- where a reader stands: in the names, before a line, in the units, in a boat's line; with c columns, b boats, f fields before this one and n values
pub data Stands (c b f : ℕ) (u : Bool) (n : ℕ) : Type 0 where
  in_names : c ≡ 0 → b ≡ 0 → f ≤ 64 → n ≡ 0 → Stands c b f u n
  at_line : 1 ≤ c → c ≤ 64 → b ≤ 256 → f ≡ 0 → u ≡ false → n ≡ b * c → Stands c b f u n
  in_units : 1 ≤ c → c ≤ 64 → b ≤ 256 → 1 ≤ f → u ≡ true → n ≡ b * c → Stands c b f u n
  in_boat : 1 ≤ c → c ≤ 64 → b < 256 → 1 ≤ f → f ≤ c → u ≡ false → n + 1 ≡ b * c + f → Stands c b f u n

abbrev pub Placed : Table → ℕ → Type 0
Placed t n = Stands t.columns t.boats t.field t.units n

abbrev pub Kept : Table → ℕ → Type 0
Kept t n = t.fault ≡ 0 → Placed t n

either : (n : ℕ) (b : Bool) (x y : Table) → (b ≡ true → Kept x n) → (b ≡ false → Kept y n) → Kept (cond b x y) n
either n true x y p q = p refl
either n false x y p q = q refl

faulted : (t : Table) (f n : ℕ) → (f ≡ 0 → ⊥) → Kept (faulty t f) n
faulted t f n h e = absurd (h e)

positive : (x : ℕ) → (x ≡ 0 → ⊥) → 1 ≤ x
positive zero h = absurd (h refl)
positive (suc x) h = omega arith

whole : (t : Table) → (t.columns ≡ 0 → ⊥) → end_fault t ≡ 0 → t.field ≡ t.columns
whole t c e = by (eqb t.field t.columns) refl
  where
    by : (x : Bool) → eqb t.field t.columns ≡ x → t.field ≡ t.columns
    by true p = eqb-true t.field t.columns p
    by false p = absurd (omega (arith, end_short t c (eqb-false t.field t.columns p), e))

-- ---- how many values a token adds
nothing : (b : Bool) → length {A = ℤ} (cond b [] []) ≡ 0
nothing true = refl
nothing false = refl

module _ (t : Table) (n k : ℕ) where
  pub none : false ≡ ends_value t k → length (ended_value t n k) ≡ 0
  unfolding ended_value
  none e = rw (← e) (nothing (ltb n 16384))

  pub no_more : false ≡ ends_value t k → n + length (ended_value t n k) ≡ n
  no_more e = omega (arith, none e)

  pub one : n < 16384 → true ≡ ends_value t k → length (ended_value t n k) ≡ 1
  unfolding ended_value
  one h e = rw (lt-ltb n 16384 h, ← e)

-- ---- a table without fault
module _ (t : Table) (z : t.fault ≡ 0) (n : ℕ) (s : Placed t n) where
  in_text : (k : ℕ) → Kept (with_text t k) n
  unfolding with_text
  in_text k = either n (ltb t.cell.size 200) _ _ (λ _ _. s) (λ _. faulted t 1 n (λ e. omega arith))

  -- a token that ends a field, a line or the text
  module _ (k : ℕ) (a : 256 ≤ k) (b : k ≤ 258) where
    abbrev more : ℕ
    more = n + length (ended_value t n k)

    names_none : t.columns ≡ 0 → length (ended_value t n k) ≡ 0
    names_none c = none t n k (test_names t k z a b c)

    name_none : (t.columns ≡ 0 → ⊥) → t.units ≡ false → t.field ≡ 0 → length (ended_value t n k) ≡ 0
    name_none c u f = none t n k (test_name t k z a b c u f)

    units_none : (t.columns ≡ 0 → ⊥) → t.units ≡ true → length (ended_value t n k) ≡ 0
    units_none c u = none t n k (test_units t k z a b c u)

    value_one : n < 16384 → (t.columns ≡ 0 → ⊥) → t.units ≡ false → (t.field ≡ 0 → ⊥) → field_fault t ≡ 0 → length (ended_value t n k) ≡ 1
    value_one h c u f e =
        one t n k h
        (sym (eq-eqb (number_fault t.cell) 0 (fault_value t c u f refl ∙ e)) ∙ test_value t k z a b c u f refl)

    few : {c b f : ℕ} → c ≤ 64 → b < 256 → f ≤ c → n + 1 ≡ b * c + f → n < 16384
    few {c} {b} {f} hc hb hf e =
        let h : b ≤ 255 = omega arith in
        let p : b * c ≤ 255 * 64 = mul-le-mul h hc in
        omega arith

    boats_below : (t.columns ≡ 0 → ⊥) → t.units ≡ false → t.field ≡ 0 → field_fault t ≡ 0 → t.boats < 256
    boats_below c u f e = by (ltb t.boats 256) refl
      where
        by : (x : Bool) → ltb t.boats 256 ≡ x → t.boats < 256
        by true p = ltb-true t.boats 256 p
        by false p = absurd (omega (arith, fault_boats t c u f (ltb-false t.boats 256 p), e))

    -- the next field
    first_field : 1 ≤ t.columns → t.columns ≤ 64 → t.boats < 256 → t.field ≡ 0 → n ≡ t.boats * t.columns → length (ended_value t n k) ≡ 0 → (x : Bool) → x ≡ units_after t →
        Stands t.columns t.boats (t.field + 1) (units_after t) more
    first_field c d h f e l true p = in_units c d (omega arith) (omega arith) (sym p) (omega arith)
    first_field c d h f e l false p = in_boat c d h (omega arith) (omega arith) (sym p) (omega arith)

    field_on : t.field < limit t.columns → field_fault t ≡ 0 → Stands t.columns t.boats (t.field + 1) (units_after t) more
    field_on h e = by s
      where
        by : Placed t n → Stands t.columns t.boats (t.field + 1) (units_after t) more
        by (in_names c d f m) = in_names c d (omega (arith, limit_first t.columns c)) (omega (arith, names_none c))
        by (at_line c d g f u m) =
            let q : t.columns ≡ 0 → ⊥ = λ y. omega arith in
            first_field c d (boats_below q u f e) f m (name_none q u f) (units_after t) refl
        by (in_units c d g f u m) =
            let q : t.columns ≡ 0 → ⊥ = λ y. omega arith in
            in_units c d g (omega arith) (sym (units_kept t (λ y. omega arith)) ∙ u) (omega (arith, units_none q u))
        by (in_boat c d g f i u m) =
            let q : t.columns ≡ 0 → ⊥ = λ y. omega arith in
            in_boat c d g (omega arith) (omega (arith, limit_later t.columns q)) (sym (units_kept t (λ y. omega arith)) ∙ u)
            (omega (arith, value_one (few d g i m) q u (λ y. omega arith) e))

    pub at_field : Kept (field_ended t) more
    unfolding field_ended next_field
    at_field =
        either more (ltb t.field (limit t.columns)) _ _
        (λ p.
        either more (eqb (field_fault t) 0) _ _ (λ q _. field_on (ltb-true _ _ p) (eqb-true _ _ q)) (λ q. faulted t (field_fault t) more (eqb-false _ _ q)))
        (λ _. faulted t 4 more (λ e. omega arith))

    -- the next line
    line_on : field_fault t ≡ 0 → end_fault t ≡ 0 → Stands (columns_after t) (boats_after t) 0 false more
    line_on e g = by s
      where
        by : Placed t n → Stands (columns_after t) (boats_after t) 0 false more
        by (in_names c d f m) =
            let h : t.field ≡ 0 → ⊥ = λ y. omega (arith, end_none t c y, g) in
            let v : boats_after t ≡ 0 = sym (boats_first t c) ∙ d in
            at_line (rw (← columns_first t c) (positive t.field h)) (rw (← columns_first t c) f) (omega arith) refl refl (rw v (omega (arith, names_none c)))
        by (at_line c d h f u m) = absurd (omega (arith, end_short t (λ y. omega arith) (λ y. omega arith), g))
        by (in_units c d h f u m) =
            let q : t.columns ≡ 0 → ⊥ = λ y. omega arith in
            rw (← columns_kept t q, ← boats_units t q u) (at_line c d h refl refl (omega (arith, units_none q u)))
        by (in_boat c d h f i u m) =
            let q : t.columns ≡ 0 → ⊥ = λ y. omega arith in
            let w : t.field ≡ t.columns = whole t q g in
            rw (← columns_kept t q, ← boats_more t q u)
            (at_line c d (omega arith) refl refl
            (omega (arith, value_one (few d h i m) q u (λ y. omega arith) e, add-mul t.boats 1 t.columns)))

    whole_line : Kept (whole_line_ended t) more
    unfolding whole_line_ended next_line
    whole_line =
        either more (eqb (field_fault t) 0) _ _
        (λ p.
        either more (eqb (end_fault t) 0) _ _ (λ q _. line_on (eqb-true _ _ p) (eqb-true _ _ q)) (λ q. faulted t (end_fault t) more (eqb-false _ _ q)))
        (λ p. faulted t (field_fault t) more (eqb-false _ _ p))

    blank : t.field ≡ 0 → Placed t more
    blank f = by s
      where
        by : Placed t n → Placed t more
        by (in_names c d g m) = in_names c d g (omega (arith, names_none c))
        by (at_line c d h g u m) = at_line c d h g u (omega (arith, name_none (λ y. omega arith) u g))
        by (in_units c d h g u m) = absurd (omega arith)
        by (in_boat c d h g i u m) = absurd (omega arith)

    pub line_kept : Kept (line_ended t) more
    unfolding line_ended
    line_kept =
        either more (eqb t.field 0) _ _ (λ p. either more (eqb t.cell.size 0) _ _ (λ _ _. blank (eqb-true _ _ p)) (λ _. whole_line))
        (λ _. whole_line)

  -- the start of a line
  starts : (b : Bool) (x y : Table) → (b ≡ true → x.fault ≡ 0 → x.field ≡ 0) → (b ≡ false → y.fault ≡ 0 → y.field ≡ 0) → (cond b x y).fault ≡ 0 → (cond b x y).field ≡ 0
  starts true x y p q = p refl
  starts false x y p q = q refl

  line_starts : (line_ended t).fault ≡ 0 → (line_ended t).field ≡ 0
  unfolding line_ended whole_line_ended next_line
  line_starts =
      let w =
      starts (eqb (field_fault t) 0) _ _
      (λ p. starts (eqb (end_fault t) 0) (next_line t) (faulty t (end_fault t)) (λ _ _. refl) (λ q e. absurd (eqb-false _ _ q e)))
      (λ p e. absurd (eqb-false _ _ p e)) in
      starts (eqb t.field 0) _ _ (λ p. starts (eqb t.cell.size 0) t (whole_line_ended t) (λ _ _. eqb-true _ _ p) (λ _. w)) (λ _. w)

  finish : (u : Table) (m : ℕ) → Kept u m → Kept (finished u) m
  unfolding finished
  finish u m h = either m (eqb u.fault 0) _ _ (λ _. either m (eqb u.boats 0) _ _ (λ _. faulted u 9 m (λ e. omega arith)) (λ _. h)) (λ _. h)

  consume : (k : ℕ) → Kept (consumed t k) (n + length (ended_value t n k))
  unfolding consumed
  consume k =
      let m = n + length (ended_value t n k) in
      let is : (j : ℕ) → eqb k j ≡ true → k ≡ j = eqb-true k in
      either m (ltb k 256) _ _ (λ p. rw (no_more t n k (test_byte t k z (ltb-true k 256 p))) (in_text k))
      (λ p0.
      either m (eqb k 256) _ _ (λ p. at_field k (omega (arith, is 256 p)) (omega (arith, is 256 p)))
      (λ p1.
      either m (eqb k 257) _ _ (λ p. line_kept k (omega (arith, is 257 p)) (omega (arith, is 257 p)))
      (λ p2.
      either m (eqb k 258) _ _ (λ p. finish (line_ended t) m (line_kept k (omega (arith, is 258 p)) (omega (arith, is 258 p))))
      (λ p3.
      either m (eqb k 259) _ _ (λ p _. rw (no_more t n k (test_other t k z (omega (arith, is 259 p)) (omega (arith, is 259 p)))) s)
      (λ p4. faulted t k m (λ e. omega (arith, ltb-false k 256 p0)))))))

-- one token more
pub kept_more : (t : Table) (n : ℕ) → Kept t n → (k : ℕ) → Kept (after t k) (n + length (ended_value t n k))
unfolding after
kept_more t n h k =
    either (n + length (ended_value t n k)) (eqb t.fault 0) _ _ (λ p. let z = eqb-true _ _ p in consume t z n (h z) k) (λ p e. absurd (eqb-false _ _ p e))

-- ---- the end of the text
pub record Ended (u : Table) (n : ℕ) : Type 0 where
  pub some_boats : 1 ≤ u.boats
  pub most_boats : u.boats ≤ 256
  pub some_columns : 1 ≤ u.columns
  pub most_columns : u.columns ≤ 64
  pub count : n ≡ u.boats * u.columns

abbrev pub Ends : Table → ℕ → Type 0
Ends u n = u.fault ≡ 0 → Ended u n

pick : (n : ℕ) (b : Bool) (x y : Table) → (b ≡ true → Ends x n) → (b ≡ false → Ends y n) → Ends (cond b x y) n
pick n true x y p q = p refl
pick n false x y p q = q refl

between_lines : (u : Table) (n : ℕ) → Placed u n → u.field ≡ 0 → (u.boats ≡ 0 → ⊥) → Ended u n
between_lines u n (in_names c b f m) z h = absurd (h b)
between_lines u n (at_line c d b f v m) z h = record { some_boats = positive u.boats h; most_boats = b; some_columns = c; most_columns = d; count = m }
between_lines u n (in_units c d b f v m) z h = absurd (omega arith)
between_lines u n (in_boat c d b f i v m) z h = absurd (omega arith)

ended : (u : Table) (n : ℕ) → Kept u n → (u.fault ≡ 0 → u.field ≡ 0) → Ends (finished u) n
unfolding finished
ended u n h f =
    pick n (eqb u.fault 0) _ _
    (λ p. pick n (eqb u.boats 0) _ _ (λ _ e. absurd (omega arith)) (λ q e. between_lines u n (h e) (f e) (eqb-false _ _ q)))
    (λ p e. absurd (eqb-false _ _ p e))

module _ (t : Table) (n : ℕ) (h : Kept t n) where
  pub end_kept : Ends (after t 258) (n + length (ended_value t n 258))
  unfolding after consumed
  end_kept =
      pick (n + length (ended_value t n 258)) (eqb t.fault 0) _ _
      (λ p.
      let z = eqb-true _ _ p in
      ended (line_ended t) (n + length (ended_value t n 258)) (line_kept t z n (h z) 258 (omega arith) (omega arith)) (line_starts t z n (h z)))
      (λ p e. absurd (eqb-false _ _ p e))

  pub open_kept : Ends (after t 261) (n + length (ended_value t n 261))
  unfolding after consumed
  open_kept = pick (n + length (ended_value t n 261)) (eqb t.fault 0) _ _ (λ p e. absurd (omega arith)) (λ p e. absurd (eqb-false _ _ p e))
