-- Each value of a fleet is the number that the figures of its field say: the cell of a table is what is read of the field's bytes so far.
use mathlib.Core.Path.{◌≡◌, refl, sym, ap, ◌∙◌}
use mathlib.Core.Bool.{Bool, true, false, cond}
use mathlib.Core.List.{List, [], ◌∷◌, ◌++◌}
use Prim.Native.Nat.{ℕ, ◌+◌, ◌≤◌}
use native.Mathlib.Omega.{arith}
use borrow.Author.Tests.{ltb-true, ltb-false, eqb-true, eqb-false, eq-eqb, ne_eqb, lt-ltb, le-ltb}
use lib.Dec.{ltb, eqb}
use lib.IntN.{ℤ}
use lib.ListN.{length}
use Rattle.csv_bytes.specs.declared.Cell.{Cell}
use Rattle.csv_bytes.specs.Cells.{no_bytes, with_byte, is_number, read_from, read, signed}
use Rattle.csv_bytes.specs.Tokens.{csv_tokens}
use Rattle.csv_numbers.proofs.Reading.{read_more, read_size}
use Rattle.csv_numbers.proofs.Saying.{says_value}
use Rattle.csv_fleet_tokens.specs.Table.{Table, start, faulty, with_text, number_fault, field_fault, limit, next_field, field_ended, end_fault, next_line, whole_line_ended, line_ended, finished, consumed, after}
use Rattle.csv_fleet_reader.specs.Fleet.{ends_value, ended_value, values_from, fleet_values}
use Rattle.csv_fleet_reader.proofs.Values.{value_small, value_whole}
use Rattle.csv_fleet_rows.specs.Texts.{text_after, ended_text, texts_from, fleet_texts, EachSays, none, one_more, ValuesSaid}

empty : (w : List ℕ) → length w ≡ 0 → w ≡ []
empty [] e = refl
empty (x ∷ w) e = absurd (omega arith)

-- ---- the cell of a table without fault is what is read of w
abbrev Cells : Table → List ℕ → Type 0
Cells t w = t.fault ≡ 0 → t.cell ≡ read w

either : (w : List ℕ) (b : Bool) (x y : Table) → (b ≡ true → Cells x w) → (b ≡ false → Cells y w) → Cells (cond b x y) w
either w true x y p q = p refl
either w false x y p q = q refl

faulted : (t : Table) (f : ℕ) (w : List ℕ) → (f ≡ 0 → ⊥) → Cells (faulty t f) w
faulted t f w h e = absurd (h e)

module _ (t : Table) (w : List ℕ) (z : t.fault ≡ 0) (e : t.cell ≡ read w) where
  with_one : (k : ℕ) → Cells (with_text t k) (w ++ (k ∷ []))
  unfolding with_text read
  with_one k = either (w ++ (k ∷ [])) (ltb t.cell.size 200) _ _ (λ _ _. rw e (sym (read_more no_bytes w k))) (λ _. faulted t 1 (w ++ (k ∷ [])) (λ y. omega arith))

  at_field : Cells (field_ended t) []
  unfolding field_ended next_field read read_from
  at_field =
      either [] (ltb t.field (limit t.columns)) _ _ (λ _. either [] (eqb (field_fault t) 0) _ _ (λ _ _. refl) (λ q. faulted t (field_fault t) [] (eqb-false _ _ q)))
      (λ _. faulted t 4 [] (λ y. omega arith))

  whole_line : Cells (whole_line_ended t) []
  unfolding whole_line_ended next_line read read_from
  whole_line =
      either [] (eqb (field_fault t) 0) _ _ (λ _. either [] (eqb (end_fault t) 0) _ _ (λ _ _. refl) (λ q. faulted t (end_fault t) [] (eqb-false _ _ q)))
      (λ p. faulted t (field_fault t) [] (eqb-false _ _ p))

  no_text : t.cell.size ≡ 0 → t.cell ≡ read []
  unfolding read
  no_text s = e ∙ ap read (empty w (omega (arith, read_size no_bytes w, ap (λ (c : Cell). c.size) e)))

  at_line : Cells (line_ended t) []
  unfolding line_ended
  at_line = either [] (eqb t.field 0) _ _ (λ _. either [] (eqb t.cell.size 0) _ _ (λ p _. no_text (eqb-true _ _ p)) (λ _. whole_line)) (λ _. whole_line)

  at_end : Cells (finished (line_ended t)) []
  unfolding finished
  at_end = either [] (eqb (line_ended t).fault 0) _ _ (λ _. either [] (eqb (line_ended t).boats 0) _ _ (λ _. faulted (line_ended t) 9 [] (λ y. omega arith)) (λ _. at_line)) (λ _. at_line)

  -- a token
  after_text : (k : ℕ) → ltb k 256 ≡ true → text_after w k ≡ w ++ (k ∷ [])
  unfolding text_after
  after_text k p = simp p

  after_end : (k : ℕ) → ltb k 256 ≡ false → (k ≡ 259 → ⊥) → text_after w k ≡ []
  unfolding text_after
  after_end k p h = simp (p, ne_eqb k 259 h)

  after_nothing : (k : ℕ) → k ≡ 259 → text_after w k ≡ w
  unfolding text_after
  after_nothing k h = rw h refl

  consume : (k : ℕ) → Cells (consumed t k) (text_after w k)
  unfolding consumed
  consume k =
      let u = text_after w k in
      let is : (j : ℕ) → eqb k j ≡ true → k ≡ j = eqb-true k in
      either u (ltb k 256) _ _ (λ p. rw (after_text k p) (with_one k))
      (λ p0.
      either u (eqb k 256) _ _ (λ p. rw (after_end k p0 (λ y. omega (arith, is 256 p))) at_field)
      (λ p1.
      either u (eqb k 257) _ _ (λ p. rw (after_end k p0 (λ y. omega (arith, is 257 p))) at_line)
      (λ p2.
      either u (eqb k 258) _ _ (λ p. rw (after_end k p0 (λ y. omega (arith, is 258 p))) at_end)
      (λ p3. either u (eqb k 259) _ _ (λ p _. rw (after_nothing k (is 259 p)) e) (λ p4. faulted t k u (λ y. omega (arith, ltb-false k 256 p0)))))))

cells_more : (t : Table) (w : List ℕ) → Cells t w → (k : ℕ) → Cells (after t k) (text_after w k)
unfolding after
cells_more t w h k = either (text_after w k) (eqb t.fault 0) _ _ (λ p. let z = eqb-true _ _ p in consume t w z (h z) k) (λ p e. absurd (eqb-false _ _ p e))

-- ---- the values
says_append : {vs us : List ℤ} {ws xs : List (List ℕ)} → EachSays vs ws → EachSays us xs → EachSays (vs ++ us) (ws ++ xs)
says_append none q = q
says_append (one_more s p) q = one_more s (says_append p q)

-- a value that a token ends
ended_says : (t : Table) (w : List ℕ) → Cells t w → (n k : ℕ) → EachSays (ended_value t n k) (ended_text t n k w)
unfolding ended_value ended_text
ended_says t w h n k = by (ltb n 16384) (ends_value t k) refl
  where
    by : (a b : Bool) → b ≡ ends_value t k → EachSays (cond a (cond b (signed t.cell.negative t.cell.magnitude ∷ []) []) []) (cond a (cond b (w ∷ []) []) [])
    by true true e =
        let c = h (value_whole t k (sym e)).0 in
        let l = value_small t k e refl in
        rw c (one_more (says_value w (rw (← c) (value_whole t k (sym e)).1) (rw (← c) (omega arith))) none)
    by true false e = none
    by false b e = none

all_say : (t : Table) (w : List ℕ) → Cells t w → (n : ℕ) (ks : List ℕ) → EachSays (values_from t n ks) (texts_from t n w ks)
unfolding values_from texts_from
all_say t w h n [] = none
all_say t w h n (k ∷ ks) = says_append (ended_says t w h n k) (all_say (after t k) (text_after w k) (cells_more t w h k) (n + length (ended_value t n k)) ks)

pub values_said : ValuesSaid
unfolding ValuesSaid fleet_values fleet_texts read read_from
values_said csv = all_say start [] (λ _. refl) 0 (csv_tokens csv)
