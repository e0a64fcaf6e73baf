-- Lines of a written fleet: column names, units, boats.
use mathlib.Core.Path.{◌≡◌, refl, sym, ap, ◌∙◌}
use mathlib.Core.Bool.{Bool, true, false}
use mathlib.Core.List.{List, [], ◌∷◌, ◌++◌, map}
use Prim.Native.Nat.{ℕ, zero, suc, ◌+◌, ◌*◌, ◌≤◌, ◌<◌}
use native.Mathlib.Nat.{add-mul, mul-le-mul}
use native.Mathlib.Omega.{arith}
use borrow.Author.Tests.{eq-eqb, lt-ltb}
use lib.IntN.{ℤ}
use lib.ListN.{length}
use Rattle.files.specs.Bytes.{in_range, all_in_range}
use Rattle.csv_bytes.specs.declared.Cell.{Cell}
use Rattle.csv_bytes.specs.declared.Mode.TheVariants.{Start, Plain, Closing}
use Rattle.csv_bytes.specs.Cells.{no_bytes, signed, read_from}
use Rattle.csv_numbers.proofs.Reading.{read_size}
use Rattle.csv_fleet_tokens.specs.Table.{Table, UNIT, number_fault, field_fault, limit, units_after, end_fault, columns_after, boats_after, word_after, after}
use Rattle.csv_fleet_tokens.proofs.Steps.{name_some, limit_first, limit_later, word_first, word_later, fault_header, units_word, units_kept, columns_first, columns_kept, boats_first, end_names, fault_units, fault_name, fault_value, boats_units, boats_more, end_whole, field_next, line_next, line_later, after_good, token_field, token_line}
use Rattle.csv_fleet_reader.specs.Fleet.{ends_value, ended_value}
use Rattle.csv_fleet_reader.proofs.Values.{test_names, test_units, test_name, test_value}
use Rattle.csv_fleet_round_trip.specs.Writing.{Boat, quoted, figures, fields, line, boat_lines}
use Rattle.csv_fleet_round_trip.specs.Back.{All, UnitFits, NameFits, BoatFits, none, more}
use Rattle.csv_fleet_round_trip.proofs.Going.{Goes, goes_nil, goes_then, goes_on, goes_byte, no_value, at, word_with, no_word, both_true, all_plain, plain, quoted_goes, plain_goes}
use Rattle.csv_fleet_round_trip.proofs.Numbers.{cell_of, Number, number}

positive : (c : ℕ) → (c ≡ 0 → ⊥) → 0 < c
positive zero h = absurd (h refl)
positive (suc c) h = omega arith

-- ---- the ends of fields and lines
field_goes : (t : Table) → t.fault ≡ 0 → t.field < limit t.columns → field_fault t ≡ 0 → {u : Bool} → u ≡ units_after t →
    record { field = t.field + 1; columns = t.columns; boats = t.boats; units = u; cell = no_bytes; word = 0; fault = 0 } ≡ after t 256
field_goes t z h e eu = after_good t 256 z (token_field t 256 refl (field_next t refl h refl e eu refl))

line_goes : (t : Table) → t.fault ≡ 0 → (t.field ≡ 0 → ⊥) → field_fault t ≡ 0 → end_fault t ≡ 0 → {c : ℕ} → c ≡ columns_after t → {b : ℕ} → b ≡ boats_after t → {w : ℕ} → w ≡ word_after t.columns →
    record { field = 0; columns = c; boats = b; units = false; cell = no_bytes; word = w; fault = 0 } ≡ after t 257
line_goes t z f e g ec eb ew = after_good t 257 z (token_line t 257 refl (line_later t f (line_next t refl e refl g ec eb refl ew)))

pub named : (ks : List ℕ) → 1 ≤ length ks → (read_from no_bytes ks).size ≡ 0 → ⊥
named ks h e = omega (arith, read_size no_bytes ks)

-- ---- the column names
module _ (f : ℕ) (x : Cell) (w : ℕ) (s : x.size ≡ 0 → ⊥) where
  header_fault : field_fault (at f 0 0 false x w) ≡ 0
  header_fault = sym (fault_header (at f 0 0 false x w) refl (name_some x s))

  header_none : (n k : ℕ) → 256 ≤ k → k ≤ 258 → [] ≡ ended_value (at f 0 0 false x w) n k
  header_none n k a b = no_value (at f 0 0 false x w) n k (test_names (at f 0 0 false x w) k refl a b refl)

header_units : (f : ℕ) (x : Cell) (w : ℕ) → (f ≡ 0 → w ≡ 5) → false ≡ units_after (at f 0 0 false x w)
header_units zero x w h = sym (rw (h refl) refl) ∙ units_word (at 0 0 0 false x w) refl
header_units (suc f) x w h = units_kept (at (suc f) 0 0 false x w) (λ e. omega arith)

header_comma : (f : ℕ) (x : Cell) (w n : ℕ) → (x.size ≡ 0 → ⊥) → f < 64 → (f ≡ 0 → w ≡ 5) → Goes Closing (at f 0 0 false x w) n (44 ∷ []) Start (at (f + 1) 0 0 false no_bytes 0) []
header_comma f x w n s h e =
    goes_byte n 44 refl (field_goes (at f 0 0 false x w) refl (rw (← limit_first 0 refl) h) (header_fault f x w s) (header_units f x w e)) (header_none f x w s n 256 (omega arith) (omega arith))

header_end : (f : ℕ) (x : Cell) (w n : ℕ) → (x.size ≡ 0 → ⊥) → (f ≡ 0 → ⊥) → Goes Closing (at f 0 0 false x w) n (10 ∷ []) Start (at 0 f 0 false no_bytes 0) []
header_end f x w n s h =
    let t = at f 0 0 false x w in
    goes_byte n 10 refl (line_goes t refl h (header_fault f x w s) (sym (end_names t refl h)) (columns_first t refl) (boats_first t refl) (word_first 0 refl)) (header_none f x w s n 257 (omega arith) (omega arith))

pub header_fields : (cs : List (List ℕ)) → All NameFits cs → (f : ℕ) (x : Cell) (w n : ℕ) → (x.size ≡ 0 → ⊥) → f + length cs ≤ 64 → 1 ≤ f + length cs → (f ≡ 0 → w ≡ 5) →
    Goes Closing (at f 0 0 false x w) n (fields (map quoted cs)) Start (at 0 (f + length cs) 0 false no_bytes 0) []
unfolding fields
header_fields [] none f x w n s h o e =
    let p : f + 0 ≡ f = omega arith in
    rw p (header_end f x w n s (λ z. omega arith))
header_fields (c ∷ cs) (more i is) f x w n s h o e =
    let p : f + suc (length cs) ≡ f + 1 + length cs = omega arith in
    rw p
    (goes_on (header_comma f x w n s (omega arith) e)
    (goes_on (quoted_goes (f + 1) 0 0 false n 0 c i.text.most i.text.bytes)
    (header_fields cs is (f + 1) (read_from no_bytes c) (word_with 0 c) n (named c i.some) (omega arith) (omega arith) (λ z. absurd (omega arith)))))

-- ---- the units
module _ (c : ℕ) (q : c ≡ 0 → ⊥) where
  unit_none : (f : ℕ) (x : Cell) (w n k : ℕ) → 256 ≤ k → k ≤ 258 → [] ≡ ended_value (at f c 0 true x w) n k
  unit_none f x w n k a b = no_value (at f c 0 true x w) n k (test_units (at f c 0 true x w) k refl a b q refl)

  unit_comma : (f : ℕ) (x : Cell) (w n : ℕ) → (f ≡ 0 → ⊥) → f < c → Goes Closing (at f c 0 true x w) n (44 ∷ []) Start (at (f + 1) c 0 true no_bytes 0) []
  unit_comma f x w n o h =
      let t = at f c 0 true x w in
      goes_byte n 44 refl (field_goes t refl (rw (← limit_later c q) h) (sym (fault_units t q refl)) (units_kept t o)) (unit_none f x w n 256 (omega arith) (omega arith))

  unit_end : (f : ℕ) (x : Cell) (w n : ℕ) → f ≡ c → Goes Closing (at f c 0 true x w) n (10 ∷ []) Start (at 0 c 0 false no_bytes 5) []
  unit_end f x w n e =
      let t = at f c 0 true x w in
      goes_byte n 10 refl
      (line_goes t refl (λ z. q (sym e ∙ z)) (sym (fault_units t q refl)) (sym (end_whole t q e)) (columns_kept t q) (boats_units t q refl) (word_later c q))
      (unit_none f x w n 257 (omega arith) (omega arith))

  unit_fields : (us : List (List ℕ)) → All UnitFits us → (f : ℕ) (x : Cell) (w n : ℕ) → (f ≡ 0 → ⊥) → f + length us ≡ c → Goes Closing (at f c 0 true x w) n (fields (map quoted us)) Start (at 0 c 0 false no_bytes 5) []
  unfolding fields
  unit_fields [] none f x w n o h = unit_end f x w n (omega arith)
  unit_fields (u ∷ us) (more i is) f x w n o h =
      goes_on (unit_comma f x w n o (omega arith))
      (goes_on (quoted_goes (f + 1) c 0 true n 0 u i.most i.bytes) (unit_fields us is (f + 1) (read_from no_bytes u) (word_with 0 u) n (λ z. omega arith) (omega arith)))

  unit_cell : Cell
  unit_cell = read_from no_bytes UNIT

  unit_size : unit_cell.size ≡ 0 → ⊥
  unfolding unit_cell read_from
  unit_size e = omega arith

  unit_word : Goes Start (at 0 c 0 false no_bytes 0) 0 UNIT Plain (at 0 c 0 false unit_cell 4) []
  unfolding unit_cell word_with all_plain plain
  unit_word = plain_goes 0 c 0 false 0 0 UNIT (omega arith) (omega arith) refl

  unit_first : Goes Plain (at 0 c 0 false unit_cell 4) 0 (44 ∷ []) Start (at 1 c 0 true no_bytes 0) []
  unit_first =
      let t = at 0 c 0 false unit_cell 4 in
      goes_byte 0 44 refl
      (field_goes t refl (rw (← limit_later c q) (positive c q)) (sym (fault_name t q refl refl (omega arith) (name_some unit_cell unit_size))) (units_word t refl))
      (no_value t 0 256 (test_name t 256 refl (omega arith) (omega arith) q refl refl))

  pub unit_line : (us : List (List ℕ)) → All UnitFits us → length us ≡ c → Goes Start (at 0 c 0 false no_bytes 0) 0 (line UNIT (map quoted us)) Start (at 0 c 0 false no_bytes 5) []
  unfolding line fields
  unit_line [] none h = absurd (q (sym h))
  unit_line (u ∷ us) (more i is) h =
      goes_on unit_word
      (goes_on unit_first
      (goes_on (quoted_goes 1 c 0 true 0 0 u i.most i.bytes) (unit_fields us is 1 (read_from no_bytes u) (word_with 0 u) 0 (λ z. omega arith) (omega arith))))

-- ---- a boat
one_value : (t : Table) (n k : ℕ) → n < 16384 → true ≡ ends_value t k → signed t.cell.negative t.cell.magnitude ∷ [] ≡ ended_value t n k
unfolding ended_value
one_value t n k h e = rw (lt-ltb n 16384 h, ← e)

module _ (c b : ℕ) (q : c ≡ 0 → ⊥) where
  module _ (v : ℤ) (i : Number v) (f w : ℕ) (o : f ≡ 0 → ⊥) where
    value_fault : field_fault (at f c b false (cell_of v) w) ≡ 0
    value_fault = sym (fault_value (at f c b false (cell_of v) w) q refl o (sym i.no_fault))

    value_ends : (n k : ℕ) → n < 16384 → 256 ≤ k → k ≤ 258 → v ∷ [] ≡ ended_value (at f c b false (cell_of v) w) n k
    value_ends n k l x y =
        let t = at f c b false (cell_of v) w in
        let e : true ≡ ends_value t k = sym (eq-eqb (number_fault (cell_of v)) 0 i.no_fault) ∙ test_value t k refl x y q refl o refl in
        ap (λ z. z ∷ []) (sym i.back) ∙ one_value t n k l e

    value_comma : (n : ℕ) → n < 16384 → f < c → Goes Plain (at f c b false (cell_of v) w) n (44 ∷ []) Start (at (f + 1) c b false no_bytes 0) (v ∷ [])
    value_comma n l h =
        let t = at f c b false (cell_of v) w in
        goes_byte n 44 refl (field_goes t refl (rw (← limit_later c q) h) value_fault (units_kept t o)) (value_ends n 256 l (omega arith) (omega arith))

    value_end : (n : ℕ) → n < 16384 → f ≡ c → Goes Plain (at f c b false (cell_of v) w) n (10 ∷ []) Start (at 0 c (b + 1) false no_bytes 5) (v ∷ [])
    value_end n l e =
        let t = at f c b false (cell_of v) w in
        goes_byte n 10 refl (line_goes t refl o value_fault (sym (end_whole t q e)) (columns_kept t q) (boats_more t q refl) (word_later c q)) (value_ends n 257 l (omega arith) (omega arith))

    value_text : (n w₀ : ℕ) → w ≡ word_with w₀ (figures v) → Goes Start (at f c b false no_bytes w₀) n (figures v) Plain (at f c b false (cell_of v) w) []
    value_text n w₀ e = rw e (plain_goes f c b false n w₀ (figures v) i.some i.most i.plain_figures)

  values_go : (v : ℤ) (vs : List ℤ) → all_in_range (v ∷ vs) ≡ true → (f w n : ℕ) → (f ≡ 0 → ⊥) → f + length vs ≡ c → n + suc (length vs) ≤ 16384 →
      Goes Start (at f c b false no_bytes w) n (figures v ++ fields (map figures vs)) Start (at 0 c (b + 1) false no_bytes 5) (v ∷ vs)
  unfolding fields all_in_range
  values_go v [] h f w n o e l =
      let i = number v (both_true (in_range v) true h).0 in
      goes_on (value_text v i f (word_with w (figures v)) o n w refl) (value_end v i f (word_with w (figures v)) o n (omega arith) (omega arith))
  values_go v (u ∷ us) h f w n o e l =
      let p = both_true (in_range v) (all_in_range (u ∷ us)) h in
      let i = number v p.0 in
      goes_on (value_text v i f (word_with w (figures v)) o n w refl)
      (goes_then (value_comma v i f (word_with w (figures v)) o n (omega arith) (omega arith)) refl (values_go u us p.1 (f + 1) 0 (n + 1) (λ z. omega arith) (omega arith) (omega arith)))

  name_comma : (x : Cell) (n : ℕ) → (x.size ≡ 0 → ⊥) → b < 256 → Goes Closing (at 0 c b false x 5) n (44 ∷ []) Start (at 1 c b false no_bytes 0) []
  name_comma x n s h =
      let t = at 0 c b false x 5 in
      goes_byte n 44 refl (field_goes t refl (rw (← limit_later c q) (positive c q)) (sym (fault_name t q refl refl h (name_some x s))) (units_word t refl))
      (no_value t n 256 (test_name t 256 refl (omega arith) (omega arith) q refl refl))

  named_boat : (a : List ℕ) → NameFits a → (n : ℕ) → Goes Start (at 0 c b false no_bytes 5) n (quoted a) Closing (at 0 c b false (read_from no_bytes a) 5) []
  named_boat a i n = rw (no_word a) at (quoted_goes 0 c b false n 5 a i.text.most i.text.bytes)

  boat_values : (x : Cell) → (x.size ≡ 0 → ⊥) → b < 256 → (n : ℕ) → n + c ≤ 16384 → (vs : List ℤ) → length vs ≡ c → all_in_range vs ≡ true →
      Goes Closing (at 0 c b false x 5) n (fields (map figures vs)) Start (at 0 c (b + 1) false no_bytes 5) vs
  unfolding fields
  boat_values x s h n l [] e r = absurd (q (sym e))
  boat_values x s h n l (v ∷ vs) e r = goes_on (name_comma x n s h) (values_go v vs r 1 0 n (λ z. omega arith) (omega arith) (omega arith))

  boat_goes : (a : Boat) → BoatFits c a → b < 256 → (n : ℕ) → n + c ≤ 16384 → Goes Start (at 0 c b false no_bytes 5) n (line (quoted a.name) (map figures a.values)) Start (at 0 c (b + 1) false no_bytes 5) a.values
  unfolding line
  boat_goes a i h n l =
      goes_on (named_boat a.name i.name_fits n)
      (boat_values (read_from no_bytes a.name) (named a.name i.name_fits.some) h n l a.values i.long i.in_range)

-- ---- all boats
unfoldable pub all_values : List Boat → List ℤ
all_values [] = []
all_values (a ∷ rest) = a.values ++ all_values rest

pub boats_go : (c : ℕ) → (c ≡ 0 → ⊥) → c ≤ 64 → (rest : List Boat) → All (BoatFits c) rest → (b n : ℕ) → n ≡ b * c → b + length rest ≤ 256 →
    Goes Start (at 0 c b false no_bytes 5) n (boat_lines rest) Start (at 0 c (b + length rest) false no_bytes 5) (all_values rest)
unfolding boat_lines all_values
boats_go c q m [] none b n e h = let p : b + 0 ≡ b = omega arith in rw p goes_nil
boats_go c q m (a ∷ rest) (more i is) b n e h =
    let p : b + suc (length rest) ≡ b + 1 + length rest = omega arith in
    let k : b ≤ 255 = omega arith in
    let l : b * c ≤ 255 * 64 = mul-le-mul k m in
    rw p (goes_then (boat_goes c b q a i (omega arith) n (omega arith)) refl (boats_go c q m rest is (b + 1) (n + length a.values) (omega (arith, i.long, add-mul b 1 c)) (omega arith)))
