-- A fleet read byte by byte: what is left of the text decides as the whole does.
use mathlib.Core.Path.{◌≡◌, refl, sym, ap, ◌∙◌}
use mathlib.Core.Bool.{Bool, true, false, cond}
use mathlib.Core.List.{List, [], ◌∷◌}
use Prim.Native.Nat.{ℕ, ◌+◌, ◌*◌, ◌≤◌, ◌<◌}
use native.Mathlib.Numerals.{add-one}
use native.Mathlib.Omega.{arith}
use borrow.Author.Tests.{ltb-false}
use lib.Dec.{ltb, eqb}
use lib.ListN.{length, get_or, drop, length-append, drop_of_length-le}
use lib.Seq.{drop-cons}
use Rattle.buffers.specs.Placed.{placed}
use Rattle.sheet_output.specs.Output.{values_bytes}
use Rattle.sheet_output.proofs.Values.{length_values_bytes, values_bytes_append}
use Rattle.buffers.proofs.Writing.{Writing, writing_start, writing_more, writing_end}
use Rattle.csv_bytes.specs.Cells.{with_byte, progress}
use Rattle.csv_bytes.specs.declared.Cell.{Cell}
use Rattle.csv_bytes.specs.declared.Mode.{Mode}
use Rattle.csv_bytes.specs.declared.Mode.TheVariants.{Start, Plain, Quoted, Closing, Return}
use Rattle.csv_bytes.specs.Tokens.{NumberedStep, step, ending, tokens, separator, mark_size, csv_tokens}
use Rattle.csv_fleet_tokens.specs.Table.{Table, start, faulty, UNIT, with_text, field_fault, limit, next_field, field_ended, end_fault, boats_after, next_line, whole_line_ended, line_ended, finished, consumed, after}
use Rattle.csv_fleet_reader.specs.Fleet.{ended_value, values_from, table_from, next_number, line_from, fleet_values, last_table, last_line}
use Rattle.csv_fleet_reader.proofs.Values.{few_values}

-- ---- a token adds at most one boat
Slow : Table → Table → Type 0
Slow t u = u.boats ≤ t.boats + 1

either : (t : Table) (b : Bool) (x y : Table) → Slow t x → Slow t y → Slow t (cond b x y)
either t true x y p q = p
either t false x y p q = q

one_boat : (n : ℕ) (a b : Bool) → cond a n (cond b n (n + 1)) ≤ n + 1
one_boat n true b = omega arith
one_boat n false true = omega arith
one_boat n false false = omega arith

module _ (t : Table) where
  kept : Slow t t
  unfolding Slow
  kept = omega arith

  faulty_slow : (u : Table) → Slow t u → (f : ℕ) → Slow t (faulty u f)
  unfolding Slow
  faulty_slow u h f = h

  added_slow : (c : Cell) (w : ℕ) → Slow t (record { field = t.field; columns = t.columns; boats = t.boats; units = t.units; cell = c; word = w; fault = t.fault })
  unfolding Slow
  added_slow c w = omega arith

  text_slow : (k : ℕ) → Slow t (with_text t k)
  unfolding with_text
  text_slow k = either t (ltb t.cell.size 200) _ _ (added_slow (with_byte t.cell k) (progress UNIT t.word k)) (faulty_slow t kept 1)

  next_field_slow : Slow t (next_field t)
  unfolding Slow next_field
  next_field_slow = omega arith

  field_slow : Slow t (field_ended t)
  unfolding field_ended
  field_slow =
      either t (ltb t.field (limit t.columns)) _ _ (either t (eqb (field_fault t) 0) _ _ next_field_slow (faulty_slow t kept (field_fault t)))
      (faulty_slow t kept 4)

  next_line_slow : Slow t (next_line t)
  unfolding Slow next_line boats_after
  next_line_slow = one_boat t.boats (eqb t.columns 0) t.units

  whole_slow : Slow t (whole_line_ended t)
  unfolding whole_line_ended
  whole_slow =
      either t (eqb (field_fault t) 0) _ _ (either t (eqb (end_fault t) 0) _ _ next_line_slow (faulty_slow t kept (end_fault t)))
      (faulty_slow t kept (field_fault t))

  line_slow : Slow t (line_ended t)
  unfolding line_ended
  line_slow = either t (eqb t.field 0) _ _ (either t (eqb t.cell.size 0) _ _ kept whole_slow) whole_slow

  finished_slow : (u : Table) → Slow t u → Slow t (finished u)
  unfolding finished
  finished_slow u h = either t (eqb u.fault 0) _ _ (either t (eqb u.boats 0) _ _ (faulty_slow u h 9) h) h

  consumed_slow : (k : ℕ) → Slow t (consumed t k)
  unfolding consumed
  consumed_slow k =
      either t (ltb k 256) _ _ (text_slow k)
      (either t (eqb k 256) _ _ field_slow
      (either t (eqb k 257) _ _ line_slow
      (either t (eqb k 258) _ _ (finished_slow (line_ended t) line_slow) (either t (eqb k 259) _ _ kept (faulty_slow t kept k)))))

  slow : (k : ℕ) → Slow t (after t k)
  unfolding after
  slow k = either t (eqb t.fault 0) _ _ (consumed_slow k) kept

  pub after_slow : (k : ℕ) → (after t k).boats ≤ t.boats + 1
  unfolding Slow
  after_slow k = slow k

-- ---- the text
pub mark_inside : (bs : List ℕ) → mark_size bs ≤ length bs
mark_inside bs = by (ltb (length bs) 3) refl (eqb (get_or bs 0 0) 239) (eqb (get_or bs 1 0) 187) (eqb (get_or bs 2 0) 191)
  where
    by : (s : Bool) → ltb (length bs) 3 ≡ s → (a b c : Bool) → cond s 0 (cond a (cond b (cond c 3 0) 0) 0) ≤ length bs
    by true e a b c = omega arith
    by false e true true true = ltb-false (length bs) 3 e
    by false e true true false = omega arith
    by false e true false c = omega arith
    by false e false b c = omega arith

pub next_tokens : (sep : ℕ) (m : Mode) (bs : List ℕ) (i : ℕ) → i < length bs → {s : NumberedStep} → s ≡ step sep m (get_or bs i 0) → tokens sep m (drop i bs) ≡ s.token ∷ tokens sep s.mode (drop (i + 1) bs)
unfolding tokens
next_tokens sep m bs i h e = ap (tokens sep m) (drop-cons bs i 0 h) ∙ rw (e, add-one)

pub last_token : (sep : ℕ) (m : Mode) (bs : List ℕ) (i : ℕ) → length bs ≤ i → tokens sep m (drop i bs) ≡ ending m ∷ []
unfolding tokens
last_token sep m bs i h = ap (tokens sep m) (drop_of_length-le bs {i = i} h)

pub record Reading (csv out : List ℕ) (sep : ℕ) (table : Table) (mode : Mode) (line n i : ℕ) (now : List ℕ) : Type 0 where
  pub within : i ≤ length csv
  pub few_lines : line ≤ i + 1
  pub few_boats : table.boats ≤ i
  pub tables : table_from table (tokens sep mode (drop i csv)) ≡ last_table csv
  pub lines : line_from line table (tokens sep mode (drop i csv)) ≡ last_line csv
  pub counts : n + length (values_from table n (tokens sep mode (drop i csv))) ≡ length (fleet_values csv)
  pub so_far : Writing out 0 (values_bytes (fleet_values csv)) (2 * n) (values_bytes (values_from table n (tokens sep mode (drop i csv)))) now

pub reading_start : {csv out : List ℕ} {sep i : ℕ} {t : Table} → sep ≡ separator csv → t ≡ start → i ≡ mark_size csv → Reading csv out sep t Start 1 0 i out
unfolding csv_tokens fleet_values last_table last_line
reading_start {csv} es et ei =
    rw (es, et, ei)
    (record {
      within = mark_inside csv;
      few_lines = omega arith;
      few_boats = omega arith;
      tables = refl;
      lines = refl;
      counts = omega arith;
      so_far = writing_start;
    })

fits : (csv out : List ℕ) → 32768 ≤ length out → 0 + length (values_bytes (fleet_values csv)) ≤ length out
unfolding fleet_values
fits csv out l = omega (arith, length_values_bytes (values_from start 0 (csv_tokens csv)), few_values start 0 (csv_tokens csv) (omega arith))

-- one token more, whatever comes after it
module _ {csv out : List ℕ} {sep : ℕ} {table : Table} {mode : Mode} {line n i : ℕ} {now : List ℕ} (d : Reading csv out sep table mode line n i now) (l : 32768 ≤ length out) (k : ℕ) (ks : List ℕ)
    (q : tokens sep mode (drop i csv) ≡ k ∷ ks) {m : ℕ} (em : m ≡ n + length (ended_value table n k)) {new : List ℕ} (en : new ≡ placed now (2 * n) (values_bytes (ended_value table n k)))
    {next : Table} (et : next ≡ after table k) where
  token_table : table_from next ks ≡ last_table csv
  unfolding table_from
  token_table = rw et (rw q at d.tables)

  token_line : line_from (next_number line next.fault k) next ks ≡ last_line csv
  unfolding line_from
  token_line = rw et (rw q at d.lines)

  token_count : m + length (values_from next m ks) ≡ length (fleet_values csv)
  unfolding values_from
  token_count =
      rw (et, em)
      (omega (arith, rw q at d.counts, length-append (ended_value table n k) (values_from (after table k) (n + length (ended_value table n k)) ks)))

  token_written : Writing out 0 (values_bytes (fleet_values csv)) (2 * m) (values_bytes (values_from next m ks)) new
  unfolding values_from
  token_written =
      rw (et, em)
      (writing_more (rw q at d.so_far) (values_bytes (ended_value table n k)) (values_bytes (values_from (after table k) (n + length (ended_value table n k)) ks))
      (values_bytes_append (ended_value table n k) (values_from (after table k) (n + length (ended_value table n k)) ks)) (fits csv out l)
      (omega (arith, length_values_bytes (ended_value table n k))) en)

module _ {csv out : List ℕ} {sep : ℕ} {table : Table} {mode : Mode} {line n i : ℕ} {now : List ℕ} (d : Reading csv out sep table mode line n i now) (l : 32768 ≤ length out) where
  pub reading_more : i < length csv → {s : NumberedStep} → s ≡ step sep mode (get_or csv i 0) → {m : ℕ} → m ≡ n + length (ended_value table n s.token) → {new : List ℕ} →
      new ≡ placed now (2 * n) (values_bytes (ended_value table n s.token)) → {next : Table} → next ≡ after table s.token → {r : ℕ} → r ≡ next_number line next.fault s.token →
      r ≤ line + 1 → Reading csv out sep next s.mode r m (i + 1) new
  reading_more h {s} es em en et er hr =
      let q = next_tokens sep mode csv i h es in
      let ks = tokens sep s.mode (drop (i + 1) csv) in
      record {
        within = omega arith;
        few_lines = omega (arith, d.few_lines);
        few_boats = rw et (omega (arith, after_slow table s.token, d.few_boats));
        tables = token_table d l s.token ks q em en et;
        lines = rw er (token_line d l s.token ks q em en et);
        counts = token_count d l s.token ks q em en et;
        so_far = token_written d l s.token ks q em en et;
      }

  no_line : (f : ℕ) (m : Mode) → next_number line f (ending m) ≡ line
  no_line f m = by (eqb f 0) m
    where
      by : (b : Bool) (m : Mode) → cond b (cond (eqb (ending m) 257) (line + 1) line) line ≡ line
      by true Start = refl
      by true Plain = refl
      by true Quoted = refl
      by true Closing = refl
      by true Return = refl
      by false m = refl

  pub reading_end : length csv ≤ i → {k : ℕ} → k ≡ ending mode → {m : ℕ} → m ≡ n + length (ended_value table n k) → {new : List ℕ} → new ≡ placed now (2 * n) (values_bytes (ended_value table n k)) →
      {next : Table} → next ≡ after table k →
      (next ≡ last_table csv) × ((line ≡ last_line csv) × ((m ≡ length (fleet_values csv)) × (new ≡ placed out 0 (values_bytes (fleet_values csv)))))
  unfolding table_from line_from values_from values_bytes
  reading_end h {k} ek {m} em en {next} et =
      let q : tokens sep mode (drop i csv) ≡ k ∷ [] = rw ek (last_token sep mode csv i h) in
      let e : next_number line next.fault k ≡ line = rw ek (no_line next.fault mode) in (
        token_table d l k [] q em en et,
        (sym e ∙ token_line d l k [] q em en et, (omega (arith, token_count d l k [] q em en et), writing_end (token_written d l k [] q em en et) refl)),
      )
