-- The bytes of one field, one after the other: what is left of the text decides as the whole does.
use mathlib.Core.Path.{◌≡◌, refl, ap, ◌∙◌}
use mathlib.Core.Bool.{Bool, true, false, cond}
use mathlib.Core.List.{List, [], ◌∷◌, ◌++◌}
use Prim.Native.Nat.{ℕ, ◌+◌, ◌≤◌, ◌<◌}
use native.Mathlib.Omega.{arith}
use borrow.Author.Tests.{ltb-true, le-ltb}
use lib.Dec.{ltb}
use lib.ListN.{length, get_or, drop, length-append}
use Rattle.std.specs.Prelude.{Option}
use Rattle.buffers.specs.Placed.{placed}
use Rattle.buffers.proofs.Writing.{Writing, writing_start, writing_more, writing_end}
use Rattle.csv_bytes.specs.declared.Mode.{Mode}
use Rattle.csv_bytes.specs.declared.Mode.TheVariants.{Start, Plain, Quoted, Closing, Return}
use Rattle.csv_bytes.specs.Tokens.{NumberedStep, step, ending, tokens, separator, mark_size, csv_tokens}
use Rattle.csv_fleet_tokens.specs.Table.{Table, start, after}
use Rattle.csv_fleet_reader.specs.Fleet.{next_number}
use Rattle.csv_fleet_reader.proofs.Reading.{after_slow, mark_inside, next_tokens, last_token}
use Rattle.csv_fields.specs.Fields.{bytes_of, byte_where, within_200, is_at, byte_if, field_byte, field_from, field_text}

-- ---- whether a token is a byte of the field
at_no_byte : (l f n : ℕ) (t : Table) (k : ℕ) → 256 ≤ k → false ≡ is_at l f n t k
unfolding is_at
at_no_byte l f n t k h = rw (le-ltb k 256 h)

pub both : (b x : Bool) → cond b x false ≡ true → b ≡ true
both true x p = refl
both false x p = p

-- ---- a byte put
module _ (o : Option ℕ) (b : Bool) (k n : ℕ) (e : bytes_of o ≡ byte_where b k) where
  pub put_counted : {m : ℕ} → m ≡ n + length (within_200 n (bytes_of o)) → m ≡ n + length (byte_if b n k)
  unfolding byte_if
  put_counted h = h ∙ ap (λ (xs : List ℕ). n + length (within_200 n xs)) e

  pub put_placed : (now : List ℕ) {new : List ℕ} → new ≡ placed now n (within_200 n (bytes_of o)) → new ≡ placed now n (byte_if b n k)
  unfolding byte_if
  put_placed now h = h ∙ ap (λ (xs : List ℕ). placed now n (within_200 n xs)) e

-- ---- at most 200 bytes
one : (a b : Bool) (m k : ℕ) → ltb m 200 ≡ a → m ≤ 200 → m + length (cond a (cond b (k ∷ []) []) []) ≤ 200
one true true m k e h = omega (arith, ltb-true m 200 e)
one true false m k e h = omega arith
one false b m k e h = omega arith

pub few_one : (b : Bool) (m k : ℕ) → m ≤ 200 → m + length (byte_if b m k) ≤ 200
unfolding byte_if
few_one b m k h = one (ltb m 200) b m k refl h

few_from : (l f m n : ℕ) (t : Table) (ks : List ℕ) → m ≤ 200 → m + length (field_from l f m n t ks) ≤ 200
unfolding field_from
few_from l f m n t [] h = omega arith
few_from l f m n t (k ∷ ks) h =
    let x = field_byte l f m n t k in
    omega (
      arith,
      length-append x (field_from l f (m + length x) (next_number n (after t k).fault k) (after t k) ks),
      few_from l f (m + length x) (next_number n (after t k).fault k) (after t k) ks (few_one (is_at l f n t k) m k h),
    )

pub few_bytes : (l f : ℕ) (csv : List ℕ) → length (field_text l f csv) ≤ 200
unfolding field_text
few_bytes l f csv = omega (arith, few_from l f 0 1 start (csv_tokens csv) (omega arith))

-- ---- the text
pub record Fielding (l f : ℕ) (csv out : List ℕ) (sep : ℕ) (table : Table) (mode : Mode) (at n i : ℕ) (now : List ℕ) : Type 0 where
  pub within : i ≤ length csv
  pub few_lines : at ≤ i + 1
  pub few_boats : table.boats ≤ i
  pub counts : n + length (field_from l f n at table (tokens sep mode (drop i csv))) ≡ length (field_text l f csv)
  pub so_far : Writing out 0 (field_text l f csv) n (field_from l f n at table (tokens sep mode (drop i csv))) now

module _ (l f : ℕ) (csv out : List ℕ) where
  begins : Writing out 0 (field_text l f csv) 0 (field_from l f 0 1 start (tokens (separator csv) Start (drop (mark_size csv) csv))) out
  unfolding field_text csv_tokens
  begins = writing_start

  begins_count : 0 + length (field_from l f 0 1 start (tokens (separator csv) Start (drop (mark_size csv) csv))) ≡ length (field_text l f csv)
  unfolding field_text csv_tokens
  begins_count = omega arith

  pub fielding_start : {sep i : ℕ} {t : Table} → sep ≡ separator csv → t ≡ start → i ≡ mark_size csv → Fielding l f csv out sep t Start 1 0 i out
  fielding_start es et ei =
      rw (es, et, ei)
      (record { within = mark_inside csv; few_lines = omega arith; few_boats = omega arith; counts = begins_count; so_far = begins })

module _ {l f : ℕ} {csv out : List ℕ} {sep : ℕ} {table : Table} {mode : Mode} {at n i : ℕ} {now : List ℕ} (d : Fielding l f csv out sep table mode at n i now) (k : 200 ≤ length out) where
  next_fields : i < length csv → {s : NumberedStep} → s ≡ step sep mode (get_or csv i 0) → (x : List ℕ) → x ≡ field_byte l f n at table s.token →
      field_from l f n at table (tokens sep mode (drop i csv))
      ≡ x ++ field_from l f (n + length x) (next_number at (after table s.token).fault s.token) (after table s.token) (tokens sep s.mode (drop (i + 1) csv))
  unfolding field_from
  next_fields h es x ex = ap (field_from l f n at table) (next_tokens sep mode csv i h es) ∙ rw ex

  pub fielding_more : i < length csv → {s : NumberedStep} → s ≡ step sep mode (get_or csv i 0) → {next : Table} → next ≡ after table s.token → {b : Bool} → b ≡ is_at l f at table s.token →
      {m : ℕ} → m ≡ n + length (byte_if b n s.token) → {new : List ℕ} → new ≡ placed now n (byte_if b n s.token) → {r : ℕ} → r ≡ next_number at next.fault s.token → r ≤ at + 1 →
      Fielding l f csv out sep next s.mode r m (i + 1) new
  fielding_more h {s} es {next} et {b} eb {m} em {new} en {r} er hr =
      let x = byte_if b n s.token in
      let q = next_fields h es x (rw eb) in
      let rest = field_from l f (n + length x) (next_number at (after table s.token).fault s.token) (after table s.token) (tokens sep s.mode (drop (i + 1) csv)) in
      record {
        within = omega arith;
        few_lines = omega (arith, d.few_lines);
        few_boats = rw et (omega (arith, after_slow table s.token, d.few_boats));
        counts = rw (er, et, em) (omega (arith, d.counts, ap length q, length-append x rest));
        so_far = rw (er, et, em) (writing_more d.so_far x rest q (omega (arith, few_bytes l f csv)) refl en);
      }

  last_none : (m : Mode) → field_from l f n at table (ending m ∷ []) ≡ []
  unfolding field_from byte_if
  last_none m = rw (← at_no_byte l f at table (ending m) (large m)) (by (ltb n 200))
    where
      large : (m : Mode) → 256 ≤ ending m
      large Start = omega arith
      large Plain = omega arith
      large Quoted = omega arith
      large Closing = omega arith
      large Return = omega arith

      by : (b : Bool) → (◌++◌ {A = ℕ} (cond b [] []) []) ≡ []
      by true = refl
      by false = refl

  none_left : length csv ≤ i → field_from l f n at table (tokens sep mode (drop i csv)) ≡ []
  none_left h = ap (field_from l f n at table) (last_token sep mode csv i h) ∙ last_none mode

  pub fielding_end : length csv ≤ i → (n ≡ length (field_text l f csv)) × (now ≡ placed out 0 (field_text l f csv))
  fielding_end h = (omega (arith, d.counts, ap length (none_left h)), writing_end d.so_far (none_left h))
