-- The bytes of a CSV that are no values, one after the other.
use mathlib.Core.Path.{◌≡◌, refl, sym, ap, ◌∙◌}
use mathlib.Core.Bool.{Bool, true, false, cond}
use mathlib.Core.List.{List, [], ◌∷◌, ◌++◌}
use Prim.Native.Nat.{ℕ, ◌+◌, ◌-◌, ◌≤◌, ◌<◌}
use native.Mathlib.Numerals.{add-one}
use native.Mathlib.Nat.{min-le_left, sub-zero}
use native.Mathlib.Omega.{arith}
use borrow.Author.Tests.{leb-true, leb-false}
use lib.Dec.{leb}
use lib.ListN.{length, get_or, take, drop, set, length-append, length-take, drop_of_length-le}
use lib.Seq.{drop-cons, take_all, take-nil, take-append-le, take-append-add}
use Rattle.buffers.specs.Placed.{placed}
use Rattle.buffers.proofs.Placing.{placed_nil, placed_length, placed_then, placed_set}
use Rattle.csv_bytes.specs.declared.Mode.{Mode}
use Rattle.csv_bytes.specs.declared.Mode.TheVariants.{Start}
use Rattle.csv_bytes.specs.Tokens.{NumberedStep, step, separator, mark_size}
use Rattle.csv_fleet_tokens.specs.Table.{Table, start, after}
use Rattle.csv_fleet_reader.proofs.Reading.{after_slow, mark_inside}
use Rattle.csv_front_text.specs.Front.{is_kept, kept_byte, names_from, names_text}

-- ---- which bytes are kept
module _ (t : Table) (k b : ℕ) {r : Bool} (er : r ≡ is_kept t k) where
  pub byte_kept : r ≡ true → kept_byte t k b ≡ b ∷ []
  unfolding kept_byte
  byte_kept h = rw (← er, h)

  pub byte_left : r ≡ false → kept_byte t k b ≡ []
  unfolding kept_byte
  byte_left h = rw (← er, h)

  pub one_more : (n : ℕ) → r ≡ true → n + 1 ≡ n + length (kept_byte t k b)
  one_more n h = rw (byte_kept h)

  pub none_more : (n : ℕ) → r ≡ false → n ≡ n + length (kept_byte t k b)
  none_more n h = rw (byte_left h) (omega arith)

  module _ (n : ℕ) (out : List ℕ) where
    pub put_nothing : r ≡ false → (n ≡ n + length (kept_byte t k b)) × (out ≡ placed out n (take (length out - n) (kept_byte t k b)))
    put_nothing h = (none_more n h, rw (byte_left h, take-nil {A = ℕ} (length out - n)) (sym (placed_nil out n)))

    module _ (h : r ≡ true) where
      pub put_there : n < length out → (n + 1 ≡ n + length (kept_byte t k b)) × (set out n b ≡ placed out n (take (length out - n) (kept_byte t k b)))
      put_there l = (one_more n h, rw (byte_kept h, take_all (length out - n) (b ∷ []) (omega arith)) (placed_set out n b l))

      pub put_past : length out ≤ n → (n + 1 ≡ n + length (kept_byte t k b)) × (out ≡ placed out n (take (length out - n) (kept_byte t k b)))
      put_past l =
          let z : length out - n ≡ 0 = omega arith in
          (one_more n h, rw z (sym (placed_nil out n)))

-- ---- as much as there is room for: xs, and ys right after them
module _ (now : List ℕ) (n : ℕ) (xs ys : List ℕ) {new : List ℕ} (e : new ≡ placed now n (take (length now - n) xs)) where
  pub cut_long : length new ≡ length now
  cut_long = by (leb n (length now)) refl
    where
      by : (b : Bool) → leb n (length now) ≡ b → length new ≡ length now
      by true l =
          let h = leb-true n (length now) l in
          ap length e ∙ placed_length now n (take (length now - n) xs) (omega (arith, length-take (length now - n) xs, min-le_left (length now - n) (length xs)))
      by false l =
          let h = leb-false n (length now) l in
          let z : length now - n ≡ 0 = omega arith in
          ap length (rw z at e ∙ placed_nil now n)

  pub cut_next : placed new (n + length xs) (take (length now - (n + length xs)) ys) ≡ placed now n (take (length now - n) (xs ++ ys))
  cut_next = by (leb (n + length xs) (length now)) refl
    where
      by : (b : Bool) → leb (n + length xs) (length now) ≡ b → placed new (n + length xs) (take (length now - (n + length xs)) ys) ≡ placed now n (take (length now - n) (xs ++ ys))
      by true l =
          let h = leb-true (n + length xs) (length now) l in
          let p : length now - n ≡ length xs + (length now - (n + length xs)) = omega arith in
          let q : take (length now - n) (xs ++ ys) ≡ xs ++ take (length now - (n + length xs)) ys = rw p (take-append-add xs ys _) in
          let f : new ≡ placed now n xs = rw (take_all (length now - n) xs (omega arith)) at e in
          rw (q, f) (placed_then now n xs (take (length now - (n + length xs)) ys) h)
      by false l =
          let h = leb-false (n + length xs) (length now) l in
          let z : length now - (n + length xs) ≡ 0 = omega arith in
          rw (z, placed_nil new (n + length xs), take-append-le (length now - n) xs ys (omega arith)) e

-- ---- the bytes that are left
next_kept : (sep : ℕ) (t : Table) (m : Mode) (bs : List ℕ) (i : ℕ) → i < length bs → {s : NumberedStep} → s ≡ step sep m (get_or bs i 0) →
    names_from sep t m (drop i bs) ≡ kept_byte t s.token (get_or bs i 0) ++ names_from sep (after t s.token) s.mode (drop (i + 1) bs)
unfolding names_from
next_kept sep t m bs i h e = ap (names_from sep t m) (drop-cons bs i 0 h) ∙ rw (e, add-one)

none_left : (sep : ℕ) (t : Table) (m : Mode) (bs : List ℕ) (i : ℕ) → length bs ≤ i → names_from sep t m (drop i bs) ≡ []
unfolding names_from
none_left sep t m bs i h = ap (names_from sep t m) (drop_of_length-le bs {i = i} h)

-- n bytes were kept of the first i
pub record Counting (csv : List ℕ) (sep : ℕ) (table : Table) (mode : Mode) (n i : ℕ) : Type 0 where
  pub within : i ≤ length csv
  pub few : n ≤ i
  pub few_boats : table.boats ≤ i
  pub counts : n + length (names_from sep table mode (drop i csv)) ≡ length (names_text csv)

pub counting_start : {csv : List ℕ} {sep i : ℕ} {t : Table} → sep ≡ separator csv → t ≡ start → i ≡ mark_size csv → Counting csv sep t Start 0 i
unfolding names_text
counting_start {csv} es et ei = rw (es, et, ei) (record { within = mark_inside csv; few = omega arith; few_boats = omega arith; counts = omega arith })

small : (b : Bool) (x : ℕ) → length (cond b (x ∷ []) []) ≤ 1
small true x = omega arith
small false x = omega arith

at_most_one : (t : Table) (k b : ℕ) → length (kept_byte t k b) ≤ 1
unfolding kept_byte
at_most_one t k b = small (is_kept t k) b

module _ {csv : List ℕ} {sep : ℕ} {table : Table} {mode : Mode} {n i : ℕ} (d : Counting csv sep table mode n i) where
  pub counting_more : i < length csv → {s : NumberedStep} → s ≡ step sep mode (get_or csv i 0) → {m : ℕ} → m ≡ n + length (kept_byte table s.token (get_or csv i 0)) →
      {next : Table} → next ≡ after table s.token → Counting csv sep next s.mode m (i + 1)
  counting_more h {s} es {m} em {next} et =
      let x = kept_byte table s.token (get_or csv i 0) in
      let rest = names_from sep (after table s.token) s.mode (drop (i + 1) csv) in
      record {
        within = omega arith;
        few = omega (arith, at_most_one table s.token (get_or csv i 0), d.few);
        few_boats = rw et (omega (arith, after_slow table s.token, d.few_boats));
        counts = rw (et, em) (omega (arith, d.counts, ap length (next_kept sep table mode csv i h es), length-append x rest));
      }

  pub counting_end : length csv ≤ i → n ≡ length (names_text csv)
  counting_end h = omega (arith, d.counts, ap length (none_left sep table mode csv i h))

-- they stand in the buffer as far as there is room
pub record Naming (csv out : List ℕ) (sep : ℕ) (table : Table) (mode : Mode) (n i : ℕ) (now : List ℕ) : Type 0 where
  pub counting : Counting csv sep table mode n i
  pub long : length now ≡ length out
  pub later : placed now n (take (length out - n) (names_from sep table mode (drop i csv))) ≡ placed out 0 (take (length out) (names_text csv))

begins : (csv out : List ℕ) → placed out 0 (take (length out - 0) (names_from (separator csv) start Start (drop (mark_size csv) csv))) ≡ placed out 0 (take (length out) (names_text csv))
unfolding names_text
begins csv out = rw sub-zero

pub naming_start : {csv out : List ℕ} {sep i : ℕ} {t : Table} → sep ≡ separator csv → t ≡ start → i ≡ mark_size csv → Naming csv out sep t Start 0 i out
naming_start {csv} {out} es et ei = record { counting = counting_start es et ei; long = refl; later = rw (es, et, ei) (begins csv out) }

module _ {csv out : List ℕ} {sep : ℕ} {table : Table} {mode : Mode} {n i : ℕ} {now : List ℕ} (d : Naming csv out sep table mode n i now) where
  pub naming_more : i < length csv → {s : NumberedStep} → s ≡ step sep mode (get_or csv i 0) → {m : ℕ} → m ≡ n + length (kept_byte table s.token (get_or csv i 0)) →
      {new : List ℕ} → new ≡ placed now n (take (length now - n) (kept_byte table s.token (get_or csv i 0))) → {next : Table} → next ≡ after table s.token →
      Naming csv out sep next s.mode m (i + 1) new
  naming_more h {s} es em {new} en et =
      let x = kept_byte table s.token (get_or csv i 0) in
      let rest = names_from sep (after table s.token) s.mode (drop (i + 1) csv) in
      let l = d.long in
      let p : placed new (n + length x) (take (length out - (n + length x)) rest) ≡ placed now n (take (length out - n) (x ++ rest)) = rw l at (cut_next now n x rest en) in
      record {
        counting = counting_more d.counting h es em et;
        long = cut_long now n x rest en ∙ l;
        later = rw (et, em) (p ∙ (rw (next_kept sep table mode csv i h es) at d.later));
      }

  pub naming_end : length csv ≤ i → (n ≡ length (names_text csv)) × (now ≡ placed out 0 (take (length out) (names_text csv)))
  naming_end h =
      let e = none_left sep table mode csv i h in
      (counting_end d.counting h, sym (placed_nil now n) ∙ (rw (e, take-nil {A = ℕ} (length out - n)) at d.later))
