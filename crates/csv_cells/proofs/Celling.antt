-- The bytes of one field, one after the other: what is left of the text decides as the whole does.
use mathlib.Core.Path.{◌≡◌, refl, sym, ap, ◌∙◌}
use mathlib.Core.Bool.{Bool, true, false, cond, ◌&&◌}
use mathlib.Core.List.{List, [], ◌∷◌, ◌++◌}
use Prim.Native.Nat.{ℕ, ◌+◌, ◌≤◌, ◌<◌}
use native.Mathlib.Omega.{arith}
use borrow.Author.Tests.{ltb-true, ne_eqb, eq-eqb, lt-ltb, le-ltb}
use lib.Dec.{ltb, eqb}
use lib.ListN.{length, get_or, drop, length-append}
use Rattle.files.specs.Bytes.{all_bytes}
use Rattle.buffers.specs.Placed.{placed}
use Rattle.buffers.proofs.Writing.{Writing, writing_start, writing_more, writing_end}
use Rattle.csv_bytes.specs.declared.Mode.{Mode}
use Rattle.csv_bytes.specs.declared.Mode.TheVariants.{Start, Plain, Quoted, Closing, Return}
use Rattle.csv_bytes.specs.Tokens.{NumberedStep, step, ending, tokens, separator, mark_size, csv_tokens}
use Rattle.csv_fleet_reader.proofs.Reading.{next_tokens, last_token}
use Rattle.csv_fields.specs.Fields.{byte_if}
use Rattle.csv_fields.proofs.Fielding.{both, few_one}
use Rattle.csv_cells.specs.Cells.{Place, start, moved, is_in, is_past, cell_byte, cell_from, cell_text}
use Rattle.csv_cells.proofs.Past.{past_no_bytes}
use Rattle.csv_cells.proofs.Places.{Within, within_start, within_more}

-- ---- whether a token is a byte of the field
module _ (r f : ℕ) (p : Place) (k : ℕ) where
  pub in_no_byte : 256 ≤ k → false ≡ is_in r f p k
  unfolding is_in
  in_no_byte h = rw (le-ltb k 256 h)

  module _ (h : k < 256) {x : ℕ} (e : x ≡ (moved p k).fault) where
    pub in_fault : (x ≡ 0 → ⊥) → false ≡ is_in r f p k
    unfolding is_in
    in_fault n = rw (lt-ltb k 256 h, ← e, ne_eqb x 0 n)

    module _ (z : x ≡ 0) where
      pub in_other_row : (p.row ≡ r → ⊥) → false ≡ is_in r f p k
      unfolding is_in
      in_other_row n = rw (lt-ltb k 256 h, ← e, z, ne_eqb p.row r n)

      pub in_row : p.row ≡ r → eqb p.field f ≡ is_in r f p k
      unfolding is_in
      in_row n = rw (lt-ltb k 256 h, ← e, z, eq-eqb p.row r n)

pub in_byte : (r f : ℕ) (p : Place) (k : ℕ) {b : Bool} → b ≡ is_in r f p k → b ≡ true → k < 256
unfolding is_in
in_byte r f p k e h = ltb-true k 256 (both (ltb k 256) _ (sym e ∙ h))

-- ---- at most 200 bytes, and each is one
few_from : (r f m : ℕ) (p : Place) (ks : List ℕ) → m ≤ 200 → m + length (cell_from r f m p ks) ≤ 200
unfolding cell_from
few_from r f m p [] h = omega arith
few_from r f m p (k ∷ ks) h =
    let x = cell_byte r f m p k in
    omega (
      arith,
      length-append x (cell_from r f (m + length x) (moved p k) ks),
      few_from r f (m + length x) (moved p k) ks (few_one (is_in r f p k) m k h),
    )

pub few_bytes : (r f : ℕ) (csv : List ℕ) → length (cell_text r f csv) ≤ 200
unfolding cell_text
few_bytes r f csv = omega (arith, few_from r f 0 start (csv_tokens csv) (omega arith))

pub all_bytes_append : (xs ys : List ℕ) → all_bytes xs ≡ true → all_bytes ys ≡ true → all_bytes (xs ++ ys) ≡ true
unfolding all_bytes
all_bytes_append [] ys h k = k
all_bytes_append (x ∷ xs) ys h k = by (ltb x 256) (all_bytes xs) h (λ i. all_bytes_append xs ys i k)
  where
    by : (a b : Bool) → (a && b) ≡ true → {c : Bool} → (b ≡ true → c ≡ true) → (a && c) ≡ true
    by true b i j = j i
    by false b i j = i

byte_in : (r f m : ℕ) (p : Place) (k : ℕ) → all_bytes (cell_byte r f m p k) ≡ true
unfolding byte_if all_bytes
byte_in r f m p k = by (ltb m 200) (is_in r f p k) refl
  where
    by : (a b : Bool) → is_in r f p k ≡ b → all_bytes (cond a (cond b (k ∷ []) []) []) ≡ true
    by true true e = rw (lt-ltb k 256 (in_byte r f p k (sym e) refl))
    by true false e = refl
    by false b e = refl

bytes_from : (r f m : ℕ) (p : Place) (ks : List ℕ) → all_bytes (cell_from r f m p ks) ≡ true
unfolding cell_from all_bytes
bytes_from r f m p [] = refl
bytes_from r f m p (k ∷ ks) = all_bytes_append (cell_byte r f m p k) _ (byte_in r f m p k) (bytes_from r f (m + length (cell_byte r f m p k)) (moved p k) ks)

pub cell_bytes : (r f : ℕ) (csv : List ℕ) → all_bytes (cell_text r f csv) ≡ true
unfolding cell_text
cell_bytes r f csv = bytes_from r f 0 start (csv_tokens csv)

-- ---- no bytes come at the end
last_none : (r f n : ℕ) (p : Place) (m : Mode) → cell_from r f n p (ending m ∷ []) ≡ []
unfolding cell_from byte_if
last_none r f n p m = rw (← in_no_byte r f p (ending m) (large m)) (by (ltb n 200))
  where
    large : (m : Mode) → 256 ≤ ending m
    large Start = omega arith
    large Plain = omega arith
    large Quoted = omega arith
    large Closing = omega arith
    large Return = omega arith

    by : (b : Bool) → (◌++◌ {A = ℕ} (cond b [] []) []) ≡ []
    by true = refl
    by false = refl

pub no_bytes_left : (r f n sep : ℕ) (p : Place) (m : Mode) (csv : List ℕ) (i : ℕ) → length csv ≤ i → cell_from r f n p (tokens sep m (drop i csv)) ≡ []
no_bytes_left r f n sep p m csv i h = ap (cell_from r f n p) (last_token sep m csv i h) ∙ last_none r f n p m

-- ---- the text
pub record Celling (r f : ℕ) (csv out : List ℕ) (sep : ℕ) (place : Place) (mode : Mode) (n i : ℕ) (now : List ℕ) : Type 0 where
  pub near : Within csv place i
  pub counts : n + length (cell_from r f n place (tokens sep mode (drop i csv))) ≡ length (cell_text r f csv)
  pub so_far : Writing out 0 (cell_text r f csv) n (cell_from r f n place (tokens sep mode (drop i csv))) now

pub celling_start : {r f : ℕ} {csv out : List ℕ} {sep i : ℕ} {p : Place} → sep ≡ separator csv → p ≡ start → i ≡ mark_size csv → Celling r f csv out sep p Start 0 i out
unfolding cell_text csv_tokens
celling_start {csv = csv} es ep ei = rw (es, ep, ei) (record { near = within_start csv; counts = omega arith; so_far = writing_start })

module _ {r f : ℕ} {csv out : List ℕ} {sep : ℕ} {place : Place} {mode : Mode} {n i : ℕ} {now : List ℕ} (d : Celling r f csv out sep place mode n i now) (l : 200 ≤ length out) where
  next_bytes : i < length csv → {s : NumberedStep} → s ≡ step sep mode (get_or csv i 0) → (x : List ℕ) → x ≡ cell_byte r f n place s.token →
      cell_from r f n place (tokens sep mode (drop i csv)) ≡ x ++ cell_from r f (n + length x) (moved place s.token) (tokens sep s.mode (drop (i + 1) csv))
  unfolding cell_from
  next_bytes h es x ex = ap (cell_from r f n place) (next_tokens sep mode csv i h es) ∙ rw ex

  pub celling_more : i < length csv → {s : NumberedStep} → s ≡ step sep mode (get_or csv i 0) → {next : Place} → next ≡ moved place s.token → {b : Bool} → b ≡ is_in r f place s.token →
      {m : ℕ} → m ≡ n + length (byte_if b n s.token) → {new : List ℕ} → new ≡ placed now n (byte_if b n s.token) → Celling r f csv out sep next s.mode m (i + 1) new
  celling_more h {s} es {next} ep {b} eb {m} em {new} en =
      let x = byte_if b n s.token in
      let q = next_bytes h es x (rw eb) in
      let rest = cell_from r f (n + length x) (moved place s.token) (tokens sep s.mode (drop (i + 1) csv)) in
      record {
        near = rw ep (within_more d.near h s.token);
        counts = rw (ep, em) (omega (arith, d.counts, ap length q, length-append x rest));
        so_far = rw (ep, em) (writing_more d.so_far x rest q (omega (arith, few_bytes r f csv)) refl en);
      }

  module _ (none : cell_from r f n place (tokens sep mode (drop i csv)) ≡ []) where
    celling_all : (n ≡ length (cell_text r f csv)) × ((n ≤ 200) × (now ≡ placed out 0 (cell_text r f csv)))
    celling_all =
        let e : n ≡ length (cell_text r f csv) = omega (arith, d.counts, ap length none) in
        (e, (omega (arith, few_bytes r f csv), writing_end d.so_far none))

  pub celling_past : {b : Bool} → b ≡ is_past r f place → b ≡ true → (n ≡ length (cell_text r f csv)) × ((n ≤ 200) × (now ≡ placed out 0 (cell_text r f csv)))
  celling_past e h = celling_all (past_no_bytes r f n place (tokens sep mode (drop i csv)) (sym e ∙ h))

  pub celling_end : length csv ≤ i → (n ≡ length (cell_text r f csv)) × ((n ≤ 200) × (now ≡ placed out 0 (cell_text r f csv)))
  celling_end h = celling_all (no_bytes_left r f n sep place mode csv i h)
