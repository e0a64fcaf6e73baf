-- What a piece of text does to a reader: from a mode and a table to others, with the values that end in it.
use mathlib.Core.Path.{◌≡◌, refl, sym, ap, ◌∙◌}
use mathlib.Core.Bool.{Bool, true, false, cond, ◌&&◌, not}
use mathlib.Core.List.{List, [], ◌∷◌, ◌++◌, append_assoc}
use Prim.Native.Nat.{ℕ, ◌+◌, ◌≤◌, ◌<◌}
use native.Mathlib.Omega.{arith}
use borrow.Author.Tests.{lt-ltb, ltb-true, eqb-true}
use lib.Dec.{ltb, eqb}
use lib.IntN.{ℤ}
use lib.ListN.{length, length-append}
use Rattle.files.specs.Bytes.{all_bytes}
use Rattle.csv_bytes.specs.declared.Cell.{Cell}
use Rattle.csv_bytes.specs.declared.Mode.{Mode}
use Rattle.csv_bytes.specs.declared.Mode.TheVariants.{Start, Plain, Quoted, Closing}
use Rattle.csv_bytes.specs.Cells.{no_bytes, with_byte, read_from, progress}
use Rattle.csv_bytes.specs.Tokens.{says, step, tokens}
use Rattle.csv_fleet_tokens.specs.Table.{Table, UNIT, with_text, consumed, after}
use Rattle.csv_fleet_reader.specs.Fleet.{ends_value, ended_value, values_from, table_from}
use Rattle.csv_fleet_reader.proofs.Values.{test_byte, test_other}
use Rattle.csv_fleet_round_trip.specs.Writing.{doubled, quoted}

pub record Goes (m : Mode) (t : Table) (n : ℕ) (bs : List ℕ) (m' : Mode) (t' : Table) (vs : List ℤ) : Type 0 where
  pub tables : (rest : List ℕ) → table_from t (tokens 44 m (bs ++ rest)) ≡ table_from t' (tokens 44 m' rest)
  pub values : (rest : List ℕ) → values_from t n (tokens 44 m (bs ++ rest)) ≡ vs ++ values_from t' (n + length vs) (tokens 44 m' rest)

pub goes_nil : {m : Mode} {t : Table} {n : ℕ} → Goes m t n [] m t []
goes_nil {m} {t} {n} =
    let e : n + 0 ≡ n = omega arith in
    record { tables = λ rest. refl; values = λ rest. rw e refl }

pub goes_then : {m m' m'' : Mode} {t t' t'' : Table} {n k : ℕ} {bs cs : List ℕ} {vs ws : List ℤ} → Goes m t n bs m' t' vs → k ≡ n + length vs → Goes m' t' k cs m'' t'' ws → Goes m t n (bs ++ cs) m'' t'' (vs ++ ws)
goes_then {m} {m'} {m''} {t} {t'} {t''} {n} {k} {bs} {cs} {vs} {ws} p e q =
    record {
      tables = λ rest. rw (append_assoc bs cs rest) (p.tables (cs ++ rest) ∙ q.tables rest);
      values = λ rest.
          let h : k + length ws ≡ n + length (vs ++ ws) = omega (arith, length-append vs ws) in
          rw (append_assoc bs cs rest, append_assoc vs ws)
          (p.values (cs ++ rest) ∙ ap (λ xs. vs ++ xs) (rw (← e) (q.values rest ∙ rw h refl)));
    }

-- a piece without values, then another
pub goes_on : {m m' m'' : Mode} {t t' t'' : Table} {n : ℕ} {bs cs : List ℕ} {ws : List ℤ} → Goes m t n bs m' t' [] → Goes m' t' n cs m'' t'' ws → Goes m t n (bs ++ cs) m'' t'' ws
goes_on p q = goes_then p (omega arith) q

pub goes_byte : {m m' : Mode} {t t' : Table} (n b : ℕ) {k : ℕ} {vs : List ℤ} → step 44 m b ≡ says k m' → t' ≡ after t k → vs ≡ ended_value t n k → Goes m t n (b ∷ []) m' t' vs
unfolding tokens table_from values_from
goes_byte n b e et ev = record { tables = λ rest. rw (e, et); values = λ rest. rw (e, et, ev) }

-- ---- tokens without a value
empty : (a : Bool) → cond {A = List ℤ} a [] [] ≡ []
empty true = refl
empty false = refl

pub no_value : (t : Table) (n k : ℕ) → false ≡ ends_value t k → [] ≡ ended_value t n k
unfolding ended_value
no_value t n k e = sym (rw (← e) (empty (ltb n 16384)))

-- a table without fault
abbrev pub at : (f c b : ℕ) → (u : Bool) → Cell → (w : ℕ) → Table
at f c b u x w = record { field = f; columns = c; boats = b; units = u; cell = x; word = w; fault = 0 }

module _ (f c b : ℕ) (u : Bool) where
  pub text_goes : (x : Cell) (w k : ℕ) → x.size < 200 → k < 256 → at f c b u (with_byte x k) (progress UNIT w k) ≡ after (at f c b u x w) k
  unfolding after consumed with_text
  text_goes x w k s h = rw (lt-ltb k 256 h, lt-ltb x.size 200 s)

  pub nothing_goes : (x : Cell) (w : ℕ) → at f c b u x w ≡ after (at f c b u x w) 259
  unfolding after consumed
  nothing_goes x w = refl

  nothing_value : (x : Cell) (w n : ℕ) → [] ≡ ended_value (at f c b u x w) n 259
  nothing_value x w n = no_value (at f c b u x w) n 259 (test_other (at f c b u x w) 259 refl (omega arith) (omega arith))

  text_value : (x : Cell) (w n k : ℕ) → k < 256 → [] ≡ ended_value (at f c b u x w) n k
  text_value x w n k h = no_value (at f c b u x w) n k (test_byte (at f c b u x w) k refl h)

-- ---- the bytes of a field
unfoldable pub word_with : ℕ → List ℕ → ℕ
word_with w [] = w
word_with w (k ∷ ks) = word_with (progress UNIT w k) ks

pub no_word : (ks : List ℕ) → word_with 5 ks ≡ 5
unfolding word_with
no_word [] = refl
no_word (k ∷ ks) = no_word ks

pub both_true : (a b : Bool) → (a && b) ≡ true → (a ≡ true) × (b ≡ true)
both_true true b p = (refl, p)
both_true false b p = let z : ◌≡◌ {A = ℕ} 0 1 = cc in absurd (omega arith)

pub split : (q : Bool) (ds : List ℕ) (k : ℕ) → cond q (34 ∷ 34 ∷ ds) (k ∷ ds) ≡ cond q (34 ∷ 34 ∷ []) (k ∷ []) ++ ds
split true ds k = refl
split false ds k = refl

module _ (f c b : ℕ) (u : Bool) (n : ℕ) where
  -- in quotes
  one_quoted : (x : Cell) (w k : ℕ) → x.size < 200 → k < 256 → (q : Bool) → eqb k 34 ≡ q →
      Goes Quoted (at f c b u x w) n (cond q (34 ∷ 34 ∷ []) (k ∷ [])) Quoted (at f c b u (with_byte x k) (progress UNIT w k)) []
  one_quoted x w k s h true e =
      let i : k ≡ 34 = eqb-true k 34 e in
      rw i
      (goes_on (goes_byte {m = Quoted} {m' = Closing} n 34 refl (nothing_goes f c b u x w) (nothing_value f c b u x w n))
      (goes_byte {m = Closing} {m' = Quoted} n 34 refl (text_goes f c b u x w 34 s (omega arith)) (text_value f c b u x w n 34 (omega arith))))
  one_quoted x w k s h false e = goes_byte {m = Quoted} {m' = Quoted} n k (rw e) (text_goes f c b u x w k s h) (text_value f c b u x w n k h)

  all_quoted : (x : Cell) (w : ℕ) (ks : List ℕ) → x.size + length ks ≤ 200 → all_bytes ks ≡ true → Goes Quoted (at f c b u x w) n (doubled ks) Quoted (at f c b u (read_from x ks) (word_with w ks)) []
  unfolding doubled read_from word_with all_bytes
  all_quoted x w [] s h = goes_nil
  all_quoted x w (k ∷ ks) s h =
      let p = both_true (ltb k 256) (all_bytes ks) h in
      let e : doubled (k ∷ ks) ≡ cond (eqb k 34) (34 ∷ 34 ∷ []) (k ∷ []) ++ doubled ks = split (eqb k 34) (doubled ks) k in
      rw e
      (goes_on (one_quoted x w k (omega arith) (ltb-true k 256 p.0) (eqb k 34) refl) (all_quoted (with_byte x k) (progress UNIT w k) ks (omega arith) p.1))

  pub quoted_goes : (w : ℕ) (ks : List ℕ) → length ks ≤ 200 → all_bytes ks ≡ true → Goes Start (at f c b u no_bytes w) n (quoted ks) Closing (at f c b u (read_from no_bytes ks) (word_with w ks)) []
  unfolding quoted
  quoted_goes w ks s h =
      goes_on (goes_byte {m = Start} {m' = Quoted} n 34 refl (nothing_goes f c b u no_bytes w) (nothing_value f c b u no_bytes w n))
      (goes_on (all_quoted no_bytes w ks (omega arith) h)
      (goes_byte {m = Quoted} {m' = Closing} n 34 refl (nothing_goes f c b u (read_from no_bytes ks) (word_with w ks)) (nothing_value f c b u (read_from no_bytes ks) (word_with w ks) n)))

-- ---- without quotes: no quote, comma, newline or carriage return
unfoldable pub plain : ℕ → Bool
plain k = not (eqb k 34) && (not (eqb k 44) && (not (eqb k 10) && (not (eqb k 13) && ltb k 256)))

unfoldable pub all_plain : List ℕ → Bool
all_plain [] = true
all_plain (k ∷ ks) = plain k && all_plain ks

not_is : (b : Bool) → not b ≡ true → b ≡ false
not_is true p = let z : ◌≡◌ {A = ℕ} 0 1 = cc in absurd (omega arith)
not_is false p = refl

module _ (k : ℕ) (h : plain k ≡ true) where
  parts : (eqb k 34 ≡ false) × ((eqb k 44 ≡ false) × ((eqb k 10 ≡ false) × ((eqb k 13 ≡ false) × (k < 256))))
  unfolding plain
  parts =
      let p = both_true _ _ h in
      let q = both_true _ _ p.1 in
      let r = both_true _ _ q.1 in
      let s = both_true _ _ r.1 in
      (not_is _ p.0, (not_is _ q.0, (not_is _ r.0, (not_is _ s.0, ltb-true k 256 s.1))))

  plain_start : step 44 Start k ≡ says k Plain
  plain_start = let p = parts in rw (p.0, p.1.0, p.1.1.0, p.1.1.1.0)

  plain_more : step 44 Plain k ≡ says k Plain
  plain_more = let p = parts in rw (p.1.0, p.1.1.0, p.1.1.1.0)

module _ (f c b : ℕ) (u : Bool) (n : ℕ) where
  plain_run : (x : Cell) (w : ℕ) (ks : List ℕ) → x.size + length ks ≤ 200 → all_plain ks ≡ true → Goes Plain (at f c b u x w) n ks Plain (at f c b u (read_from x ks) (word_with w ks)) []
  unfolding read_from word_with all_plain
  plain_run x w [] s h = goes_nil
  plain_run x w (k ∷ ks) s h =
      let p = both_true (plain k) (all_plain ks) h in
      let l = (parts k p.0).1.1.1.1 in
      goes_on (goes_byte n k (plain_more k p.0) (text_goes f c b u x w k (omega arith) l) (text_value f c b u x w n k l)) (plain_run (with_byte x k) (progress UNIT w k) ks (omega arith) p.1)

  pub plain_goes : (w : ℕ) (ks : List ℕ) → 1 ≤ length ks → length ks ≤ 200 → all_plain ks ≡ true → Goes Start (at f c b u no_bytes w) n ks Plain (at f c b u (read_from no_bytes ks) (word_with w ks)) []
  unfolding read_from word_with all_plain
  plain_goes w [] o s h = absurd (omega arith)
  plain_goes w (k ∷ ks) o s h =
      let p = both_true (plain k) (all_plain ks) h in
      let l = (parts k p.0).1.1.1.1 in
      goes_on (goes_byte n k (plain_start k p.0) (text_goes f c b u no_bytes w k (omega arith) l) (text_value f c b u no_bytes w n k l))
      (plain_run (with_byte no_bytes k) (progress UNIT w k) ks (omega arith) p.1)
