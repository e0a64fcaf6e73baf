-- The separator of a written text is a comma: what stands in quotes is passed over, and there is no byte-order mark.
use mathlib.Core.Path.{◌≡◌, refl, ap, ◌∙◌}
use mathlib.Core.Bool.{Bool, true, false, cond, ◌&&◌}
use mathlib.Core.List.{List, [], ◌∷◌, ◌++◌, map, append_assoc}
use Prim.Native.Nat.{ℕ, ◌≤◌, ◌<◌}
use native.Mathlib.Omega.{arith}
use borrow.Author.Tests.{ltb-true, ne_eqb, le-ltb}
use lib.Dec.{ltb, eqb}
use lib.ListN.{length}
use Rattle.files.specs.Bytes.{all_bytes}
use Rattle.csv_bytes.specs.declared.Mode.{Mode}
use Rattle.csv_bytes.specs.declared.Mode.TheVariants.{Start, Quoted, Closing}
use Rattle.csv_bytes.specs.Tokens.{step, as_comma, best_after, known_after, separator_from, mark_size}
use Rattle.csv_bytes.proofs.Looking.{over}
use Rattle.csv_fleet_round_trip.specs.Writing.{doubled, quoted, fields, line}

-- ---- a comma that was met stays
stays : (n k b : ℕ) → best_after 44 n k b ≡ 44
stays n k b = by (eqb n 2) (eqb k 256)
  where
    by : (p q : Bool) → ◌≡◌ {A = ℕ} (cond p 44 (cond q 44 44)) 44
    by true q = refl
    by false true = refl
    by false false = refl

found : (n : ℕ) (m : Mode) (bs : List ℕ) → separator_from 44 n m bs ≡ 44
unfolding separator_from
found n m [] = refl
found n m (b ∷ bs) =
    ap (λ (x : ℕ). separator_from x (known_after n (step 44 m (as_comma b)).token) (step 44 m (as_comma b)).mode bs) (stays n (step 44 m (as_comma b)).token b)
    ∙ found (known_after n (step 44 m (as_comma b)).token) (step 44 m (as_comma b)).mode bs

-- ---- what stands in quotes is passed over
module _ (n b : ℕ) (rest : List ℕ) (e : eqb n 2 ≡ false) (h : b < 256) where
  text_by : (p q : Bool) → eqb b 59 ≡ p → eqb b 9 ≡ q → eqb b 34 ≡ false → separator_from 0 n Quoted (b ∷ rest) ≡ separator_from 0 1 Quoted rest
  unfolding separator_from
  text_by true q u v f = rw (u, e)
  text_by false true u v f = rw (u, v, e)
  text_by false false u v f = rw (u, v, f, e, ne_eqb b 257 (λ z. omega arith), ne_eqb b 256 (λ z. omega arith), le-ltb 257 b (omega arith))

  quote_byte : separator_from 0 n Quoted (34 ∷ 34 ∷ rest) ≡ separator_from 0 1 Quoted rest → (q : Bool) → eqb b 34 ≡ q → separator_from 0 n Quoted (cond q (34 ∷ 34 ∷ rest) (b ∷ rest)) ≡ separator_from 0 1 Quoted rest
  quote_byte d true u = d
  quote_byte d false u = text_by (eqb b 59) (eqb b 9) refl refl u

first_doubled : (rest : List ℕ) → separator_from 0 0 Quoted (34 ∷ 34 ∷ rest) ≡ separator_from 0 1 Quoted rest
unfolding separator_from
first_doubled rest = refl

next_doubled : (rest : List ℕ) → separator_from 0 1 Quoted (34 ∷ 34 ∷ rest) ≡ separator_from 0 1 Quoted rest
unfolding separator_from
next_doubled rest = refl

cond_append : (q : Bool) (xs ys zs : List ℕ) → cond q xs ys ++ zs ≡ cond q (xs ++ zs) (ys ++ zs)
cond_append true xs ys zs = refl
cond_append false xs ys zs = refl

first_true : (a b : Bool) → (a && b) ≡ true → (a ≡ true) × (b ≡ true)
first_true true b e = (refl, e)
first_true false true e = (e, refl)
first_true false false e = (e, e)

module _ (k : ℕ) (ks : List ℕ) (a : all_bytes (k ∷ ks) ≡ true) where
  head_byte : k < 256
  unfolding all_bytes
  head_byte = ltb-true k 256 (first_true (ltb k 256) (all_bytes ks) a).0

  tail_bytes : all_bytes ks ≡ true
  unfolding all_bytes
  tail_bytes = (first_true (ltb k 256) (all_bytes ks) a).1

in_quotes : (ks rest : List ℕ) → all_bytes ks ≡ true → separator_from 0 1 Quoted (doubled ks ++ rest) ≡ separator_from 0 1 Quoted rest
unfolding doubled
in_quotes [] rest a = refl
in_quotes (k ∷ ks) rest a = rw (cond_append (eqb k 34)) (quote_byte 1 k (doubled ks ++ rest) refl (head_byte k ks a) (next_doubled (doubled ks ++ rest)) (eqb k 34) refl ∙ in_quotes ks rest (tail_bytes k ks a))

begun : (k : ℕ) (ks rest : List ℕ) → all_bytes (k ∷ ks) ≡ true → separator_from 0 0 Quoted (doubled (k ∷ ks) ++ rest) ≡ separator_from 0 1 Quoted rest
unfolding doubled
begun k ks rest a = rw (cond_append (eqb k 34)) (quote_byte 0 k (doubled ks ++ rest) refl (head_byte k ks a) (first_doubled (doubled ks ++ rest)) (eqb k 34) refl ∙ in_quotes ks rest (tail_bytes k ks a))

pub past_quotes : (ks rest : List ℕ) → 1 ≤ length ks → all_bytes ks ≡ true → separator_from 0 0 Start (quoted ks ++ rest) ≡ separator_from 0 1 Closing rest
unfolding quoted separator_from
past_quotes [] rest h a = absurd (omega arith)
past_quotes (k ∷ ks) rest h a = rw (append_assoc (doubled (k ∷ ks)) (34 ∷ []) rest) (begun k ks (34 ∷ rest) a)

comma_next : (f : List ℕ) (fs : List (List ℕ)) (rest : List ℕ) → separator_from 0 1 Closing (fields (f ∷ fs) ++ rest) ≡ 44
unfolding fields separator_from
comma_next f fs rest = found 1 Start ((f ++ fields fs) ++ rest)

module _ (corner : List ℕ) (rest : List ℕ) (some : 1 ≤ length corner) (bytes : all_bytes corner ≡ true) where
  pub first_comma : (cs : List (List ℕ)) → 1 ≤ length cs → separator_from 0 0 Start (line (quoted corner) (map quoted cs) ++ rest) ≡ 44
  unfolding line
  first_comma [] h = absurd (omega arith)
  first_comma (c ∷ cs) h =
      rw (append_assoc (quoted corner) (fields (map quoted (c ∷ cs))) rest)
      (past_quotes corner (fields (map quoted (c ∷ cs)) ++ rest) some bytes ∙ comma_next (quoted c) (map quoted cs) rest)

  -- a line of one field has no separator
  pub no_comma : separator_from 0 0 Start (line (quoted corner) [] ++ rest) ≡ 0
  unfolding line fields separator_from
  no_comma = rw (append_assoc (quoted corner) (10 ∷ []) rest) (past_quotes corner (10 ∷ rest) some bytes ∙ over 0 Start rest)

either : (b : Bool) → ◌≡◌ {A = ℕ} (cond b 0 0) 0
either true = refl
either false = refl

pub no_mark : (corner : List ℕ) (fs : List (List ℕ)) (rest : List ℕ) → mark_size (line (quoted corner) fs ++ rest) ≡ 0
unfolding line quoted
no_mark corner fs rest = either (ltb (length (line (quoted corner) fs ++ rest)) 3)
