-- What a piece of text does to a reader of field f of row r: from a mode and a place to others, with the bytes of the field and the row's line.
use mathlib.Core.Path.{◌≡◌, refl, sym, ap, ◌∙◌}
use mathlib.Core.Bool.{Bool, true, false, cond}
use mathlib.Core.List.{List, [], ◌∷◌, ◌++◌, append_assoc}
use Prim.Native.Nat.{ℕ, ◌+◌, ◌≤◌, ◌<◌}
use native.Mathlib.Omega.{arith}
use borrow.Author.Tests.{lt-ltb, ltb-true, eqb-true}
use lib.Dec.{ltb, eqb}
use lib.ListN.{length, length-append}
use Rattle.files.specs.Bytes.{all_bytes}
use Rattle.csv_bytes.specs.declared.Mode.{Mode}
use Rattle.csv_bytes.specs.declared.Mode.TheVariants.{Start, Quoted, Closing}
use Rattle.csv_bytes.specs.Tokens.{says, step, tokens}
use Rattle.csv_fields.specs.Fields.{byte_if}
use Rattle.csv_fleet_round_trip.specs.Writing.{doubled, quoted}
use Rattle.csv_fleet_round_trip.proofs.Going.{both_true, split}
use Rattle.csv_cells.specs.Cells.{Place, moved, place_from, is_in, cell_byte, cell_from, line_at, line_from}
use Rattle.csv_cells.proofs.Steps.{text_added, moved_good, token_text, token_nothing}
use Rattle.csv_cells.proofs.Celling.{in_no_byte}

pub record Goes (r f : ℕ) (m : Mode) (p : Place) (n : ℕ) (bs : List ℕ) (m' : Mode) (p' : Place) (xs : List ℕ) (t : ℕ → ℕ) : Type 0 where
  pub places : (rest : List ℕ) → place_from p (tokens 44 m (bs ++ rest)) ≡ place_from p' (tokens 44 m' rest)
  pub bytes : (rest : List ℕ) → cell_from r f n p (tokens 44 m (bs ++ rest)) ≡ xs ++ cell_from r f (n + length xs) p' (tokens 44 m' rest)
  pub lines : (k : ℕ) (rest : List ℕ) → line_from r k p (tokens 44 m (bs ++ rest)) ≡ line_from r (t k) p' (tokens 44 m' rest)

pub goes_nil : {r f : ℕ} {m : Mode} {p : Place} {n : ℕ} → Goes r f m p n [] m p [] (λ k. k)
goes_nil {n = n} =
    let e : n + 0 ≡ n = omega arith in
    record { places = λ rest. refl; bytes = λ rest. rw e refl; lines = λ k rest. refl }

module _ {r f : ℕ} {m m' m'' : Mode} {p p' p'' : Place} {n n' : ℕ} {bs cs xs ys : List ℕ} {t u : ℕ → ℕ} where
  pub goes_then : Goes r f m p n bs m' p' xs t → n' ≡ n + length xs → Goes r f m' p' n' cs m'' p'' ys u → Goes r f m p n (bs ++ cs) m'' p'' (xs ++ ys) (λ k. u (t k))
  goes_then a e b =
      record {
        places = λ rest. rw (append_assoc bs cs rest) (a.places (cs ++ rest) ∙ b.places rest);
        bytes = λ rest.
            let h : n' + length ys ≡ n + length (xs ++ ys) = omega (arith, length-append xs ys) in
            rw (append_assoc bs cs rest, append_assoc xs ys)
            (a.bytes (cs ++ rest) ∙ ap (λ zs. xs ++ zs) (rw (← e) (b.bytes rest ∙ rw h refl)));
        lines = λ k rest. rw (append_assoc bs cs rest) (a.lines k (cs ++ rest) ∙ b.lines (t k) rest);
      }

pub goes_byte : {r f : ℕ} {m m' : Mode} {p p' : Place} (n b : ℕ) {k : ℕ} {xs : List ℕ} → step 44 m b ≡ says k m' → p' ≡ moved p k → xs ≡ cell_byte r f n p k → Goes r f m p n (b ∷ []) m' p' xs (λ q. line_at r q p)
unfolding tokens place_from cell_from line_from
goes_byte n b e ep ex = record { places = λ rest. rw (e, ep); bytes = λ rest. rw (e, ep, ex); lines = λ q rest. rw (e, ep) }

-- ---- pieces of one row, i, in line l
abbrev pub at : (l i j s : ℕ) → Place
at l i j s = record { line = l; row = i; field = j; size = s; fault = 0 }

-- the line of row r after a piece of row i
abbrev pub told : (r l i k : ℕ) → ℕ
told r l i k = cond (eqb i r) l k

told_twice : (r l i k : ℕ) → told r l i (told r l i k) ≡ told r l i k
told_twice r l i k = by (eqb i r)
  where
    by : (b : Bool) → cond b l (cond b l k) ≡ cond b l k
    by true = refl
    by false = refl

module _ {r f : ℕ} (l i : ℕ) {m m' m'' : Mode} {p p' p'' : Place} {n n' : ℕ} {bs cs xs ys : List ℕ} where
  pub goes_on : Goes r f m p n bs m' p' xs (told r l i) → n' ≡ n + length xs → Goes r f m' p' n' cs m'' p'' ys (told r l i) → Goes r f m p n (bs ++ cs) m'' p'' (xs ++ ys) (told r l i)
  goes_on a e b =
      let g = goes_then a e b in
      record {
        places = g.places;
        bytes = g.bytes;
        lines = λ k rest. g.lines k rest ∙ ap (λ q. line_from r q p'' (tokens 44 m'' rest)) (told_twice r l i k);
      }

-- ---- bytes that are wanted or not
abbrev pub kept : Bool → List ℕ → List ℕ
kept w xs = cond w xs []

pub kept_nil : (w : Bool) → [] ≡ kept w []
kept_nil true = refl
kept_nil false = refl

kept_more : (w : Bool) (k : ℕ) (ks : List ℕ) → kept w (k ∷ ks) ≡ kept w (k ∷ []) ++ kept w ks
kept_more true k ks = refl
kept_more false k ks = refl

kept_count : (w : Bool) (k : ℕ) {n s : ℕ} → (w ≡ true → n ≤ s) → w ≡ true → n + length (kept w (k ∷ [])) ≤ s + 1
kept_count true k h e = omega (arith, h e)
kept_count false k h e = omega (arith, h e)

-- whether field j of row i is field f of row r
abbrev pub wanted : (r f i j : ℕ) → Bool
wanted r f i j = cond (eqb i r) (eqb j f) false

pub none_put : (r f n : ℕ) (p : Place) (k : ℕ) → 256 ≤ k → [] ≡ cell_byte r f n p k
unfolding byte_if
none_put r f n p k h = sym (rw (← in_no_byte r f p k h) (sym (kept_nil (ltb n 200))))

-- ---- a field
module _ (r f l i j : ℕ) where
  text_goes : (s k : ℕ) → s < 200 → k < 256 → at l i j (s + 1) ≡ moved (at l i j s) k
  text_goes s k hs h = moved_good (at l i j s) k refl (token_text (at l i j s) k h (text_added (at l i j s) hs))

  nothing_goes : (s : ℕ) → at l i j s ≡ moved (at l i j s) 259
  nothing_goes s = moved_good (at l i j s) 259 refl (token_nothing (at l i j s) 259 refl)

  text_in : (s k : ℕ) → s < 200 → k < 256 → is_in r f (at l i j s) k ≡ wanted r f i j
  unfolding is_in
  text_in s k hs h = rw (lt-ltb k 256 h, ← text_goes s k hs h)

  text_put : (n s k : ℕ) → (wanted r f i j ≡ true → n ≤ s) → s < 200 → k < 256 → kept (wanted r f i j) (k ∷ []) ≡ cell_byte r f n (at l i j s) k
  unfolding byte_if
  text_put n s k hn hs h = rw (text_in s k hs h) (by (wanted r f i j) hn)
    where
      by : (w : Bool) → (w ≡ true → n ≤ s) → kept w (k ∷ []) ≡ cond (ltb n 200) (cond w (k ∷ []) []) []
      by true q = let z = q refl in sym (rw (lt-ltb n 200 (omega arith)) refl)
      by false q = kept_nil (ltb n 200)

  nothing : (m m' : Mode) (s n b : ℕ) → step 44 m b ≡ says 259 m' → Goes r f m (at l i j s) n (b ∷ []) m' (at l i j s) [] (told r l i)
  nothing m m' s n b e = goes_byte n b e (nothing_goes s) (none_put r f n (at l i j s) 259 (omega arith))

  one_quoted : (n s k : ℕ) → (wanted r f i j ≡ true → n ≤ s) → s < 200 → k < 256 → (q : Bool) → eqb k 34 ≡ q →
      Goes r f Quoted (at l i j s) n (cond q (34 ∷ 34 ∷ []) (k ∷ [])) Quoted (at l i j (s + 1)) (kept (wanted r f i j) (k ∷ [])) (told r l i)
  one_quoted n s k hn hs h true e =
      let x : k ≡ 34 = eqb-true k 34 e in
      rw x
      (goes_on l i (nothing Quoted Closing s n 34 refl) (omega arith)
      (goes_byte {m = Closing} {m' = Quoted} n 34 refl (text_goes s 34 hs (omega arith)) (text_put n s 34 hn hs (omega arith))))
  one_quoted n s k hn hs h false e = goes_byte {m = Quoted} {m' = Quoted} n k (rw e) (text_goes s k hs h) (text_put n s k hn hs h)

  all_quoted : (n s : ℕ) (ks : List ℕ) → (wanted r f i j ≡ true → n ≤ s) → s + length ks ≤ 200 → all_bytes ks ≡ true →
      Goes r f Quoted (at l i j s) n (doubled ks ++ (34 ∷ [])) Closing (at l i j (s + length ks)) (kept (wanted r f i j) ks) (told r l i)
  unfolding doubled all_bytes
  all_quoted n s [] hn hs h =
      let e : s + 0 ≡ s = omega arith in
      rw (e, ← kept_nil (wanted r f i j)) (nothing Quoted Closing s n 34 refl)
  all_quoted n s (k ∷ ks) hn hs h =
      let w = wanted r f i j in
      let p = both_true (ltb k 256) (all_bytes ks) h in
      let d : doubled (k ∷ ks) ++ (34 ∷ []) ≡ cond (eqb k 34) (34 ∷ 34 ∷ []) (k ∷ []) ++ (doubled ks ++ (34 ∷ [])) =
      rw (split (eqb k 34) (doubled ks) k) (append_assoc (cond (eqb k 34) (34 ∷ 34 ∷ []) (k ∷ [])) (doubled ks) (34 ∷ [])) in
      let e : s + length (k ∷ ks) ≡ s + 1 + length ks = omega arith in
      rw (d, e, kept_more w k ks)
      (goes_on l i (one_quoted n s k hn (omega arith) (ltb-true k 256 p.0) (eqb k 34) refl) refl
      (all_quoted (n + length (kept w (k ∷ []))) (s + 1) ks (kept_count w k hn) (omega arith) p.1))

  pub quoted_goes : (n : ℕ) (ks : List ℕ) → (wanted r f i j ≡ true → n ≤ 0) → length ks ≤ 200 → all_bytes ks ≡ true →
      Goes r f Start (at l i j 0) n (quoted ks) Closing (at l i j (length ks)) (kept (wanted r f i j) ks) (told r l i)
  unfolding quoted
  quoted_goes n ks hn hs h =
      let e : 0 + length ks ≡ length ks = omega arith in
      goes_on l i (nothing Start Quoted 0 n 34 refl) (omega arith) (rw e at (all_quoted n 0 ks hn (omega arith) h))
