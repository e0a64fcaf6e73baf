-- The pairs of a card's body: pairs in order are those of one share list, which is what they are read as; and the pairs of any
-- share list are in order.
use mathlib.Core.Path.{◌≡◌, refl, ap, ◌∙◌}
use mathlib.Core.Bool.{Bool, true, false, ◌&&◌}
use mathlib.Core.List.{List, [], ◌∷◌, ◌++◌, append_assoc}
use Prim.Native.Nat.{ℕ, zero, suc, ◌+◌, ◌*◌, ◌≤◌, ◌<◌}
use native.Mathlib.Nat.{zero-add}
use native.Mathlib.Omega.{arith}
use borrow.Author.Tests.{eqb-true, eqb-false, ne_eqb, leb-true, le-leb, ltb-true, ltb-false, lt-ltb}
use lib.Dec.{eqb, leb, ltb}
use lib.ListN.{length, get_or, drop, set, replicate, length-append, length-drop}
use lib.Seq.{append_snoc, set_at}
use Rattle.files.specs.Bytes.{number_bytes, all_bytes, number}
use Rattle.files.proofs.Refusal.{and_true}
use Rattle.method.specs.Iterates.{support}
use Rattle.card_format.specs.Format.{pair, pairs, shares_into}
use Rattle.card_format.specs.Checks.{pairs_in_order}
use Rattle.files.proofs.Bytes.{length_bytes, read_bytes, drop_bytes, field}

-- ---- One pair

pub pair_some : (i q : ℕ) → 0 < q → pair i q ≡ number_bytes 2 i ++ number_bytes 2 q
unfolding pair
pair_some i q h = rw (ne_eqb q 0 (λ e. omega arith))

support_some : (q : ℕ) (qs : List ℕ) → 0 < q → support (q ∷ qs) ≡ suc (support qs)
unfolding support
support_some q qs h = rw (ne_eqb q 0 (λ e. omega arith)) (omega arith)

-- the first pair of some pairs in order
record First (k next n : ℕ) (bs : List ℕ) : Type 0 where
  from : next ≤ number 0 2 bs
  below : number 0 2 bs < n
  some : 0 < number 2 2 bs
  later : pairs_in_order k (suc (number 0 2 bs)) n (drop 4 bs) ≡ true

first : (k next n : ℕ) (bs : List ℕ) → pairs_in_order (suc k) next n bs ≡ true → First k next n bs
unfolding pairs_in_order
first k next n bs h =
    let p = and_true (leb next (number 0 2 bs) && (ltb (number 0 2 bs) n && ltb 0 (number 2 2 bs))) _ h in
    let q = and_true (leb next (number 0 2 bs)) _ p.0 in
    let r = and_true (ltb (number 0 2 bs) n) _ q.1 in
    record { from = leb-true next (number 0 2 bs) q.0; below = ltb-true (number 0 2 bs) n r.0; some = ltb-true 0 (number 2 2 bs) r.1; later = p.1 }

in_order : {k next n : ℕ} {bs : List ℕ} → First k next n bs → pairs_in_order (suc k) next n bs ≡ true
unfolding pairs_in_order
in_order {k} {next} {n} {bs} f = simp (le-leb next (number 0 2 bs) f.from, lt-ltb (number 0 2 bs) n f.below, lt-ltb 0 (number 2 2 bs) f.some, f.later)

-- the first boat may be counted from a lower one
order_lower : (k next low n : ℕ) (bs : List ℕ) → low ≤ next → pairs_in_order k next n bs ≡ true → pairs_in_order k low n bs ≡ true
unfolding pairs_in_order
order_lower zero next low n bs l h = refl
order_lower (suc k) next low n bs l h =
    let f = first k next n bs h in
    unfold pairs_in_order in in_order {k = k} (record { from = omega (arith, f.from); below = f.below; some = f.some; later = f.later })

-- ---- Pairs in order are those of a share list

-- k pairs bs of boats from i on are those of this share list of m boats
pub record Parsed (k i m : ℕ) (bs : List ℕ) : Type 0 where
  pub shares : List ℕ
  pub share_count : length shares ≡ m
  pub written : pairs i shares ≡ bs
  pub boats : support shares ≡ k
  pub read : (zs : List ℕ) → length zs ≡ i → shares_into k bs (zs ++ replicate m 0) ≡ zs ++ shares

-- boat i has no pair
skip : {k i m : ℕ} {bs : List ℕ} → Parsed k (suc i) m bs → Parsed k i (suc m) bs
unfolding pairs pair support
skip {k} {i} {m} {bs} p =
    record {
      shares = 0 ∷ p.shares;
      share_count = ap suc p.share_count;
      written = p.written;
      boats = omega (arith, p.boats);
      read = λ zs e.
          rw (← append_snoc zs 0 (replicate m 0), ← append_snoc zs 0 p.shares)
          (p.read (zs ++ (0 ∷ [])) (length-append zs (0 ∷ []) ∙ (omega arith)));
    }

-- boat i has the first pair
take_pair : {k i m : ℕ} {bs : List ℕ} → all_bytes bs ≡ true → 4 ≤ length bs → number 0 2 bs ≡ i → 0 < number 2 2 bs → Parsed k (suc i) m (drop 4 bs) → Parsed (suc k) i (suc m) bs
unfolding pairs shares_into
take_pair {k} {i} {m} {bs} all l e h p =
    let q = number 2 2 bs in
    record {
      shares = q ∷ p.shares;
      share_count = ap suc p.share_count;
      written =
          rw (pair_some i q h, p.written, append_assoc, field 2 2 bs all l, ← e)
          (field 0 2 bs all (omega arith));
      boats = support_some q p.shares h ∙ ap suc p.boats;
      read = λ zs z.
          rw (e, set_at zs 0 (replicate m 0) q i z, ← append_snoc zs q (replicate m 0), ← append_snoc zs q p.shares)
          (p.read (zs ++ (q ∷ [])) (length-append zs (q ∷ []) ∙ (omega arith)));
    }

no_bytes : (bs : List ℕ) → length bs ≡ 0 → [] ≡ bs
no_bytes [] e = refl
no_bytes (x ∷ xs) e = absurd (omega arith)

parse_by : {k i m : ℕ} {bs : List ℕ} (t : Bool) → eqb (number 0 2 bs) i ≡ t → all_bytes bs ≡ true → 4 ≤ length bs → 0 < number 2 2 bs →
    (number 0 2 bs ≡ i → Parsed k (suc i) m (drop 4 bs)) → ((number 0 2 bs ≡ i → ⊥) → Parsed (suc k) (suc i) m bs) → Parsed (suc k) i (suc m) bs
parse_by {i = i} {bs = bs} true t all l h f g = let q : number 0 2 bs ≡ i = eqb-true (number 0 2 bs) i t in take_pair all l q h (f q)
parse_by {i = i} {bs = bs} false t all l h f g = skip (g (eqb-false (number 0 2 bs) i t))

pub parse : (m k i n : ℕ) (bs : List ℕ) → i + m ≡ n → all_bytes bs ≡ true → length bs ≡ 4 * k → pairs_in_order k i n bs ≡ true → Parsed k i m bs
unfolding pairs support shares_into
parse zero zero i n bs e all l h = record { shares = []; share_count = refl; written = no_bytes bs (omega arith); boats = refl; read = λ zs z. refl }
parse zero (suc k) i n bs e all l h = let f = first k i n bs h in absurd (omega (arith, f.from, f.below))
parse (suc m) zero i n bs e all l h = skip (parse m zero (suc i) n bs (omega arith) all l (unfold pairs_in_order in refl))
parse (suc m) (suc k) i n bs e all l h =
    let f = first k i n bs h in
    parse_by (eqb (number 0 2 bs) i) refl all (omega arith) f.some
    (λ q. parse m k (suc i) n (drop 4 bs) (omega arith) (drop_bytes 4 bs all) (length-drop 4 bs ∙ (omega arith)) (rw q at f.later))
    (λ q. parse m (suc k) (suc i) n bs (omega arith) all l (in_order {k = k} (record { from = later f.from q; below = f.below; some = f.some; later = f.later })))
  where
    later : {i x : ℕ} → i ≤ x → (x ≡ i → ⊥) → suc i ≤ x
    later {i} {x} h q = after (ltb i x) refl
      where
        after : (t : Bool) → ltb i x ≡ t → suc i ≤ x
        after true t = ltb-true i x t
        after false t = absurd (q (omega (arith, ltb-false i x t)))

-- ---- The pairs of a share list are in order, and read as it

-- the k pairs bs are in order, from boat i on, and read as the shares qs
pub record Readable (i n k : ℕ) (bs qs : List ℕ) : Type 0 where
  pub ordered : pairs_in_order k i n bs ≡ true
  pub sized : length bs ≡ 4 * k
  pub read : (zs : List ℕ) → length zs ≡ i → shares_into k bs (zs ++ replicate (length qs) 0) ≡ zs ++ qs

front_boat : (i q : ℕ) (rest : List ℕ) → i < 65536 → number 0 2 ((number_bytes 2 i ++ number_bytes 2 q) ++ rest) ≡ i
unfolding number number_bytes
front_boat i q rest h = unfold number_bytes in read_bytes 2 i h

front_share : (i q : ℕ) (rest : List ℕ) → q < 65536 → number 2 2 ((number_bytes 2 i ++ number_bytes 2 q) ++ rest) ≡ q
unfolding number number_bytes
front_share i q rest h = unfold number_bytes in read_bytes 2 q h

front_drop : (i q : ℕ) (rest : List ℕ) → drop 4 ((number_bytes 2 i ++ number_bytes 2 q) ++ rest) ≡ rest
unfolding number_bytes
front_drop i q rest = refl

pub into_none : (bs qs : List ℕ) → shares_into 0 bs qs ≡ qs
unfolding shares_into
into_none bs qs = refl

pub into_more : (k : ℕ) (bs qs : List ℕ) → shares_into (suc k) bs qs ≡ shares_into k (drop 4 bs) (set qs (number 0 2 bs) (number 2 2 bs))
unfolding shares_into
into_more k bs qs = refl

pairs_some : (i q : ℕ) (qs : List ℕ) → 0 < q → pairs i (q ∷ qs) ≡ (number_bytes 2 i ++ number_bytes 2 q) ++ pairs (suc i) qs
unfolding pairs
pairs_some i q qs h = rw (pair_some i q h)

readable_some : (q : ℕ) (qs : List ℕ) (i n : ℕ) → 0 < q → q < 65536 → i < n × (n ≤ 65536) → Readable (suc i) n (support qs) (pairs (suc i) qs) qs →
    Readable i n (support (q ∷ qs)) (pairs i (q ∷ qs)) (q ∷ qs)
readable_some q qs i n k l h r =
    let rest = pairs (suc i) qs in
    let boat = front_boat i q rest (omega arith) in
    let share = front_share i q rest l in
    rw (support_some q qs k, pairs_some i q qs k)
    (record {
      ordered = in_order {k = support qs} (record { from = omega (arith, boat); below = omega (arith, boat); some = omega (arith, share); later = rw (boat, front_drop) r.ordered });
      sized = length-append (number_bytes 2 i ++ number_bytes 2 q) rest ∙ (omega (arith, length-append (number_bytes 2 i) (number_bytes 2 q), length_bytes 2 i, length_bytes 2 q, r.sized));
      read = λ zs z.
          rw (into_more, boat, share, front_drop, set_at zs 0 (replicate (length qs) 0) q i z, ← append_snoc zs q (replicate (length qs) 0), ← append_snoc zs q qs)
          (r.read (zs ++ (q ∷ [])) (length-append zs (q ∷ []) ∙ (omega arith)));
    })

pub readable : (qs : List ℕ) (i n : ℕ) → i + length qs ≡ n → n ≤ 65536 → ((j : ℕ) → get_or qs j 0 < 65536) → Readable i n (support qs) (pairs i qs) qs
unfolding pairs pair support shares_into
readable [] i n e h f = record { ordered = unfold pairs_in_order in refl; sized = refl; read = λ zs z. refl }
readable (zero ∷ qs) i n e h f =
    let r = readable qs (suc i) n (omega arith) h (λ j. f (suc j)) in
    rw (zero-add (support qs))
    (record {
      ordered = order_lower (support qs) (suc i) i n (pairs (suc i) qs) (omega arith) r.ordered;
      sized = r.sized;
      read = λ zs z.
          rw (← append_snoc zs 0 (replicate (length qs) 0), ← append_snoc zs 0 qs)
          (r.read (zs ++ (0 ∷ [])) (length-append zs (0 ∷ []) ∙ (omega arith)));
    })
readable (suc p ∷ qs) i n e h f = readable_some (suc p) qs i n (omega arith) (f 0) (omega arith, h) (readable qs (suc i) n (omega arith) h (λ j. f (suc j)))
