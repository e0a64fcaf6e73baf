-- Bytes put into a buffer one after the other.
use mathlib.Core.Path.{◌≡◌, refl, sym, ap, ◌∙◌}
use mathlib.Core.Bool.{Bool, true, false}
use mathlib.Core.List.{List, [], ◌∷◌, ◌++◌}
use Prim.Native.Nat.{ℕ, zero, suc, ◌+◌, ◌≤◌, ◌<◌}
use native.Mathlib.Omega.{arith}
use native.Mathlib.Numerals.{add-one}
use borrow.Author.Tests.{eqb-true, eqb-false, ne_eqb}
use lib.Dec.{eqb}
use lib.ListN.{length, take, drop, get_or, length-append, drop_of_length-le}
use lib.Seq.{drop-cons, get_or-take, length-take-le}
use Rattle.files.specs.Bytes.{number_bytes}
use Rattle.method.specs.declared.Test.TheVariants.{Sharper}
use Rattle.method.specs.declared.Answer.{Answer}
use Rattle.method.specs.Answers.{verdict_number}
use Rattle.method.specs.Iterates.{support}
use Rattle.card_format.specs.Format.{pair, pairs, WCD2, letters, trailer_bytes, answer_fields}
use Rattle.files.proofs.Bytes.{length_bytes}
use Rattle.card_format.proofs.Pairs.{pair_some}
use Rattle.buffers.specs.Placed.{placed}
use Rattle.buffers.proofs.Placing.{placed_nil, placed_length, placed_then, placed_next}

-- ---- The trailer

-- what is left of a run of numbers, one after the other
module _ (out : List ℕ) {o₁ o₂ o₃ o₄ : List ℕ} (at a b c d : ℕ) (h : at + 12 ≤ length out) (e₁ : o₁ ≡ placed out at (number_bytes 4 a)) (e₂ : o₂ ≡ placed o₁ (at + 4) (number_bytes 2 b))
    (e₃ : o₃ ≡ placed o₂ (at + 6) (number_bytes 2 c)) (e₄ : o₄ ≡ placed o₃ (at + 8) (number_bytes 4 d)) where
  pub head_placed : o₄ ≡ placed out at (number_bytes 4 a ++ (number_bytes 2 b ++ (number_bytes 2 c ++ number_bytes 4 d)))
  unfolding number_bytes
  head_placed =
      let p₂ = placed_next out at (number_bytes 4 a) (number_bytes 2 b) (at + 4) e₁ e₂ refl (omega arith) in
      let p₃ = placed_next out at (number_bytes 4 a ++ number_bytes 2 b) (number_bytes 2 c) (at + 6) p₂ e₃ refl (omega arith) in
      placed_next out at ((number_bytes 4 a ++ number_bytes 2 b) ++ number_bytes 2 c) (number_bytes 4 d) (at + 8) p₃ e₄ refl (omega arith)

module _ (out : List ℕ) {o₁ o₂ o₃ o₄ o₅ : List ℕ} (at a b c d : ℕ) (h : at + 24 ≤ length out) (e₁ : o₁ ≡ placed out at (number_bytes 8 a)) (e₂ : o₂ ≡ placed o₁ (at + 8) (number_bytes 8 b))
    (e₃ : o₃ ≡ placed o₂ (at + 16) (number_bytes 2 c)) (e₄ : o₄ ≡ placed o₃ (at + 18) (number_bytes 2 d)) (e₅ : o₅ ≡ placed o₄ (at + 20) WCD2) where
  pub rest_placed : o₅ ≡ placed out at (number_bytes 8 a ++ (number_bytes 8 b ++ (number_bytes 2 c ++ (number_bytes 2 d ++ WCD2))))
  unfolding number_bytes
  rest_placed =
      let p₂ = placed_next out at (number_bytes 8 a) (number_bytes 8 b) (at + 8) e₁ e₂ refl (omega arith) in
      let p₃ = placed_next out at (number_bytes 8 a ++ number_bytes 8 b) (number_bytes 2 c) (at + 16) p₂ e₃ refl (omega arith) in
      let p₄ = placed_next out at ((number_bytes 8 a ++ number_bytes 8 b) ++ number_bytes 2 c) (number_bytes 2 d) (at + 18) p₃ e₄ refl (omega arith) in
      placed_next out at (((number_bytes 8 a ++ number_bytes 8 b) ++ number_bytes 2 c) ++ number_bytes 2 d) WCD2 (at + 20) p₄ e₅ refl (omega arith)

pub trailer_placed : (out : List ℕ) {now new : List ℕ} (at tolerance n c v : ℕ) (a : Answer) → at + 36 ≤ length out → v ≡ verdict_number a.verdict →
    now ≡ placed out at (number_bytes 4 at ++ (number_bytes 2 v ++ (number_bytes 2 a.steps ++ number_bytes 4 tolerance))) →
    new ≡ placed now (at + 12) (number_bytes 8 a.distance ++ (number_bytes 8 a.gap ++ (number_bytes 2 n ++ (number_bytes 2 c ++ WCD2)))) →
    new ≡ placed out at (trailer_bytes Sharper (answer_fields a at tolerance n c))
unfolding trailer_bytes letters answer_fields number_bytes
trailer_placed out at tolerance n c v a h ev e f =
    placed_next out at (number_bytes 4 at ++ (number_bytes 2 (verdict_number a.verdict) ++ (number_bytes 2 a.steps ++ number_bytes 4 tolerance)))
    (number_bytes 8 a.distance ++ (number_bytes 8 a.gap ++ (number_bytes 2 n ++ (number_bytes 2 c ++ WCD2)))) (at + 12) (rw ev at e) f refl (omega arith)

pub pair_none : (boat q : ℕ) → q ≡ 0 → pair boat q ≡ []
unfolding pair
pair_none boat q e = rw e refl

positive : {q : ℕ} → (q ≡ 0 → ⊥) → 0 < q
positive {q = zero} n = absurd (n refl)
positive {q = suc q} n = omega arith

-- a share above zero
pub pair_placed : (out : List ℕ) {now new : List ℕ} (at boat q : ℕ) → (q ≡ 0 → ⊥) → at + length (pair boat q) ≤ length out → now ≡ placed out at (number_bytes 2 boat) → new ≡ placed now (at + 2) (number_bytes 2 q) →
    (at + 4 ≡ at + length (pair boat q)) × (new ≡ placed out at (pair boat q))
pair_placed out at boat q n h e f =
    let p = pair_some boat q (positive n) in
    let l = length-append (number_bytes 2 boat) (number_bytes 2 q) in
    let k : length (pair boat q) ≡ 4 = ap length p ∙ (omega (arith, l, length_bytes 2 boat, length_bytes 2 q)) in
    (omega arith, rw p (placed_next out at (number_bytes 2 boat) (number_bytes 2 q) (at + 2) e f (omega (arith, length_bytes 2 boat)) (omega (arith, length_bytes 2 boat))))

-- a share of 0
pub pair_skipped : (out : List ℕ) (at boat q : ℕ) → q ≡ 0 → (at ≡ at + length (pair boat q)) × (out ≡ placed out at (pair boat q))
pair_skipped out at boat q e = rw (pair_none boat q e) (omega arith, sym (placed_nil out at))

pub pair_long : (boat q : ℕ) → (q ≡ 0 → ⊥) → length (pair boat q) ≡ 4
pair_long boat q n = ap length (pair_some boat q (positive n)) ∙ (omega (arith, length-append (number_bytes 2 boat) (number_bytes 2 q), length_bytes 2 boat, length_bytes 2 q))

-- ---- The pairs of a share list

pairs_more : (boat q : ℕ) (qs : List ℕ) → pairs boat (q ∷ qs) ≡ pair boat q ++ pairs (suc boat) qs
unfolding pairs
pairs_more boat q qs = refl

pairs_none : (boat : ℕ) → pairs boat [] ≡ []
unfolding pairs
pairs_none boat = refl

-- the pairs of the first i shares stand before `at`
pub record Pairing (out : List ℕ) (n : ℕ) (shares : List ℕ) (i at : ℕ) (now : List ℕ) : Type 0 where
  pub within : i ≤ n
  pub long : length now ≡ length out
  pub inside : at + length (pairs i (drop i (take n shares))) ≡ length (pairs 0 (take n shares))
  pub later : placed now at (pairs i (drop i (take n shares))) ≡ placed out 0 (pairs 0 (take n shares))

pub pairing_start : {out : List ℕ} {n : ℕ} {shares : List ℕ} → Pairing out n shares 0 0 out
pairing_start = record { within = omega arith; long = refl; inside = omega arith; later = refl }

module _ {out : List ℕ} {n : ℕ} {shares : List ℕ} {i at : ℕ} {now : List ℕ} (d : Pairing out n shares i at now) (l : n ≤ length shares) (h : i < n) where
  next_pair : pairs i (drop i (take n shares)) ≡ pair i (get_or shares i 0) ++ pairs (i + 1) (drop (i + 1) (take n shares))
  next_pair =
      ap (pairs i) (drop-cons (take n shares) i 0 (omega (arith, length-take-le n shares l)))
      ∙ rw (get_or-take n shares i 0 h, pairs_more, add-one)

  pub pair_room : length (pairs 0 (take n shares)) ≤ length out → at + length (pair i (get_or shares i 0)) ≤ length now
  pair_room k = omega (arith, d.long, d.inside, ap length next_pair, length-append (pair i (get_or shares i 0)) (pairs (i + 1) (drop (i + 1) (take n shares))))

  pub pairing_more : length (pairs 0 (take n shares)) ≤ length out → (next : ℕ) (new : List ℕ) → next ≡ at + length (pair i (get_or shares i 0)) → new ≡ placed now at (pair i (get_or shares i 0)) →
      Pairing out n shares (i + 1) next new
  pairing_more k next new en ew =
      let q = get_or shares i 0 in
      let later = pairs (i + 1) (drop (i + 1) (take n shares)) in
      record {
        within = omega arith;
        long = ap length ew ∙ placed_length now at (pair i q) (pair_room k) ∙ d.long;
        inside = omega (arith, en, d.inside, ap length next_pair, length-append (pair i q) later);
        later = rw (en, ew) (placed_then now at (pair i q) later (pair_room k) ∙ (rw next_pair at d.later));
      }

pub pairing_end : {out : List ℕ} {n : ℕ} {shares : List ℕ} {i at : ℕ} {now : List ℕ} → Pairing out n shares i at now → n ≤ length shares → n ≤ i → now ≡ placed out 0 (pairs 0 (take n shares))
pairing_end {n = n} {shares = shares} {i = i} {at = at} {now = now} d l h =
    let e : drop i (take n shares) ≡ [] = drop_of_length-le (take n shares) {i = i} (omega (arith, length-take-le n shares l)) in
    sym (placed_nil now at) ∙ (rw (e, pairs_none) at d.later)

-- ---- How many boats hold shares

pub held_none : (q : ℕ) → q ≡ 0 → 0 ≡ support (q ∷ [])
unfolding support
held_none q e = rw e refl

pub held_some : (q : ℕ) → (q ≡ 0 → ⊥) → 1 ≡ support (q ∷ [])
unfolding support
held_some q h = rw (ne_eqb q 0 h) refl

pub held_most : (q : ℕ) → support (q ∷ []) ≤ 1
held_most q = by (eqb q 0) refl
  where
    by : (t : Bool) → eqb q 0 ≡ t → support (q ∷ []) ≤ 1
    by true t = omega (arith, held_none q (eqb-true q 0 t))
    by false t = omega (arith, held_some q (eqb-false q 0 t))

support_more : (q : ℕ) (qs : List ℕ) → support (q ∷ qs) ≡ support (q ∷ []) + support qs
unfolding support
support_more q qs = omega arith

support_none : support [] ≡ 0
unfolding support
support_none = refl

-- k of the first i boats hold shares
pub record Counting (n : ℕ) (shares : List ℕ) (i k : ℕ) : Type 0 where
  pub within : i ≤ n
  pub few : k ≤ i
  pub later : k + support (drop i (take n shares)) ≡ support (take n shares)

pub counting_start : {n : ℕ} {shares : List ℕ} → Counting n shares 0 0
counting_start = record { within = omega arith; few = omega arith; later = omega arith }

pub counting_more : {n : ℕ} {shares : List ℕ} {i k : ℕ} → Counting n shares i k → n ≤ length shares → i < n → (x : ℕ) → x ≡ support (get_or shares i 0 ∷ []) → Counting n shares (i + 1) (k + x)
counting_more {n} {shares} {i} {k} d l h x e =
    let q : support (drop i (take n shares)) ≡ support (get_or shares i 0 ∷ []) + support (drop (i + 1) (take n shares)) =
    ap support (drop-cons (take n shares) i 0 (omega (arith, length-take-le n shares l))) ∙ rw (get_or-take n shares i 0 h, support_more (get_or shares i 0) (drop (suc i) (take n shares)), add-one) in
    record { within = omega arith; few = omega (arith, d.few, held_most (get_or shares i 0)); later = omega (arith, d.later, q) }

pub counting_end : {n : ℕ} {shares : List ℕ} {i k : ℕ} → Counting n shares i k → n ≤ length shares → n ≤ i → k ≡ support (take n shares)
counting_end {n} {shares} {i} {k} d l h =
    let e : drop i (take n shares) ≡ [] = drop_of_length-le (take n shares) {i = i} (omega (arith, length-take-le n shares l)) in
    omega (arith, d.later, ap support e, support_none)
