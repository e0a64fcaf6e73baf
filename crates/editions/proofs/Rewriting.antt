-- What a conversion gives back and leaves in its output, and that the promise holds of it.
use mathlib.Core.Path.{◌≡◌, refl, sym, ap, ◌∙◌}
use mathlib.Core.Bool.{Bool, true, false, ◌||◌, not, cond}
use mathlib.Core.List.{List}
use Prim.Native.Nat.{ℕ, zero, suc, ◌≤◌, ◌<◌}
use native.Mathlib.Omega.{arith}
use borrow.Author.Tests.{ne_eqb, lt-ltb, le-ltb, ltb-false, not-true, not-false}
use lib.Dec.{eqb, ltb}
use lib.ListN.{length, take}
use Rattle.files.specs.Bytes.{all_bytes}
use Rattle.files.specs.Sheet.{WSH2, sheet, sheet_lettered, sheet_refusal_in}
use Rattle.files.specs.Limits.{file_limit}
use Rattle.factors.specs.Factors.{all_ones}
use Rattle.method.specs.Answers.{slots_after}
use Rattle.method.proofs.Promise.{length_after, slots_kept}
use Rattle.card_format.proofs.Accepted.{both_zero}
use Rattle.editions.specs.Rewritten.{Rewritten, Refused, Wrote}
use Rattle.editions.specs.Rewriting.{other_number, other_edition, edition_refusal, rewriting, rewriting_number}
use Rattle.editions.specs.Promise.{EditionRight}
use Rattle.editions.proofs.Converting.{converted, other_second}

-- ---- By the number

number_of : (n k m : ℕ) → rewriting_number (rewriting n k m) ≡ n
unfolding rewriting_number rewriting
number_of zero k m = refl
number_of (suc n) k m = refl

refused_some : (n k m x : ℕ) → rewriting n k m ≡ Refused x → 1 ≤ x
unfolding rewriting
refused_some zero k m x e = absurd (let z : ◌≡◌ {A = ℕ} 0 1 = cc in omega arith)
refused_some (suc n) k m x e = let q : suc n ≡ x = cc in omega arith

wrote_all : (n k m x y : ℕ) → rewriting n k m ≡ Wrote x y → (n ≡ 0) × ((m ≡ y) × (k ≡ x))
unfolding rewriting
wrote_all zero k m x y e = (refl, (cc, cc))
wrote_all (suc n) k m x y e = absurd (let z : ◌≡◌ {A = ℕ} 0 1 = cc in omega arith)

numbered_by : (t : Bool) → ◌≡◌ {A = ℕ} (cond t 1 2) (cond (not t) 2 1)
numbered_by true = refl
numbered_by false = refl

numbered : (s o : List ℕ) → sheet_lettered WSH2 o ≡ not (sheet_lettered WSH2 s) → other_number s ≡ cond (sheet_lettered WSH2 o) 2 1
unfolding other_number
numbered s o l = rw l (numbered_by (sheet_lettered WSH2 s))

-- ---- What passes

pub record Passes (s : List ℕ) (room : ℕ) : Type 0 where
  pub own : sheet_refusal_in 1 64 s ≡ 0
  pub plain : all_ones (sheet s).factors ≡ true
  pub fits : length (other_edition s) ≤ room
  pub small : length (other_edition s) ≤ file_limit

pub passes : (s : List ℕ) (room : ℕ) → edition_refusal s room ≡ 0 → Passes s room
unfolding edition_refusal
passes s room e =
    let n = length (other_edition s) in
    let p = both_zero (sheet_refusal_in 1 64 s) _ e in
    by p.0 (all_ones (sheet s).factors) refl (ltb room n) refl (ltb file_limit n) refl p.1
  where
    by : sheet_refusal_in 1 64 s ≡ 0 → (a : Bool) → all_ones (sheet s).factors ≡ a → (b : Bool) → ltb room (length (other_edition s)) ≡ b → (c : Bool) → ltb file_limit (length (other_edition s)) ≡ c →
        ◌≡◌ {A = ℕ} (cond (not a) 47 (cond (b || c) 48 0)) 0 → Passes s room
    by o false q b r c t z = absurd (omega arith)
    by o true q true r c t z = absurd (omega arith)
    by o true q false r true t z = absurd (omega arith)
    by o true q false r false t z =
        record { own = o; plain = q; fits = ltb-false room (length (other_edition s)) r; small = ltb-false file_limit (length (other_edition s)) t }

-- ---- The promise, of what the definitions give

module _ (s out : List ℕ) (h : all_bytes s ≡ true) where
  abbrev refusal : ℕ
  refusal = edition_refusal s (length out)

  abbrev Gives : (refusal : ℕ) → Rewritten → List ℕ → Type 0
  Gives n r now = (r ≡ rewriting n (other_number s) (length (other_edition s))) × (now ≡ slots_after n (other_edition s) out)

  abbrev pub Promises : Rewritten → List ℕ → Type 0
  Promises r now =
      (r ≡ rewriting (edition_refusal s (length out)) (other_number s) (length (other_edition s)))
      × ((now ≡ slots_after (edition_refusal s (length out)) (other_edition s) out) × EditionRight s r now)

  written : {r : Rewritten} {now : List ℕ} → Gives refusal r now → refusal ≡ 0 → {size : ℕ} → length (other_edition s) ≡ size → take size now ≡ other_edition s
  written g z {size} e = ap (take size) (g.1 ∙ ap (λ m. slots_after m (other_edition s) out) z) ∙ slots_kept (other_edition s) out size e

  right : {r : Rewritten} {now : List ℕ} → Gives refusal r now → EditionRight s r now
  right {r} {now} g =
      let k : length now ≡ length out = ap length g.1 ∙ length_after refusal (other_edition s) out (λ z. (passes s (length out) z).fits) in
      record {
        number = ap rewriting_number g.0 ∙ number_of refusal _ _ ∙ ap (edition_refusal s) (sym k);
        refused = λ n q. refused_some refusal _ _ n (sym g.0 ∙ q);
        wrote = λ edition size q.
            let w = wrote_all refusal _ _ edition size (sym g.0 ∙ q) in
            let p = passes s (length out) w.0 in
            rw (written g w.0 w.1.0) (converted s p.own p.plain p.small h);
        edition_is = λ edition size q.
            let w = wrote_all refusal _ _ edition size (sym g.0 ∙ q) in
            let p = passes s (length out) w.0 in
            sym w.1.1 ∙ rw (written g w.0 w.1.0) (numbered s (other_edition s) (other_second s p.own p.plain p.small));
      }

  promised : {r : Rewritten} {now : List ℕ} → Gives refusal r now → Promises r now
  promised g = (g.0, (g.1, right g))

  pub refused : (n : ℕ) → n ≡ refusal → (n ≡ 0 → ⊥) → Promises (Refused n) out
  unfolding rewriting slots_after
  refused zero e z = absurd (z refl)
  refused (suc n) e z = promised (rw (← e) (refl, refl))

  pub wrote : refusal ≡ 0 → (number : ℕ) → number ≡ other_number s → (size : ℕ) → size ≡ length (other_edition s) → {now : List ℕ} → now ≡ slots_after 0 (other_edition s) out → Promises (Wrote number size) now
  unfolding rewriting
  wrote z number en size es e = promised (rw z (rw (en, es), e))

-- ---- The number, as the code tests

module _ (s : List ℕ) (room : ℕ) where
  pub by_own : {n : ℕ} → n ≡ sheet_refusal_in 1 64 s → (n ≡ 0 → ⊥) → n ≡ edition_refusal s room
  unfolding edition_refusal
  by_own e z = rw (ne_eqb (sheet_refusal_in 1 64 s) 0 (λ k. z (e ∙ k))) e

  module _ (ok : sheet_refusal_in 1 64 s ≡ 0) (g : Bool) (eg : g ≡ all_ones (sheet s).factors) where
    pub by_factor : not g ≡ true → 47 ≡ edition_refusal s room
    unfolding edition_refusal
    by_factor t = rw (ok, ← eg, not-true g t)

    module _ (t : not g ≡ false) (size : ℕ) (es : size ≡ length (other_edition s)) where
      by_size : (b c : Bool) → ltb room size ≡ b → ltb file_limit size ≡ c → edition_refusal s room ≡ cond (b || c) 48 0
      unfolding edition_refusal
      by_size b c q r = rw (ok, ← eg, not-false g t, ← es, q, r)

      pub by_short : room < size → 48 ≡ edition_refusal s room
      by_short k = sym (by_size true _ (lt-ltb room size k) refl)

      pub by_large : size ≤ room → file_limit < size → 48 ≡ edition_refusal s room
      by_large l k = sym (by_size false true (le-ltb room size l) (lt-ltb file_limit size k))

      pub by_none : size ≤ room → size ≤ file_limit → 0 ≡ edition_refusal s room
      by_none l k = sym (by_size false false (le-ltb room size l) (le-ltb file_limit size k))
