-- Of the boats that hold shares, the one of greatest score and the one of least, the lowest number among equals; there is only one such.
use mathlib.Core.Path.{◌≡◌, refl}
use mathlib.Core.Bool.{Bool, true, false, ◌&&◌, ◌||◌, cond}
use mathlib.Core.List.{List, [], ◌∷◌}
use Prim.Native.Nat.{ℕ, zero, suc, ◌-◌, ◌≤◌, ◌<◌}
use native.Mathlib.Omega.{arith}
use borrow.Author.Tests.{ltb-true, ltb-false, eqb-true, eqb-false}
use lib.Dec.{eqb, ltb}
use lib.IntN.{ℤ, pos}
use lib.ListN.{length, get_or}
use lib.Signed.{◌≤ℤ◌, ◌<ℤ◌, lt_z_yes, lt_z_no, ≤ℤ_refl, <ℤ-≤ℤ_trans, clash_ℤ}
use Rattle.integers.proofs.Solver.{x₀, x₁, x₂}
use Rattle.integers.proofs.Facts.{◌≼◌, ◌≺◌, known, ◌⊞◌, derive, <ℤ→≤ℤ}
use Rattle.frank_wolfe.specs.Vectors.{sum}
use Rattle.pairwise.specs.Moves.{better, foremost, greater, less}
use Rattle.pairwise.specs.Worked.{Greatest, Least}

-- what holds of each number below n, and of n
upto : (P : ℕ → Type 0) (n : ℕ) → ((i : ℕ) → i < n → P i) → P n → (i : ℕ) → i < suc n → P i
upto P n f h i l = by (ltb i n) refl
  where
    by : (t : Bool) → ltb i n ≡ t → P i
    by true e = f i (ltb-true i n e)
    by false e = let z : i ≡ n = omega (arith, ltb-false i n e) in rw z h

-- ---- Boats that hold shares

pub some_in : (qs : List ℕ) (i : ℕ) → 1 ≤ get_or qs i 0 → i < length qs
some_in [] i h = absurd (omega arith)
some_in (q ∷ qs) zero h = omega arith
some_in (q ∷ qs) (suc i) h = omega (arith, some_in qs i h)

pub record Holder (qs : List ℕ) : Type 0 where
  pub at : ℕ
  pub some : 1 ≤ get_or qs at 0

pub positive : (q : ℕ) → (q ≡ 0 → ⊥) → 1 ≤ q
positive zero n = absurd (n refl)
positive (suc q) n = omega arith

pub some_holder : (qs : List ℕ) → 1 ≤ sum qs → Holder qs
unfolding sum
some_holder [] h = absurd (omega arith)
some_holder (q ∷ qs) h = by (λ k. some_holder qs k) (eqb q 0) refl
  where
    by : (1 ≤ sum qs → Holder qs) → (t : Bool) → eqb q 0 ≡ t → Holder (q ∷ qs)
    by later true e = let k = later (omega (arith, eqb-true q 0 e)) in record { at = suc k.at; some = k.some }
    by later false e = record { at = 0; some = positive q (eqb-false q 0 e) }

-- ---- The foremost of them, by any strict order of the scores

-- it is one of the boats passed
pub foremost_inside : (before : ℤ → ℤ → Bool) (n : ℕ) (qs : List ℕ) (ps : List ℤ) → foremost before n qs ps ≤ n - 1
unfolding foremost better
foremost_inside before zero qs ps = omega arith
foremost_inside before (suc n) qs ps = by (foremost before n qs ps) (foremost_inside before n qs ps) (ltb 0 (get_or qs n 0) && (eqb (get_or qs (foremost before n qs ps) 0) 0 || before (get_or ps n (pos 0)) (get_or ps (foremost before n qs ps) (pos 0))))
  where
    by : (k : ℕ) → k ≤ n - 1 → (t : Bool) → cond t n k ≤ suc n - 1
    by k h true = omega arith
    by k h false = omega arith

-- it goes by the scores of the boats that hold shares only
pub foremost_agree : (before : ℤ → ℤ → Bool) (n : ℕ) (qs : List ℕ) (ps os : List ℤ) → ((i : ℕ) → 1 ≤ get_or qs i 0 → get_or ps i (pos 0) ≡ get_or os i (pos 0)) →
    foremost before n qs ps ≡ foremost before n qs os
unfolding foremost better
foremost_agree before zero qs ps os same = refl
foremost_agree before (suc n) qs ps os same =
    rw (foremost_agree before n qs ps os same) (by (foremost before n qs os) (ltb 0 (get_or qs n 0)) (eqb (get_or qs (foremost before n qs os) 0) 0) refl refl)
  where
    by : (k : ℕ) (s t : Bool) → ltb 0 (get_or qs n 0) ≡ s → eqb (get_or qs k 0) 0 ≡ t →
        cond (s && (t || before (get_or ps n (pos 0)) (get_or ps k (pos 0)))) n k ≡ cond (s && (t || before (get_or os n (pos 0)) (get_or os k (pos 0)))) n k
    by k false t a b = refl
    by k true true a b = refl
    by k true false a b = rw (same n (ltb-true 0 (get_or qs n 0) a), same k (positive (get_or qs k 0) (eqb-false (get_or qs k 0) 0 b)))

module _ (before : ℤ → ℤ → Bool) (Ahead Level : ℤ → ℤ → Type 0)
    (yes : (a b : ℤ) → before a b ≡ true → Ahead a b) (no : (a b : ℤ) → before a b ≡ false → Level b a)
    (same : (a : ℤ) → Level a a) (through : (a b c : ℤ) → Ahead a b → Level b c → Ahead a c) (weak : (a b : ℤ) → Ahead a b → Level a b)
    (qs : List ℕ) (ps : List ℤ) where
  abbrev at : ℕ → ℤ
  at i = get_or ps i (pos 0)

  -- boat k leads the first n
  record Leads (n k : ℕ) : Type 0 where
    inside : k ≤ n - 1
    holds : (i : ℕ) → i < n → 1 ≤ get_or qs i 0 → 1 ≤ get_or qs k 0
    leads : (i : ℕ) → i < n → 1 ≤ get_or qs i 0 → Level (at k) (at i)
    first : (i : ℕ) → i < k → 1 ≤ get_or qs i 0 → Ahead (at k) (at i)

  foremost_leads : (n : ℕ) → Leads n (foremost before n qs ps)
  unfolding foremost better
  foremost_leads zero =
      record { inside = omega arith; holds = λ i h. absurd (omega arith); leads = λ i h. absurd (omega arith); first = λ i h. absurd (omega arith) }
  foremost_leads (suc n) = by (foremost before n qs ps) (foremost_leads n) (ltb 0 (get_or qs n 0)) (eqb (get_or qs (foremost before n qs ps) 0) 0) (before (at n) (at (foremost before n qs ps))) refl refl refl
    where
      by : (k : ℕ) → Leads n k → (s t u : Bool) → ltb 0 (get_or qs n 0) ≡ s → eqb (get_or qs k 0) 0 ≡ t → before (at n) (at k) ≡ u → Leads (suc n) (cond (s && (t || u)) n k)
      by k l false t u hs ht hu =
          let none : get_or qs n 0 ≤ 0 = ltb-false 0 (get_or qs n 0) hs in
          record {
            inside = omega (arith, l.inside);
            holds = upto (λ i. 1 ≤ get_or qs i 0 → 1 ≤ get_or qs k 0) n l.holds (λ h. absurd (omega arith));
            leads = upto (λ i. 1 ≤ get_or qs i 0 → Level (at k) (at i)) n l.leads (λ h. absurd (omega arith));
            first = l.first;
          }
      by k l true true u hs ht hu =
          let none : get_or qs k 0 ≡ 0 = eqb-true (get_or qs k 0) 0 ht in
          let clash : (i : ℕ) → i < n → 1 ≤ get_or qs i 0 → ⊥ = λ i a h. omega (arith, l.holds i a h) in
          record {
            inside = omega arith;
            holds = λ i a h. omega (arith, ltb-true 0 (get_or qs n 0) hs);
            leads = upto (λ i. 1 ≤ get_or qs i 0 → Level (at n) (at i)) n (λ i a h. absurd (clash i a h)) (λ h. same (at n));
            first = λ i a h. absurd (clash i a h);
          }
      by k l true false true hs ht hu =
          let ahead : (i : ℕ) → i < n → 1 ≤ get_or qs i 0 → Ahead (at n) (at i) = λ i a h. through (at n) (at k) (at i) (yes (at n) (at k) hu) (l.leads i a h) in
          record {
            inside = omega arith;
            holds = λ i a h. omega (arith, ltb-true 0 (get_or qs n 0) hs);
            leads = upto (λ i. 1 ≤ get_or qs i 0 → Level (at n) (at i)) n (λ i a h. weak (at n) (at i) (ahead i a h)) (λ h. same (at n));
            first = ahead;
          }
      by k l true false false hs ht hu =
          record {
            inside = omega (arith, l.inside);
            holds = λ i a h. positive (get_or qs k 0) (eqb-false (get_or qs k 0) 0 ht);
            leads = upto (λ i. 1 ≤ get_or qs i 0 → Level (at k) (at i)) n l.leads (λ h. no (at n) (at k) hu);
            first = l.first;
          }

module _ (qs : List ℕ) (ps : List ℤ) where
  pub foremost_greatest : Holder qs → Greatest qs ps (foremost greater (length qs) qs ps)
  foremost_greatest h =
      let l = foremost_leads greater (λ a b. b <ℤ a) (λ a b. b ≤ℤ a) (λ a b e. lt_z_yes (rw e tt)) (λ a b e. lt_z_no (rw e tt)) (λ a. ≤ℤ_refl a)
      (λ a b c k m. derive (a ∷ b ∷ c ∷ []) (x₂ ≺ x₀) (known (x₁ ≺ x₀) k ⊞ known (x₂ ≼ x₁) m) tt) (λ a b k. <ℤ→≤ℤ k) qs ps (length qs) in
      let n : h.at < length qs = some_in qs h.at h.some in
      record {
        in_list = omega (arith, l.inside);
        holds = l.holds h.at n h.some;
        greatest = λ i k. l.leads i (some_in qs i k) k;
        first = l.first;
      }

  pub foremost_least : Holder qs → Least qs ps (foremost less (length qs) qs ps)
  foremost_least h =
      let l = foremost_leads less (λ a b. a <ℤ b) (λ a b. a ≤ℤ b) (λ a b e. lt_z_yes (rw e tt)) (λ a b e. lt_z_no (rw e tt)) (λ a. ≤ℤ_refl a)
      (λ a b c k m. <ℤ-≤ℤ_trans k m) (λ a b k. <ℤ→≤ℤ k) qs ps (length qs) in
      let n : h.at < length qs = some_in qs h.at h.some in
      record {
        in_list = omega (arith, l.inside);
        holds = l.holds h.at n h.some;
        least = λ i k. l.leads i (some_in qs i k) k;
        first = l.first;
      }

-- ---- Only one

pub one_number : (j k : ℕ) → (j < k → ⊥) → (k < j → ⊥) → j ≡ k
one_number j k a b = by (ltb j k) (ltb k j) refl refl
  where
    by : (s t : Bool) → ltb j k ≡ s → ltb k j ≡ t → j ≡ k
    by true t e f = absurd (a (ltb-true j k e))
    by false true e f = absurd (b (ltb-true k j f))
    by false false e f = omega (arith, ltb-false j k e, ltb-false k j f)

pub greatest_one : {qs : List ℕ} {ps : List ℤ} (j k : ℕ) → Greatest qs ps j → Greatest qs ps k → j ≡ k
greatest_one j k g h =
    one_number j k (λ a. clash_ℤ (h.first j a g.holds) (g.greatest k h.holds)) (λ a. clash_ℤ (g.first k a h.holds) (h.greatest j g.holds))

pub least_one : {qs : List ℕ} {ps : List ℤ} (j k : ℕ) → Least qs ps j → Least qs ps k → j ≡ k
least_one j k g h =
    one_number j k (λ a. clash_ℤ (h.first j a g.holds) (g.least k h.holds)) (λ a. clash_ℤ (g.first k a h.holds) (h.least j g.holds))
