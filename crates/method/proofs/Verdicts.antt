-- What each verdict says of tolerance, weight, E and G, and that the sharper test holds wherever the former does.
use mathlib.Core.Path.{◌≡◌, refl, ap, ap₂}
use mathlib.Core.Logic.{◌↔◌}
use mathlib.Core.Bool.{Bool, true, false, ◌&&◌, cond}
use mathlib.Core.List.{[], ◌∷◌}
use Prim.Native.Nat.{ℕ, ◌+◌, ◌*◌, ◌-◌, ◌≤◌, ◌<◌}
use native.Mathlib.Omega.{arith}
use borrow.Author.Tests.{leb-true, leb-false, ltb-true, lt-ltb, eqb-true}
use lib.Dec.{leb}
use lib.IntN.{pos, ◌-ℤ◌}
use Rattle.integers.proofs.Solver.{con, ◌⊕◌, ◌⊗◌, ◌⊝◌, x₀, x₁, x₂, x₃}
use Rattle.integers.proofs.Order.{≤→≤ℤ, <→<ℤ, <ℤ→<}
use Rattle.integers.proofs.Facts.{◌≼◌, ◌≺◌, known, nat, square, equation, ◌⊞◌, ◌⊡◌, derive}
use Rattle.method.specs.declared.Verdict.{Verdict}
use Rattle.method.specs.declared.Verdict.TheVariants.{Within, Beyond, Spent}
use Rattle.method.specs.declared.Test.{Test}
use Rattle.method.specs.declared.Test.TheVariants.{Former, Sharper}
use Rattle.method.specs.Answers.{verdict_number, verdict_carries, is_beyond, verdict, stops}

-- what a verdict says, with tolerance × w² as the limit
pub data Means (test : Test) (limit e g : ℕ) : Verdict → Type 0 where
  is_within : e ≤ limit → Means test limit e g Within
  is_far : limit < e → is_beyond test limit e g ≡ true → Means test limit e g (Beyond (pos e -ℤ pos (2 * g)))
  is_spent : limit < e → is_beyond test limit e g ≡ false → Means test limit e g (Spent (e - limit))

pub verdict_means : (test : Test) (tolerance w e g : ℕ) → Means test (tolerance * (w * w)) e g (verdict test tolerance w e g)
unfolding verdict
verdict_means test tolerance w e g = by (leb e (tolerance * (w * w))) (is_beyond test (tolerance * (w * w)) e g) refl refl
  where
    by : (p q : Bool) → leb e (tolerance * (w * w)) ≡ p → is_beyond test (tolerance * (w * w)) e g ≡ q →
        Means test (tolerance * (w * w)) e g (cond p Within (cond q (Beyond (pos e -ℤ pos (2 * g))) (Spent (e - tolerance * (w * w)))))
    by true q hp hq = is_within (leb-true e (tolerance * (w * w)) hp)
    by false true hp hq = is_far (leb-false e (tolerance * (w * w)) hp) hq
    by false false hp hq = is_spent (leb-false e (tolerance * (w * w)) hp) hq

-- ---- By its number

pub within_exactly : {test : Test} {limit e g : ℕ} {v : Verdict} → Means test limit e g v → (verdict_number v ≡ 1) ↔ (e ≤ limit)
unfolding verdict_number
within_exactly (is_within h) = (λ q. h, λ q. refl)
within_exactly (is_far h k) = (λ q. absurd (omega arith), λ q. absurd (omega arith))
within_exactly (is_spent h k) = (λ q. absurd (omega arith), λ q. absurd (omega arith))

pub beyond_exactly : {test : Test} {limit e g : ℕ} {v : Verdict} → Means test limit e g v → (verdict_number v ≡ 2) ↔ ((limit < e) × (is_beyond test limit e g ≡ true))
unfolding verdict_number
beyond_exactly (is_within h) = (λ q. absurd (omega arith), λ q. absurd (omega (arith, q.0)))
beyond_exactly (is_far h k) = (λ q. (h, k), λ q. refl)
beyond_exactly (is_spent h k) = (λ q. absurd (omega arith), λ q. absurd (let z : ◌≡◌ {A = ℕ} 0 1 = cc q.1 in omega arith))

pub beyond_carries : {test : Test} {limit e g : ℕ} {v : Verdict} → Means test limit e g v → verdict_number v ≡ 2 → verdict_carries v ≡ pos e -ℤ pos (2 * g)
unfolding verdict_number verdict_carries
beyond_carries (is_within h) q = absurd (omega arith)
beyond_carries (is_far h k) q = refl
beyond_carries (is_spent h k) q = absurd (omega arith)

pub spent_means : {test : Test} {limit e g : ℕ} {v : Verdict} → Means test limit e g v → verdict_number v ≡ 3 →
    (limit < e) × (is_beyond test limit e g ≡ false) × (verdict_carries v ≡ pos (e - limit))
unfolding verdict_number verdict_carries
spent_means (is_within h) q = absurd (omega arith)
spent_means (is_far h k) q = absurd (omega arith)
spent_means (is_spent h k) q = (h, k, refl)

-- ---- The two tests

-- THE SHARPER TEST HOLDS WHEREVER THE FORMER DOES: with e - g = d above limit + g, (limit + 2 g) e < d² + g²
pub former_sharper : (limit e g : ℕ) → is_beyond Former limit e g ≡ true → is_beyond Sharper limit e g ≡ true
unfolding is_beyond
former_sharper limit e g h =
    let k : limit + 2 * g < e = ltb-true (limit + 2 * g) e h in
    let d : g + (e - g) ≡ e = omega arith in
    let m : limit * e < (e - g) * (e - g) = <ℤ→< (derive (pos limit ∷ pos g ∷ pos (e - g) ∷ pos e ∷ []) (x₀ ⊗ x₃ ≺ x₂ ⊗ x₂)
    (known (x₀ ⊕ con (pos 2) ⊗ x₁ ≺ x₃) (<→<ℤ k) ⊡ known (con (pos 0) ≼ x₃) (≤→≤ℤ (omega arith)) ⊞ square x₁
    ⊞ (known (x₀ ⊕ con (pos 2) ⊗ x₁ ≺ x₃) (<→<ℤ k) ⊞ known (con (pos 0) ≼ x₀) (≤→≤ℤ (omega arith)) ⊞ nat 2 ⊡ known (con (pos 0) ≼ x₁) (≤→≤ℤ (omega arith)))
    ⊞ equation (x₂ ⊕ x₃ ⊝ x₁) (x₁ ⊕ x₂) x₃ (ap pos d)) tt) in
    ap₂ (λ s t. s && t) (lt-ltb g e (omega (arith, k))) (lt-ltb (limit * e) ((e - g) * (e - g)) m)

-- so either test holds where the former does
pub wherever_former : (test : Test) (limit e g : ℕ) → limit + 2 * g < e → is_beyond test limit e g ≡ true
unfolding is_beyond
wherever_former Former limit e g k = lt-ltb (limit + 2 * g) e k
wherever_former Sharper limit e g k = former_sharper limit e g (lt-ltb (limit + 2 * g) e k)

-- what does not stop a run by the sharper test does not by the former
pub unstopped_former : (n t tolerance w e g : ℕ) → stops n t (verdict Sharper tolerance w e g) ≡ false → stops n t (verdict Former tolerance w e g) ≡ false
unfolding verdict stops
unstopped_former n t tolerance w e g = by (leb e limit) (is_beyond Sharper limit e g) (is_beyond Former limit e g) (former_sharper limit e g)
  where
    limit : ℕ
    limit = tolerance * (w * w)

    judged : (p q : Bool) → Verdict
    judged p q = cond p Within (cond q (Beyond (pos e -ℤ pos (2 * g))) (Spent (e - limit)))

    by : (p q r : Bool) → (r ≡ true → q ≡ true) → stops n t (judged p q) ≡ false → stops n t (judged p r) ≡ false
    by true q r f h = h
    by false true r f h = absurd (let z : ◌≡◌ {A = ℕ} 0 1 = cc in omega arith)
    by false false true f h = absurd (let e : false ≡ true = f refl in let z : ◌≡◌ {A = ℕ} 0 1 = cc in omega arith)
    by false false false f h = h

-- ---- In a run

-- Spent stops a run after its last step only
pub stops_spent : (n t : ℕ) (v : Verdict) → verdict_number v ≡ 3 → stops n t v ≡ true → t ≡ n
unfolding verdict_number stops
stops_spent n t Within q e = absurd (omega arith)
stops_spent n t (Beyond floor) q e = absurd (omega arith)
stops_spent n t (Spent shortfall) q e = eqb-true t n e
