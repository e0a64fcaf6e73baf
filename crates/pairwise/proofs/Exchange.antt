-- An exchange lowers E strictly; the nearest amount; scores that differ are of vertices that differ. Assumes nothing.
use mathlib.Core.Path.{◌≡◌, refl, ap, ap₂, ◌∙◌}
use mathlib.Core.List.{[], ◌∷◌}
use Prim.Native.Nat.{ℕ, zero, suc, ◌+◌, ◌*◌, ◌-◌, ◌/◌, ◌%◌, ◌≤◌, ◌<◌}
use native.Mathlib.Nat.{mod-lt, div-add-mod', mul_left_comm, mul-le-mul_right}
use native.Mathlib.Omega.{arith}
use lib.IntN.{ℤ, pos, neg_ℤ, ◌+ℤ◌, ◌-ℤ◌, ◌*ℤ◌}
use lib.Signed.{◌≤ℤ◌, ◌<ℤ◌}
use Rattle.integers.proofs.Solver.{Expr, con, ◌⊕◌, ◌⊗◌, ⊖◌, ◌⊝◌, x₀, x₁, x₂, x₃, x₄, x₅, x₆, x₇, solve}
use Rattle.integers.proofs.Order.{<→<ℤ}
use Rattle.integers.proofs.Facts.{◌≼◌, ◌≺◌, known, nat, square, equation, ◌⊞◌, ◌⊡◌, derive, derive_times}
use Rattle.frank_wolfe.specs.Method.{Space, squared_distance, Residual}
use Rattle.pairwise.specs.Moves.{nearest_down}

abbrev O : Expr
O = con (pos 0)

abbrev two : Expr
two = con (pos 2)

-- ---- The nearest amount

-- m is the whole number nearest to Δ / d, halves down: (2 m - 1) d < 2 Δ ≤ (2 m + 1) d
pub record NearestDown (Δ d m : ℕ) : Type 0 where
  pub not_above : 2 * (m * d) < 2 * Δ + d
  pub not_below : 2 * Δ ≤ 2 * (m * d) + d

pub nearest_is : (Δ d : ℕ) → 1 ≤ d → NearestDown Δ d (nearest_down Δ d)
unfolding nearest_down
nearest_is Δ d h = go (2 * Δ + d - 1) ((2 * Δ + d - 1) / (2 * d)) ((2 * Δ + d - 1) % (2 * d)) (div-add-mod' (2 * Δ + d - 1) (2 * d)) (mod-lt (2 * Δ + d - 1) (omega arith)) refl
  where
    go : (n q k : ℕ) → q * (2 * d) + k ≡ n → k < 2 * d → n ≡ 2 * Δ + d - 1 → NearestDown Δ d q
    go n q k e l f =
        let p : q * (2 * d) ≡ 2 * (q * d) = twice q d in
        record { not_above = omega arith; not_below = omega arith }
      where
        twice : (q d : ℕ) → q * (2 * d) ≡ 2 * (q * d)
        twice q d = mul_left_comm q 2 d

-- ---- Vertices of different scores

-- where the scores <r, v> and <r, s> differ, v and s do: the division has a divisor
pub rows_apart : (S : Space) (r v s g : S.Vec) → Residual S v (pos 1) s g → S.inner r s <ℤ S.inner r v → pos 0 <ℤ squared_distance S v s
rows_apart S r v s g R h =
    let e = S.inner r r in
    let p = S.inner r v -ℤ S.inner r s in
    let q : S.inner r g ≡ S.inner r v -ℤ pos 1 *ℤ S.inner r s = R.along r in
    let d = squared_distance S v s in
    let own : S.inner g g ≡ d = own_square S v s g R in
    derive_times (e ∷ S.inner r v ∷ S.inner r s ∷ S.inner r g ∷ S.inner g g ∷ d ∷ [])
    ((x₀ ⊕ con (pos 1)) ⊗ (x₀ ⊕ con (pos 1))) (O ≺ x₅)
    (derive (e ∷ []) (O ≼ (x₀ ⊕ con (pos 1)) ⊗ (x₀ ⊕ con (pos 1))) (square (x₀ ⊕ con (pos 1))) tt)
    (known (O ≼ con (pos 1) ⊗ con (pos 1) ⊗ x₀ ⊕ two ⊗ con (pos 1) ⊗ (⊖ (x₀ ⊕ con (pos 1))) ⊗ x₃ ⊕ (⊖ (x₀ ⊕ con (pos 1))) ⊗ (⊖ (x₀ ⊕ con (pos 1))) ⊗ x₄)
    (S.positive (pos 1) (neg_ℤ (e +ℤ pos 1)) r g)
    ⊞ equation (two ⊗ (x₀ ⊕ con (pos 1))) x₃ (x₁ ⊝ con (pos 1) ⊗ x₂) q
    ⊞ equation ((⊖ (x₀ ⊕ con (pos 1))) ⊗ (x₀ ⊕ con (pos 1))) x₄ x₅ own
    ⊞ nat 2 ⊡ (known (O ≼ x₀) (norm S r) ⊞ nat 1) ⊡ known (x₂ ≺ x₁) h
    ⊞ known (O ≼ x₀) (norm S r) ⊞ nat 1)
    tt
  where
    norm : (S : Space) (r : S.Vec) → pos 0 ≤ℤ S.inner r r
    norm S r = derive (S.inner r r ∷ []) (O ≼ x₀) (known (O ≼ con (pos 1) ⊗ con (pos 1) ⊗ x₀ ⊕ two ⊗ con (pos 1) ⊗ O ⊗ x₀ ⊕ O ⊗ O ⊗ x₀) (S.positive (pos 1) (pos 0) r r)) tt

    own_square : (S : Space) (v s g : S.Vec) → Residual S v (pos 1) s g → S.inner g g ≡ squared_distance S v s
    own_square S v s g R =
        R.along g
        ∙ ap₂ (λ a b. a -ℤ pos 1 *ℤ b) (S.symmetric g v ∙ R.along v) (S.symmetric g s ∙ R.along s ∙ ap (λ a. a -ℤ pos 1 *ℤ S.inner s s) (S.symmetric s v))
        ∙ solve (S.inner v v ∷ S.inner v s ∷ S.inner s s ∷ [])
        (x₀ ⊝ con (pos 1) ⊗ x₁ ⊝ con (pos 1) ⊗ (x₁ ⊝ con (pos 1) ⊗ x₂)) (x₀ ⊝ two ⊗ x₁ ⊕ x₂) tt

-- ---- One exchange over any inner product: m shares go from v to s, and the total stays

-- r' = r + m (s - v)
pub record Exchanged (S : Space) (r : S.Vec) (m : ℤ) (v s r' : S.Vec) : Type 0 where
  pub along : (x : S.Vec) → S.inner x r' ≡ S.inner x r +ℤ m *ℤ (S.inner x s -ℤ S.inner x v)

-- The squared distance after an exchange: E + 2 m <r, s - v> + m² |v - s|²

exchanged : (S : Space) (r v s r' : S.Vec) (m : ℤ) → Exchanged S r m v s r' →
    S.inner r' r' ≡ S.inner r r +ℤ pos 2 *ℤ m *ℤ (S.inner r s -ℤ S.inner r v) +ℤ m *ℤ m *ℤ squared_distance S v s
exchanged S r v s r' m X =
    X.along r'
    ∙ ap₂ (λ a b. a +ℤ m *ℤ b) (S.symmetric r' r ∙ X.along r)
    (ap₂ (λ a b. a -ℤ b) (S.symmetric r' s ∙ X.along s ∙ ap₂ (λ a b. a +ℤ m *ℤ (S.inner s s -ℤ b)) (S.symmetric s r) (S.symmetric s v))
    (S.symmetric r' v ∙ X.along v ∙ ap (λ a. a +ℤ m *ℤ (S.inner v s -ℤ S.inner v v)) (S.symmetric v r)))
    ∙ solve (m ∷ S.inner r r ∷ S.inner r s ∷ S.inner r v ∷ S.inner s s ∷ S.inner v s ∷ S.inner v v ∷ [])
    (x₁ ⊕ x₀ ⊗ (x₂ ⊝ x₃) ⊕ x₀ ⊗ (x₂ ⊕ x₀ ⊗ (x₄ ⊝ x₅) ⊝ (x₃ ⊕ x₀ ⊗ (x₅ ⊝ x₆))))
    (x₁ ⊕ two ⊗ x₀ ⊗ (x₂ ⊝ x₃) ⊕ x₀ ⊗ x₀ ⊗ (x₆ ⊝ two ⊗ x₅ ⊕ x₄)) tt

-- at most the nearest amount and at least one share: m d < 2 Δ
below_twice : (m n Δ d : ℕ) → 1 ≤ m → m ≤ n → NearestDown Δ d n → m * d < 2 * Δ
below_twice m n Δ d some most N = go (m * d) (n * d) (mul-le-mul_right d most) (one d m some) N.not_above
  where
    one : (d m : ℕ) → 1 ≤ m → d ≤ m * d
    one d zero h = absurd (omega arith)
    one d (suc m) h = omega arith

    go : (p q : ℕ) → p ≤ q → d ≤ p → 2 * q < 2 * Δ + d → p < 2 * Δ
    go p q a b h = omega arith

-- an exchange of at least one share and at most the nearest amount lowers E strictly
pub falls : (S : Space) (r v s r' : S.Vec) (m n Δ d : ℕ) → Exchanged S r (pos m) v s r' →
    S.inner r v -ℤ S.inner r s ≡ pos Δ → squared_distance S v s ≡ pos d →
    1 ≤ m → m ≤ n → NearestDown Δ d n → S.inner r' r' <ℤ S.inner r r
falls S r v s r' m n Δ d X eΔ ed some most N =
    derive (pos m ∷ S.inner r r ∷ S.inner r' r' ∷ S.inner r s ∷ S.inner r v ∷ squared_distance S v s ∷ pos Δ ∷ pos d ∷ []) (x₂ ≺ x₁)
    (equation (⊖ con (pos 1)) x₂ (x₁ ⊕ two ⊗ x₀ ⊗ (x₃ ⊝ x₄) ⊕ x₀ ⊗ x₀ ⊗ x₅) (exchanged S r v s r' (pos m) X)
    ⊞ equation (two ⊗ x₀) (x₄ ⊝ x₃) x₆ eΔ
    ⊞ equation ((⊖ x₀) ⊗ x₀) x₅ x₇ ed
    ⊞ known (O ≺ x₀) (<→<ℤ some) ⊡ known (x₀ ⊗ x₇ ≺ two ⊗ x₆) (<→<ℤ (below_twice m n Δ d some most N))
    ⊞ known (x₀ ⊗ x₇ ≺ two ⊗ x₆) (<→<ℤ (below_twice m n Δ d some most N)) ⊞ known (O ≺ x₀) (<→<ℤ some))
    tt
