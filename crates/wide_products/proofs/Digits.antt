-- The order of two numbers of two digits each in base 2^64. Assumes nothing.
use mathlib.Core.Bool.{Bool, true, false}
use mathlib.Core.Path.{◌≡◌, refl, sym, ◌∙◌}
use Prim.Native.Nat.{ℕ, ◌+◌, ◌*◌, ◌^◌, ◌≤◌, ◌<◌}
use lib.Dec.{ltb}
use borrow.Author.Tests.{lt-ltb, le-ltb, ltb-true, ltb-false}
use native.Mathlib.Omega.{arith}

-- a test that holds exactly where another does
agree : (a b c d : ℕ) → (a < b → c < d) → (b ≤ a → d ≤ c) → ltb a b ≡ ltb c d
agree a b c d f g = go (ltb a b) refl
  where
    go : (t : Bool) → ltb a b ≡ t → ltb a b ≡ ltb c d
    go true e = e ∙ sym (lt-ltb c d (f (ltb-true a b e)))
    go false e = e ∙ sym (le-ltb c d (g (ltb-false a b e)))

pub same_high : (ah al bh bl : ℕ) → ah ≡ bh → ltb al bl ≡ ltb (ah * 2 ^ 64 + al) (bh * 2 ^ 64 + bl)
same_high ah al bh bl e = agree al bl (ah * 2 ^ 64 + al) (bh * 2 ^ 64 + bl) (λ (h : al < bl). omega arith) (λ (h : bl ≤ al). omega arith)

pub other_high : (ah al bh bl : ℕ) → (ah ≡ bh → ⊥) → al < 2 ^ 64 → bl < 2 ^ 64 → ltb ah bh ≡ ltb (ah * 2 ^ 64 + al) (bh * 2 ^ 64 + bl)
other_high ah al bh bl e x y = agree ah bh (ah * 2 ^ 64 + al) (bh * 2 ^ 64 + bl) (λ (h : ah < bh). omega arith) (λ (h : bh ≤ ah). omega arith)
