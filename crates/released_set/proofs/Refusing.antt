-- What the counts of a set's boats, among the book's and past them, say of its refusal.
use mathlib.Core.Path.{◌≡◌, refl, sym, ◌∙◌}
use mathlib.Core.Bool.{Bool, true, false, ◌&&◌, cond}
use Prim.Native.Nat.{ℕ, zero, suc, ◌-◌, ◌<◌}
use native.Mathlib.Omega.{arith}
use borrow.Author.Tests.{lt-ltb, ne_eqb}
use lib.Dec.{eqb, ltb}
use lib.ListN.{length}
use Rattle.method.specs.declared.Released.{Released}
use Rattle.method.specs.ReleasedBoats.{Usable, usable, used_from, set_refusal}

module _ (set : Released) (boats : ℕ) where
  abbrev u : Usable
  u = usable set

  pub unlimited_refusal : set.limited ≡ false → set_refusal boats u ≡ 0
  unfolding set_refusal
  unlimited_refusal e = rw e

  module _ (limited : set.limited ≡ true) where
    limited_refusal : set_refusal boats u ≡ cond (ltb 0 (length (used_from u 0 boats)) && eqb (length (used_from u boats (256 - boats))) 0) 0 52
    unfolding set_refusal
    limited_refusal = rw limited

    -- none of the book's boats
    pub none_refused : {n : ℕ} → n ≡ length (used_from u 0 (boats - 0)) → n ≡ 0 → 52 ≡ set_refusal boats u
    none_refused e z =
        let f : boats - 0 ≡ boats = omega arith in
        let g : length (used_from u 0 boats) ≡ 0 = sym (rw f at e) ∙ z in
        rw (limited_refusal, g)

    -- a boat past them
    pub past_refused : {n : ℕ} → n ≡ length (used_from u boats (256 - boats)) → (n ≡ 0 → ⊥) → 52 ≡ set_refusal boats u
    past_refused e z =
        let g : eqb (length (used_from u boats (256 - boats))) 0 ≡ false = ne_eqb _ 0 (λ q. z (e ∙ q)) in
        rw (limited_refusal, g) (by (ltb 0 (length (used_from u 0 boats))))
      where
        by : (x : Bool) → ◌≡◌ {A = ℕ} 52 (cond (x && false) 0 52)
        by true = refl
        by false = refl

    -- neither
    pub set_serves : {n m : ℕ} → n ≡ length (used_from u 0 (boats - 0)) → (n ≡ 0 → ⊥) → m ≡ length (used_from u boats (256 - boats)) → m ≡ 0 → 0 ≡ set_refusal boats u
    set_serves e z f y =
        let k : boats - 0 ≡ boats = omega arith in
        let g : length (used_from u boats (256 - boats)) ≡ 0 = sym f ∙ y in
        let h : 0 < length (used_from u 0 boats) = some (length (used_from u 0 boats)) (rw k at e) z in
        rw (limited_refusal, lt-ltb 0 (length (used_from u 0 boats)) h, g)
      where
        some : (l : ℕ) {n : ℕ} → n ≡ l → (n ≡ 0 → ⊥) → 0 < l
        some zero e z = absurd (z e)
        some (suc l) e z = omega arith
