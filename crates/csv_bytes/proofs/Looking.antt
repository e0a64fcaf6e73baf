-- The separator looked for in the header: what is left of the text decides as the whole does.
use mathlib.Core.Path.{◌≡◌, refl, sym, ap, ◌∙◌}
use mathlib.Core.List.{List, [], ◌∷◌}
use Prim.Native.Nat.{ℕ, ◌+◌, ◌≤◌, ◌<◌}
use native.Mathlib.Numerals.{add-one}
use lib.ListN.{length, get_or, drop, drop_of_length-le}
use lib.Seq.{drop-cons}
use Rattle.csv_bytes.specs.declared.Mode.{Mode}
use Rattle.csv_bytes.specs.declared.Mode.TheVariants.{Start}
use Rattle.csv_bytes.specs.Tokens.{NumberedStep, step, as_comma, best_after, known_after, chosen, separator_from, separator, mark_size}

pub record Looking (bs : List ℕ) (x n : ℕ) (m : Mode) (i : ℕ) : Type 0 where
  pub later : separator_from x n m (drop i bs) ≡ separator_from 0 0 Start (drop (mark_size bs) bs)

pub looking_start : {bs : List ℕ} {i : ℕ} → i ≡ mark_size bs → Looking bs 0 0 Start i
looking_start e = rw e (record { later = refl })

-- behind the header nothing changes
pub over : (x : ℕ) (m : Mode) (bs : List ℕ) → separator_from x 2 m bs ≡ x
unfolding separator_from
over x m [] = refl
over x m (b ∷ bs) = over x (step 44 m (as_comma b)).mode bs

module _ {bs : List ℕ} {x n : ℕ} {m : Mode} {i : ℕ} (d : Looking bs x n m i) where
  module _ (h : i < length bs) {c : ℕ} (ec : c ≡ as_comma (get_or bs i 0)) {s : NumberedStep} (es : s ≡ step 44 m c) {y : ℕ} (ey : y ≡ best_after x n s.token (get_or bs i 0)) {k : ℕ} (ek : k ≡ known_after n s.token) where
    pub looking_more : Looking bs y k s.mode (i + 1)
    unfolding separator_from
    looking_more = record { later = rw (ey, ek, es, ec, add-one) (sym (ap (separator_from x n m) (drop-cons bs i 0 h)) ∙ d.later) }

    pub looking_over : k ≡ 2 → {r : ℕ} → r ≡ chosen y → r ≡ separator bs
    unfolding separator
    looking_over z e =
        let q : separator_from y k s.mode (drop (i + 1) bs) ≡ y = rw z (over y s.mode (drop (i + 1) bs)) in
        e ∙ ap chosen (sym q ∙ looking_more.later)

  pub looking_end : length bs ≤ i → {r : ℕ} → r ≡ chosen x → r ≡ separator bs
  unfolding separator separator_from
  looking_end h e = e ∙ ap chosen (sym (ap (separator_from x n m) (drop_of_length-le bs {i = i} h)) ∙ d.later)
