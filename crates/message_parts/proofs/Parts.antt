-- Texts with a name added.
use mathlib.Core.Path.{◌≡◌, refl, sym, ◌∙◌}
use mathlib.Core.List.{List, [], ◌∷◌, map, append-nil}
use Prim.Native.Nat.{ℕ, zero, suc, ◌+◌, ◌≤◌, ◌<◌}
use native.Mathlib.Omega.{arith}
use borrow.Author.Tests.{eq-eqb, ne_eqb}
use lib.ListN.{length, get_or, set, take, length-map}
use Rattle.text.specs.Texts.{text_limit, Adds}
use Rattle.text.specs.declared.Text.{Text}
use Rattle.text.proofs.Texts.{adds_placed, adds_both}
use Rattle.buffers.proofs.Writing.{Copying, copying_more, copying_end}
use Rattle.message_parts.specs.Parts.{shown, part}

-- ---- a name as one line shows it
get_or_shown : (s : List ℕ) (i : ℕ) → i < length s → get_or (map shown s) i 0 ≡ shown (get_or s i 0)
get_or_shown [] i h = absurd (omega arith)
get_or_shown (x ∷ s) zero h = refl
get_or_shown (x ∷ s) (suc i) h = get_or_shown s i (omega arith)

module _ (s : List ℕ) {old new : List ℕ} {at i : ℕ} (d : Copying old at (map shown s) i new) (room : at + length s ≤ text_limit) (long : length old ≡ text_limit) where
  pub shown_more : i < length s → {x : ℕ} → x ≡ shown (get_or s i 0) → Copying old at (map shown s) (i + 1) (set new (at + i) x)
  shown_more h e = rw (e ∙ sym (get_or_shown s i h)) (copying_more d (rw (length-map s shown) (omega arith)) (rw (length-map s shown) h))

pub shown_end : {t : Text} (s : List ℕ) {new : List ℕ} {i : ℕ} → Copying t.bytes t.len (map shown s) i new → t.len + length s ≤ text_limit → length t.bytes ≡ text_limit → length s ≤ i →
    Adds t (map shown s) (record { bytes = new; len = t.len + length s })
shown_end {t} s d r l h =
    let e : length (map shown s) ≡ length s = length-map s shown in
    adds_placed (rw e r) l (copying_end d (rw e h)) (omega (arith, d.within, e))

-- ---- nothing added
pub nothing_added : (t : Text) → t.len ≤ text_limit → Adds t [] t
nothing_added t h = record { fits = h; length_is = omega arith; bytes_are = sym (append-nil (take t.len t.bytes)); rest = refl }

-- ---- a name behind a comma
module _ {t : Text} (s : List ℕ) where
  pub part_none : length s ≡ 0 → t.len + length s + 2 ≤ text_limit → (Adds t (part s) t) × (t.len ≤ t.len + length s + 2)
  unfolding part
  part_none e h = rw (eq-eqb (length s) 0 e) (nothing_added t (omega arith), omega arith)

  pub part_some : (length s ≡ 0 → ⊥) → {a r : Text} → Adds t (44 ∷ 32 ∷ []) a → Adds a (map shown s) r → (Adds t (part s) r) × (r.len ≤ t.len + length s + 2)
  unfolding part
  part_some n p q = rw (ne_eqb (length s) 0 n) (adds_both p q, omega (arith, p.length_is, q.length_is, length-map s shown))
