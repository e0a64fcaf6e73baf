-- Lines added to a text: the parts of a line, and the loop over the sheets. Its invariant says that the lines that are left make the text of
-- all lines.
use mathlib.Core.Path.{◌≡◌, refl, sym, ap, ◌∙◌}
use mathlib.Core.Bool.{Bool, true, false}
use mathlib.Core.List.{List, [], ◌∷◌, append-nil}
use Prim.Native.Nat.{ℕ, suc, ◌+◌, ◌*◌, ◌≤◌, ◌<◌}
use native.Mathlib.Nat.{add-zero}
use native.Mathlib.Numerals.{add-one}
use native.Mathlib.Omega.{arith}
use borrow.Author.Tests.{ne_eqb}
use lib.ListN.{length, drop, get_or, drop_of_length-le}
use lib.Seq.{drop-cons}
use Rattle.text.specs.Decimal.{decimal}
use Rattle.text.specs.declared.Text.{Text}
use Rattle.text.specs.Texts.{Holds, Adds}
use Rattle.text.proofs.Texts.{adds_both, adds_to_empty}
use Rattle.listing.specs.Lines.{sheet_word, within_word, beyond_word, spent_word}
use Rattle.sheet_queue.specs.declared.SheetRecord.{SheetRecord}
use Rattle.sheet_queue.specs.Queue.{blank}
use Rattle.queue_listing.specs.Lines.{space, cut_word, named, verdict_words, sheet_line, sheet_lines}

-- ---- A line

pub adds_named : {t u v : Text} {word : List ℕ} (n : ℕ) → Adds t word u → Adds u (decimal n) v × (v.len ≤ u.len + 20) →
    Adds t (named word n) v × (v.len ≤ t.len + length word + 20)
unfolding named
adds_named n p q = (adds_both p q.0, omega (arith, p.length_is, q.1))

-- the words of each verdict
pub within_said : (v : ℕ) (f : Bool) → v ≡ 1 → verdict_words v f ≡ 32 ∷ within_word
unfolding verdict_words
within_said v f e = rw e

pub beyond_said : (v : ℕ) (f : Bool) → v ≡ 2 → verdict_words v f ≡ 32 ∷ beyond_word
unfolding verdict_words
beyond_said v f e = rw e

pub spent_said : (v : ℕ) (f : Bool) → (v ≡ 1 → ⊥) → (v ≡ 2 → ⊥) → f ≡ true → verdict_words v f ≡ 32 ∷ spent_word
unfolding verdict_words
spent_said v f h g e = rw (ne_eqb v 1 h, ne_eqb v 2 g, e)

pub cut_said : (v : ℕ) (f : Bool) → (v ≡ 1 → ⊥) → (v ≡ 2 → ⊥) → f ≡ false → verdict_words v f ≡ 32 ∷ cut_word
unfolding verdict_words
cut_said v f h g e = rw (ne_eqb v 1 h, ne_eqb v 2 g, e)

pub adds_verdict : {t u : Text} {word : List ℕ} (v : ℕ) (f : Bool) (d : ℕ) → verdict_words v f ≡ word → length word ≤ 11 →
    Adds t (named word d) u × (u.len ≤ t.len + length word + 20) → Adds t (named (verdict_words v f) d) u × (u.len ≤ t.len + 31)
adds_verdict {t} {u} {word} v f d e h p = (rw e p.0, omega (arith, p.1))

-- the parts of a sheet's line, with the bytes that each has at most
pub adds_sheet : {t t₁ t₂ t₃ t₄ t₅ u : Text} (k : ℕ) (r : SheetRecord) →
    Adds t (named sheet_word (k + 1)) t₁ × (t₁.len ≤ t.len + 6 + 20) →
    Adds t₁ (named space r.asked) t₂ × (t₂.len ≤ t₁.len + 1 + 20) →
    Adds t₂ (named space r.used) t₃ × (t₃.len ≤ t₂.len + 1 + 20) →
    Adds t₃ (named (verdict_words r.verdict r.finished) r.distance) t₄ × (t₄.len ≤ t₃.len + 31) →
    Adds t₄ (named space r.gap) t₅ × (t₅.len ≤ t₄.len + 1 + 20) →
    Adds t₅ (10 ∷ []) u →
    Adds t (sheet_line (suc k) r) u × (u.len ≤ t.len + 121)
unfolding sheet_line
adds_sheet k r p1 p2 p3 p4 p5 p6 = (
  adds_both (rw add-one at p1.0) (adds_both p2.0 (adds_both p3.0 (adds_both p4.0 (adds_both p5.0 p6)))),
  omega (arith, p1.1, p2.1, p3.1, p4.1, p5.1, p6.length_is),
)

-- ---- The loop over the sheets

-- of the records rs, after the first i of them
pub record SheetsAdded (rs : List SheetRecord) (u : Text) (i : ℕ) : Type 0 where
  pub reached : i ≤ length rs
  pub few : length rs ≤ 16
  pub room : u.len ≤ 121 * i
  pub left : {v : Text} → Adds u (sheet_lines i (drop i rs)) v → Holds (sheet_lines 0 rs) v

module _ {rs : List SheetRecord} where
  pub sheets_start : {t : Text} → length rs ≤ 16 → Holds [] t → SheetsAdded rs t 0
  sheets_start f h = record { reached = omega arith; few = f; room = omega (arith, h.length_is); left = λ a. adds_to_empty h a }

  pub sheets_more : {u v : Text} {i : ℕ} {r : SheetRecord} → SheetsAdded rs u i → i < length rs → r ≡ get_or rs i blank →
      Adds u (sheet_line (suc i) r) v × (v.len ≤ u.len + 121) → SheetsAdded rs v (i + 1)
  unfolding sheet_lines
  sheets_more {u} {v} {i} {r} s h e p =
      let here : drop i rs ≡ r ∷ drop (suc i) rs = drop-cons rs i blank h ∙ ap (λ (x : SheetRecord). x ∷ drop (suc i) rs) (sym e) in
      record {
        reached = omega arith;
        few = s.few;
        room = omega (arith, s.room, p.1);
        left = λ a. s.left (rw here (adds_both p.0 (rw add-one at a)));
      }

  pub sheets_end : {u : Text} {i : ℕ} → SheetsAdded rs u i → length rs ≤ i → Holds (sheet_lines 0 rs) u
  unfolding sheet_lines
  sheets_end {u} {i} s h =
      let e : drop i rs ≡ [] = drop_of_length-le rs h in
      s.left (rw e (record { fits = omega (arith, s.room, s.reached, s.few); length_is = sym (add-zero u.len); bytes_are = sym (append-nil _); rest = refl }))
