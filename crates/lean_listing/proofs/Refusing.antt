-- The tests of the slots, and the text of a refusal or of the lines.
use mathlib.Core.Path.{◌≡◌, refl, sym, ◌∙◌}
use mathlib.Core.Bool.{Bool, true, false, cond}
use mathlib.Core.List.{List, []}
use Prim.Native.Nat.{ℕ, zero, suc, ◌*◌, ◌≤◌, ◌<◌}
use native.Mathlib.Omega.{arith}
use borrow.Author.Tests.{eq-eqb, ne_eqb, lt-ltb, le-ltb, ltb-false}
use lib.Dec.{eqb, ltb}
use lib.ListN.{length}
use Rattle.frank_wolfe.specs.Vectors.{sum}
use Rattle.files.specs.Fits.{BookFits}
use Rattle.files.specs.Book.{boats}
use Rattle.files.proofs.Accepted.{book_accepted}
use Rattle.text.specs.declared.Text.{Text}
use Rattle.text.specs.Texts.{Holds, Adds}
use Rattle.text.proofs.Texts.{adds_to_empty}
use Rattle.listing.specs.Lines.{refused_line}
use Rattle.card_format.proofs.Accepted.{both_zero}
use Rattle.leaning.specs.Report.{start_refusal, counts, lean_lines, lean_text}
use Rattle.leaning.specs.Slots.{card_slots, parts, slots_refusal, slots_listing}
use Rattle.leaning.specs.Promise.{ReportsChecked}
use Rattle.leaning.proofs.Checking.{start_passed}
use Rattle.leaning.proofs.Reporting.{reports_checked}

module _ (b : List ℕ) (r n slots : ℕ) where
  pub by_before : (r ≡ 0 → ⊥) → r ≡ slots_refusal b r n slots
  unfolding slots_refusal
  by_before h = rw (ne_eqb r 0 h)

  module _ {x : ℕ} (z : r ≡ 0) (e : x ≡ start_refusal b n) where
    pub by_start : (x ≡ 0 → ⊥) → x ≡ slots_refusal b r n slots
    unfolding slots_refusal
    by_start h = rw (eq-eqb r 0 z, ← e, ne_eqb x 0 h)

    pub few_cards : x ≡ 0 → n ≤ 64
    few_cards h = (start_passed b n (sym e ∙ h)).1.1

    pub by_room : x ≡ 0 → slots < 256 * n → 21 ≡ slots_refusal b r n slots
    unfolding slots_refusal
    by_room h l = rw (eq-eqb r 0 z, ← e, eq-eqb x 0 h, lt-ltb slots (256 * n) l)

    pub by_none : x ≡ 0 → 256 * n ≤ slots → 0 ≡ slots_refusal b r n slots
    unfolding slots_refusal
    by_none h l = rw (eq-eqb r 0 z, ← e, eq-eqb x 0 h, le-ltb slots (256 * n) l)

-- where nothing refuses the slots
pub record Listable (b : List ℕ) (n slots : ℕ) : Type 0 where
  pub few_cards : n ≤ 64
  pub room : 256 * n ≤ slots
  pub fits : BookFits b

pub listable : (b : List ℕ) (r n slots : ℕ) {x : ℕ} → x ≡ slots_refusal b r n slots → x ≡ 0 → Listable b n slots
unfolding slots_refusal
listable b r n slots e z =
    let h = both_zero r (cond (eqb (start_refusal b n) 0) (cond (ltb slots (card_slots * n)) 21 0) (start_refusal b n)) (sym e ∙ z) in
    let k = both_zero (start_refusal b n) (cond (ltb slots (card_slots * n)) 21 0) h.1 in
    let p = start_passed b n k.0 in
    record { few_cards = p.1.1; room = by (ltb slots (card_slots * n)) refl k.1; fits = book_accepted b p.0 }
  where
    by : (t : Bool) → ltb slots (card_slots * n) ≡ t → ◌≡◌ {A = ℕ} (cond t 21 0) 0 → card_slots * n ≤ slots
    by true t q = absurd (omega arith)
    by false t q = ltb-false slots (card_slots * n) t

-- what the contract says of the text
abbrev Given : (b : List ℕ) → (r n : ℕ) → (slots : List ℕ) → Text → Type 0
Given b r n slots t = Holds (slots_listing b r n slots) t × ReportsChecked b r n slots t

module _ (b : List ℕ) (r n : ℕ) (slots : List ℕ) {x : ℕ} (e : x ≡ slots_refusal b r n (length slots)) where
  given : {t : Text} → Holds (slots_listing b r n slots) t → Given b r n slots t
  given h = (h, reports_checked b n slots r h)

  pub given_refused : {t u : Text} → (x ≡ 0 → ⊥) → Holds [] t → Adds t (refused_line x) u → Given b r n slots u
  given_refused {t} {u} h p q = given (unfold slots_listing in rw (← e) (by x h q))
    where
      by : (y : ℕ) → (y ≡ 0 → ⊥) → Adds t (refused_line y) u → Holds (lean_text y (boats b) (sum (counts (boats b) (parts n (boats b) slots))) (parts n (boats b) slots)) u
      by zero h q = absurd (h refl)
      by (suc y) h q = unfold lean_text in adds_to_empty p q

  pub given_lines : {k : ℕ} {t : Text} → x ≡ 0 → k ≡ boats b → Holds (lean_lines k (sum (counts k (parts n k slots))) (parts n k slots)) t → Given b r n slots t
  given_lines {k} {t} z ek h = given (unfold slots_listing lean_text in rw (← e, z, ← ek) h)
