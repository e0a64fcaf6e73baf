-- The listing of the part that is handed back is that of the better card. Assumes nothing.
use mathlib.Core.Path.{◌≡◌, refl, sym, ap, ◌∙◌}
use mathlib.Core.List.{List}
use Prim.Native.Nat.{ℕ, zero, suc}
use borrow.Author.Tests.{eq-eqb, ne_eqb}
use lib.Dec.{eqb-suc-zero}
use Rattle.files.specs.Sheet.{files_refusal}
use Rattle.method.specs.Answers.{outcome}
use Rattle.card_format.specs.Checks.{check_refusal, check_refusal_with}
use Rattle.listing.specs.Lines.{refused_line, outcome_listing}
use Rattle.listing.proofs.Outcomes.{same_refusal}
use Rattle.text.specs.Texts.{Holds}
use Rattle.text.specs.declared.Text.{Text}
use Rattle.card_listing.specs.Cards.{card_listing}
use Rattle.better_card_promise.specs.declared.Choice.{Choice}
use Rattle.better_card_promise.specs.Choices.{better_refusal, choice, part_of}
use Rattle.better_card_promise.specs.Promise.{BetterRight}
use Rattle.better_card_promise.proofs.Choosing.{accepted, refusal_is}
use Rattle.better_listing.specs.Listings.{better_listing, part_listing}

module _ (b s w : List ℕ) {n : ℕ} {t : Text} where
  pub refused_text : (n ≡ 0 → ⊥) → Holds (refused_line n) t → Holds (part_listing b s w n) t
  unfolding part_listing
  refused_text h k = rw (ne_eqb n 0 h) k

  pub card_text : n ≡ 0 → Holds (card_listing b s w) t → Holds (part_listing b s w n) t
  unfolding part_listing
  card_text h k = rw (eq-eqb n 0 h) k

module _ (b s x y part : List ℕ) where
  -- where nothing is refused, the files are accepted
  pub files_accepted : {c : Choice} → c ≡ choice b s x y → c.refusal ≡ 0 → files_refusal b s ≡ 0
  files_accepted e z = (accepted b s x y (sym (ap (λ d. d.refusal) e ∙ refusal_is b s x y) ∙ z)).0

  -- the part is listed as the better card
  listed : (n : ℕ) → n ≡ better_refusal b s x y → BetterRight b s x y n part → part_listing b s part n ≡ better_listing b s x y
  unfolding part_listing better_listing card_listing check_refusal_with outcome outcome_listing
  listed zero e h =
      let r = (h.chosen refl).reads_back in
      rw (same_refusal b s, ← e, (accepted b s x y (sym e)).0, r.accepted, r.answer, r.shares)
  listed (suc n) e h = rw (← e, eqb-suc-zero n)

  pub better_listed : {c : Choice} {t : Text} → c ≡ choice b s x y → BetterRight b s x y c.refusal (part_of c x y) → part ≡ part_of c x y →
      Holds (part_listing b s part c.refusal) t → Holds (better_listing b s x y) t
  better_listed {c} e h f k =
      let n = ap (λ d. d.refusal) e ∙ refusal_is b s x y in
      let right : BetterRight b s x y c.refusal part = rw f h in
      rw (← listed c.refusal n right) k
