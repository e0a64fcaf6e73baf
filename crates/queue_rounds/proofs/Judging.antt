-- What refuses a queue, as `judge` finds it: a law for each return.
use mathlib.Core.Path.{◌≡◌, sym, ap, ◌∙◌}
use mathlib.Core.List.{List}
use Prim.Native.Nat.{ℕ, ◌*◌, ◌≤◌, ◌<◌}
use Rattle.files.specs.Book.{columns}
use Rattle.sheet_queue.specs.Queue.{sheets_of, sheets_refusal, accepted_ahead, refusal_ahead, refusal_of, accepted_of}
use Rattle.sheet_queue.proofs.Refusals.{Ahead, ahead_passes, accepted_none, accepted_some, by_ahead, by_sheets, by_room, by_none}

module _ (n : ℕ) (b ns bs : List ℕ) (a : ℕ) {r : ℕ} (er : r ≡ refusal_ahead n b ns bs a) where
  pub ahead_of : r ≡ 0 → Ahead n b ns bs a
  ahead_of z = ahead_passes n b ns bs a (sym er ∙ z)

  module _ (slots : ℕ) where
    abbrev Judges : (refusal accepted : ℕ) → Type 0
    Judges k m = (k ≡ refusal_of n b ns bs a slots) × (m ≡ accepted_of n b ns bs a)

    pub judged_ahead : (r ≡ 0 → ⊥) → Judges r 0
    judged_ahead f = (er ∙ sym (by_ahead n b ns bs a slots (λ z. f (er ∙ z))), sym (accepted_none n b ns bs a (λ z. f (er ∙ z))))

    module _ (z : r ≡ 0) {c k m : ℕ} (ec : c ≡ columns b) (ek : k ≡ sheets_refusal c (sheets_of ns bs)) (em : m ≡ accepted_ahead c (sheets_of ns bs)) where
      number : k ≡ sheets_refusal (columns b) (sheets_of ns bs)
      number = ek ∙ ap (λ (x : ℕ). sheets_refusal x (sheets_of ns bs)) ec

      accepted : m ≡ accepted_of n b ns bs a
      accepted = em ∙ ap (λ (x : ℕ). accepted_ahead x (sheets_of ns bs)) ec ∙ sym (accepted_some n b ns bs a (sym er ∙ z))

      pub judged_sheets : (k ≡ 0 → ⊥) → Judges k m
      judged_sheets f = (number ∙ sym (by_sheets n b ns bs a slots (sym er ∙ z) (λ y. f (number ∙ y))), accepted)

      module _ (y : k ≡ 0) where
        pub judged_room : slots < 256 * n → Judges 21 m
        judged_room h = (sym (by_room n b ns bs a slots (sym er ∙ z) (sym number ∙ y) h), accepted)

        pub judged_none : 256 * n ≤ slots → Judges k m
        judged_none h = (y ∙ sym (by_none n b ns bs a slots (sym er ∙ z) (sym number ∙ y) h), accepted)
