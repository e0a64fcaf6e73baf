-- The card that a search leaves in 1,060 bytes, and its listing, which is the search's. Assumes nothing.
use mathlib.Core.Path.{◌≡◌, refl, sym, ap, ◌∙◌, subst}
use mathlib.Core.Bool.{false}
use mathlib.Core.List.{List, []}
use Prim.Native.Nat.{ℕ, zero, suc, ◌≤◌}
use native.Mathlib.Omega.{arith}
use borrow.Author.Tests.{le-ltb}
use lib.Dec.{ltb, eqb-suc-zero}
use lib.ListN.{length, take, drop}
use lib.Seq.{take_at}
use Rattle.files.specs.Sheet.{files_refusal}
use Rattle.method.specs.Problem.{problem, plain_terms}
use Rattle.method.specs.Answers.{outcome, slots_after, run_answer}
use Rattle.method.specs.declared.Answer.{Answer}
use Rattle.card_format.specs.Written.{Written}
use Rattle.card_format.specs.Written.{Refused, Filed}
use Rattle.card_format.specs.Filing.{written_size, filing, FilingRight}
use Rattle.card_format.specs.Format.{card_limit, run_card}
use Rattle.card_format.specs.Checks.{write_refusal, check_refusal, check_refusal_with, write_refusal_with}
use Rattle.card_format.specs.Truth.{WrittenAccepted, WrittenShort}
use Rattle.card_format.proofs.Filing.{filing_filed}
use Rattle.card_format.proofs.RunCards.{written_accepted, written_short}
use Rattle.listing.specs.Lines.{refused_line, outcome_listing}
use Rattle.listing.proofs.Outcomes.{same_refusal}
use Rattle.text.specs.Texts.{Holds}
use Rattle.text.specs.declared.Text.{Text}
use Rattle.search_listing.specs.Searches.{search_listing}
use Rattle.card_listing.specs.Cards.{card_listing, search_filing, search_card}

module _ (b s : List ℕ) where
  -- no card is longer than 1,060 bytes
  write_refusal_is : (n : ℕ) → n ≡ files_refusal b s → write_refusal b s card_limit ≡ n
  unfolding write_refusal_with WrittenShort
  write_refusal_is zero e = let q : ltb card_limit (length (run_card b s)) ≡ false = le-ltb card_limit (length (run_card b s)) (written_short plain_terms b s (sym e)) in rw (← e, q)
  write_refusal_is (suc n) e = rw (← e, eqb-suc-zero n)

  -- what stands in the buffer's first bytes, as many as were written
  bytes_by_number : (n : ℕ) → n ≡ files_refusal b s → (out : List ℕ) → take (written_size (filing n (run_answer (problem b s)) (length (run_card b s)))) (slots_after n (run_card b s) out) ≡ search_card b s
  unfolding filing slots_after search_card written_size
  bytes_by_number zero e out = rw (← e) (take_at (run_card b s) (drop (length (run_card b s)) out) (length (run_card b s)) refl)
  bytes_by_number (suc n) e out = rw (← e, eqb-suc-zero n)

  length_by_number : (n : ℕ) → n ≡ files_refusal b s → written_size (filing n (run_answer (problem b s)) (length (run_card b s))) ≡ length (search_card b s)
  unfolding filing search_card written_size
  length_by_number zero e = rw (← e)
  length_by_number (suc n) e = rw (← e, eqb-suc-zero n)

  card_fits : (n : ℕ) → n ≡ files_refusal b s → length (search_card b s) ≤ card_limit
  unfolding search_card WrittenShort
  card_fits zero e = rw (← e) (written_short plain_terms b s (sym e))
  card_fits (suc n) e = rw (← e, eqb-suc-zero n) (omega arith)

  -- the check of that card says what the search says
  listing_by_number : (n : ℕ) → n ≡ files_refusal b s → card_listing b s (search_card b s) ≡ search_listing b s
  unfolding card_listing search_listing search_card check_refusal_with outcome outcome_listing WrittenAccepted WrittenShort
  listing_by_number zero e =
      let w = written_accepted plain_terms b s [] (sym e) (omega (arith, written_short plain_terms b s (sym e))) in
      rw (same_refusal b s, ← e, w.0, w.1, w.2)
  listing_by_number (suc n) e = rw (same_refusal b s, ← e, eqb-suc-zero n)

  -- what is said of a reply: the number, as many bytes as the card has, and the search's listing
  abbrev Says : (refusal len : ℕ) → Text → Type 0
  Says n len t = (n ≡ files_refusal b s) × ((len ≡ length (search_card b s)) × Holds (search_listing b s) t)

  refused_by : (m n : ℕ) → m ≡ files_refusal b s → {t : Text} → filing m (run_answer (problem b s)) (length (run_card b s)) ≡ Refused n → Holds (refused_line n) t → Says n 0 t
  unfolding filing search_card search_listing outcome outcome_listing
  refused_by zero n e q h = absurd (let z : ◌≡◌ {A = ℕ} 0 1 = cc in omega arith)
  refused_by (suc m) n e q h = let k : suc m ≡ n = cc in rw (← k, ← e, eqb-suc-zero m) (refl, (refl, rw k h))

  -- by the writer's reply
  module _ {w : Written} (e : w ≡ search_filing b s) where
    pub refused_said : (n : ℕ) → w ≡ Refused n → {t : Text} → Holds (refused_line n) t → Says n 0 t
    refused_said n q h = refused_by (files_refusal b s) n refl (sym e ∙ q) h

    module _ {a : Answer} {len : ℕ} (q : w ≡ Filed a len) where
      pub files_serve : files_refusal b s ≡ 0
      files_serve = (filing_filed (files_refusal b s) (run_answer (problem b s)) a (length (run_card b s)) len (sym e ∙ q)).0

      pub size_is : written_size w ≡ len
      unfolding written_size
      size_is = rw q

      pub size_fits : {k : ℕ} → written_size w ≤ k → len ≤ k
      size_fits h = rw size_is at h

      pub filed_said : (buffer : List ℕ) → take (written_size w) buffer ≡ search_card b s → {t : Text} → Holds (card_listing b s (take len buffer)) t → Says 0 len t
      filed_said buffer c h =
          let d : take len buffer ≡ search_card b s = rw (← size_is) c in
          let l : len ≡ length (search_card b s) = sym size_is ∙ ap written_size e ∙ length_by_number (files_refusal b s) refl in
          (sym files_serve, (l, rw (d, listing_by_number (files_refusal b s) refl) at h))

  -- the writer's reply and what it leaves in a buffer of 1,060 bytes
  module _ (out : List ℕ) (room : length out ≡ card_limit) {w : Written} (e : w ≡ filing (write_refusal b s (length out)) (run_answer (problem b s)) (length (run_card b s))) where
    refusal_is : write_refusal b s (length out) ≡ files_refusal b s
    refusal_is = rw room (write_refusal_is (files_refusal b s) refl)

    pub written_is : w ≡ search_filing b s
    written_is = rw (← refusal_is) e

    pub length_fits : written_size w ≤ card_limit
    length_fits = omega (arith, ap written_size written_is, length_by_number (files_refusal b s) refl, card_fits (files_refusal b s) refl)

    -- what the writer promises of its reply
    pub promised : {now : List ℕ} → FilingRight b s w now → FilingRight b s (search_filing b s) now
    promised {now} h = subst (λ v. FilingRight b s v now) written_is h

    module _ {now : List ℕ} (f : now ≡ slots_after (write_refusal b s (length out)) (run_card b s) out) where
      pub left_is : now ≡ slots_after (files_refusal b s) (run_card b s) out
      left_is = rw (← refusal_is) f

      pub card_is : take (written_size w) now ≡ search_card b s
      card_is = rw (written_is, left_is) (bytes_by_number (files_refusal b s) refl out)
