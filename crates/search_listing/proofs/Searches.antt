-- The listing of a search with a share list of 256 slots. Assumes nothing.
use mathlib.Core.Path.{◌≡◌, refl, sym, ap, ◌∙◌}
use mathlib.Core.List.{List}
use Prim.Native.Nat.{ℕ}
use native.Mathlib.Omega.{arith}
use lib.ListN.{length}
use Rattle.files.specs.Sheet.{files_refusal}
use Rattle.method.specs.Searched.{Searched}
use Rattle.method.specs.Problem.{problem, plain_terms}
use Rattle.method.specs.Answers.{refusal_number, outcome, search_refusal, slots_after, run_answer, run_iterate}
use Rattle.method.specs.Promise.{OutcomeRight}
use Rattle.method.proofs.Promise.{run_slot_count, outcome_number, outcome_right}
use Rattle.text.specs.Texts.{Holds}
use Rattle.text.specs.declared.Text.{Text}
use Rattle.listing.specs.Lines.{outcome_listing, Listable}
use Rattle.listing.proofs.Outcomes.{listable, same_listing, long_enough, same_refusal, after_itself}
use Rattle.search_listing.specs.Searches.{search_outcome, search_shares, search_listing}

-- what the search promises holds of what is listed
pub listed_right : (b s : List ℕ) → OutcomeRight b s (search_outcome b s) (search_shares b s)
listed_right b s =
    outcome_right plain_terms b s (search_shares b s) (files_refusal b s) (search_outcome b s) (search_shares b s)
    (sym (long_enough b s (length (search_shares b s)) (λ ok. omega (arith, run_slot_count plain_terms b s ok)))) refl (sym (after_itself (files_refusal b s) (search_shares b s)))

module _ (b s slots : List ℕ) {r : Searched} (e : r ≡ outcome (search_refusal b s 256) (run_answer (problem b s))) where
  found : r ≡ outcome (files_refusal b s) (run_answer (problem b s))
  found = e ∙ ap (λ (n : ℕ). outcome n (run_answer (problem b s))) (same_refusal b s)

  pub search_listable : Listable b s r
  search_listable = rw found (listable b s (files_refusal b s) (run_answer (problem b s)) (λ h. h))

  pub search_number : refusal_number r ≡ files_refusal b s
  search_number = ap refusal_number found ∙ outcome_number (files_refusal b s) (run_answer (problem b s))

  pub search_listed : {now : List ℕ} {t : Text} → now ≡ slots_after (search_refusal b s 256) (run_iterate (problem b s)).shares slots → Holds (outcome_listing b s r now) t → Holds (search_listing b s) t
  unfolding search_listing
  search_listed {now} {t} f h =
      let g : now ≡ slots_after (files_refusal b s) (run_iterate (problem b s)).shares slots = f ∙ ap (λ (n : ℕ). slots_after n (run_iterate (problem b s)).shares slots) (same_refusal b s) in
      let k : outcome_listing b s r now ≡ search_listing b s = rw (found, g) (same_listing b s slots (run_iterate (problem b s)).shares (run_answer (problem b s)) (files_refusal b s) (run_slot_count plain_terms b s)) in
      rw k at h
