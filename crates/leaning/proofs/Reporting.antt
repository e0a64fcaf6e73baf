-- What is promised of a report holds, and the report of cards that were checked one by one is the report of all.
use mathlib.Core.Path.{◌≡◌, refl, sym, ap, ◌∙◌}
use mathlib.Core.List.{List, [], ◌∷◌, ◌++◌, append-nil}
use Prim.Native.Nat.{ℕ, zero, suc, ◌*◌}
use native.Mathlib.Omega.{arith}
use borrow.Author.Tests.{le-ltb}
use lib.Dec.{eqb-suc-zero}
use lib.ListN.{length}
use Rattle.frank_wolfe.specs.Vectors.{sum}
use Rattle.files.specs.Book.{boats, book_refusal}
use Rattle.files.proofs.Accepted.{book_accepted}
use Rattle.text.specs.declared.Text.{Text}
use Rattle.text.specs.Texts.{Holds}
use Rattle.method.specs.Answers.{search_refusal}
use Rattle.card_format.specs.Format.{card_shares}
use Rattle.card_format.specs.Checks.{card_refusal, check_refusal, check_refusal_with}
use Rattle.card_format.proofs.Accepted.{both_zero}
use Rattle.leaning.specs.Report.{Pair, pair_refusal, pairs_refusal, refusal_so_far, lean_refusal, shares_of, counts, entries, stretch, lean_text, lean_listing}
use Rattle.leaning.specs.Slots.{card_slots, parts, Checked, slots_refusal, slots_listing}
use Rattle.leaning.specs.Promise.{LeanRight, ReportsChecked}
use Rattle.leaning.proofs.Counts.{card_entries, shares_length, counts_more, sum_none, pair_checked}
use Rattle.leaning.proofs.Leading.{leads}
use Rattle.leaning.proofs.Lengths.{lines_length}
use Rattle.leaning.proofs.Checking.{Passed, so_far_passed, refusal_stays, shares_count}

-- ---- The total

pair_passed : (b : List ℕ) (p : Pair) → book_refusal b ≡ 0 → pair_refusal b p ≡ 0 → card_refusal b p.sheet p.card ≡ 0
unfolding check_refusal_with
pair_passed b p e h =
    let k : check_refusal b p.sheet p.card (boats b) ≡ 0 = pair_checked b p (boats b) e (omega arith) ∙ h in
    (both_zero (search_refusal b p.sheet (boats b)) (card_refusal b p.sheet p.card) k).1

counts_total : (b : List ℕ) (ps : List Pair) → book_refusal b ≡ 0 → pairs_refusal b ps ≡ 0 → sum (counts (boats b) (shares_of b ps)) ≡ entries ps
unfolding pairs_refusal shares_of entries
counts_total b [] e r = sum_none 0 (boats b)
counts_total b (p ∷ ps) e r =
    let w = p.card in
    let h = both_zero (pair_refusal b p) (pairs_refusal b ps) r in
    let l = shares_length (boats b) w in
    omega (arith, counts_more 0 (boats b) (card_shares (boats b) w) (shares_of b ps) (omega arith), card_entries b p.sheet w (pair_passed b p e h.0), counts_total b ps e h.1)

-- ---- The promise

pub lean_right : (b : List ℕ) (ps : List Pair) → lean_refusal b ps ≡ 0 → LeanRight b ps
unfolding lean_refusal lean_listing lean_text
lean_right b ps e =
    let h : Passed b (length ps) ps = so_far_passed b (length ps) ps e in
    let fits = book_accepted b h.book in
    let total = counts_total b ps h.book h.pairs in
    record {
      total = total;
      some_card = h.some;
      few_cards = h.few;
      stretches = λ i k. leads (boats b) (stretch i (shares_of b ps)) fits.some_boats;
      short = rw e (lines_length (boats b) (entries ps) (shares_of b ps) fits.some_boats fits.most_boats (omega (arith, shares_count b ps)) (sym total));
    }

-- ---- Card by card

module _ (b : List ℕ) (n : ℕ) (slots : List ℕ) where
  -- of all pairs: the refusal of those that were checked
  whole_refusal : (r : ℕ) (ps rest : List Pair) → r ≡ refusal_so_far b n ps → length (ps ++ rest) ≡ n → (r ≡ 0 → rest ≡ []) → lean_refusal b (ps ++ rest) ≡ r
  unfolding lean_refusal
  whole_refusal zero ps rest e l h =
      let m : length ps ≡ n = rw (h refl, append-nil ps) at l in
      rw (h refl, append-nil ps, m) (sym e)
  whole_refusal (suc r) ps rest e l h = rw l (refusal_stays b n ps rest (λ z. omega arith) ∙ sym e)

  -- nothing else refuses the slots
  no_other : (r : ℕ) (ps : List Pair) → Checked b n ps r slots → slots_refusal b r n (length slots) ≡ r
  unfolding slots_refusal
  no_other zero ps c =
      let h : Passed b n ps = so_far_passed b n ps (sym c.refusal_is) in
      rw (h.start, le-ltb (length slots) (card_slots * n) (c.room refl))
  no_other (suc r) ps c = rw (eqb-suc-zero r)

  same_listing : (r : ℕ) (ps rest : List Pair) → Checked b n ps r slots → length (ps ++ rest) ≡ n → (r ≡ 0 → rest ≡ []) → slots_listing b r n slots ≡ lean_listing b (ps ++ rest)
  unfolding slots_listing lean_listing lean_text
  same_listing zero ps rest c l e =
      let m : length ps ≡ n = rw (e refl, append-nil ps) at l in
      let h : Passed b n ps = so_far_passed b n ps (sym c.refusal_is) in
      let q : parts n (boats b) slots ≡ shares_of b ps = ap (λ (k : ℕ). parts k (boats b) slots) (sym m) ∙ c.shares_are refl in
      let w : lean_refusal b (ps ++ rest) ≡ 0 = whole_refusal 0 ps rest c.refusal_is l e in
      rw (no_other 0 ps c, w, e refl, append-nil ps, q, counts_total b ps h.book h.pairs)
  same_listing (suc r) ps rest c l e = rw (no_other (suc r) ps c, whole_refusal (suc r) ps rest c.refusal_is l e)

  pub reports_checked : (r : ℕ) {t : Text} → Holds (slots_listing b r n slots) t → ReportsChecked b r n slots t
  reports_checked r h ps rest c l e = record { text = rw (← same_listing r ps rest c l e) h; right = lean_right b (ps ++ rest) }
