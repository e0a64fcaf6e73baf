-- The line of what was written is that of the merged book.
use mathlib.Core.Path.{◌≡◌, refl, ap}
use mathlib.Core.List.{List, []}
use Prim.Native.Nat.{ℕ, zero, suc}
use native.Mathlib.Omega.{arith}
use lib.ListN.{length, take}
use lib.Seq.{take_at}
use Rattle.files.specs.Book.{boats, columns}
use Rattle.method.specs.Answers.{slots_after}
use Rattle.text.specs.Lines.{pair_line}
use Rattle.text.specs.Texts.{Holds, Adds}
use Rattle.text.specs.declared.Text.{Text}
use Rattle.text.proofs.Texts.{adds_to_empty}
use Rattle.listing.specs.Lines.{fleet_word, refused_line}
use Rattle.std.specs.Prelude.{Ok, Err}
use Rattle.refusals.specs.declared.Refusal.{Refusal}
use Rattle.refusals.specs.Numbers.{number}
use Rattle.refusals.proofs.Numbers.{positive}
use Rattle.merged_book.specs.Merging.{merging, as_merged}
use Rattle.merge_listing.specs.Listings.{merge_line}

module _ {t u : Text} (n : ℕ) (b : List ℕ) where
  pub refused_listed : (n ≡ 0 → ⊥) → Holds [] t → Adds t (refused_line n) u → Holds (merge_line n b) u
  refused_listed h p q = by n h q
    where
      by : (n : ℕ) → (n ≡ 0 → ⊥) → Adds t (refused_line n) u → Holds (merge_line n b) u
      by zero h q = absurd (h refl)
      by (suc n) h q = unfold merge_line in adds_to_empty p q

  pub book_listed : n ≡ 0 → {k c : ℕ} → k ≡ boats b → c ≡ columns b → Holds [] t → Adds t (pair_line fleet_word k c) u → Holds (merge_line n b) u
  unfolding merge_line
  book_listed e ek ec p q = rw e (adds_to_empty p (rw (ek, ec) at q))

-- what was written is the merged book
pub merge_listed : (n : ℕ) (bs out : List ℕ) {size : ℕ} {now : List ℕ} {t : Text} → as_merged (Ok size) ≡ merging n (length bs) → now ≡ slots_after n bs out →
    Holds (merge_line 0 (take size now)) t → Holds (merge_line n bs) t
unfolding merging slots_after merge_line
merge_listed zero bs out {size} er ew h = let z : size ≡ length bs = ap (λ r. r.len) er in rw (ew, z, take_at bs _ (length bs) refl) at h
merge_listed (suc n) bs out er ew h = absurd (omega (arith, ap (λ r. r.refusal) er))

refusal_is : (n size : ℕ) (e : Refusal) → as_merged (Err e) ≡ merging n size → number e ≡ n
unfolding merging
refusal_is zero size e er = ap (λ r. r.refusal) er
refusal_is (suc n) size e er = ap (λ r. r.refusal) er

pub reason_listed : (n : ℕ) (bs : List ℕ) (e : Refusal) {t u : Text} → as_merged (Err e) ≡ merging n (length bs) → Holds [] t → Adds t (refused_line (number e)) u →
    Holds (merge_line n bs) u
reason_listed n bs e er p q = rw (refusal_is n (length bs) e er) at (refused_listed (number e) bs (positive e) p q)
