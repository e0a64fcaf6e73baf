-- A card judged on the book of the released boats and their shares is judged under the set.
use Rattle.std.specs.Prelude.{Option}
use mathlib.Core.Path.{◌≡◌, sym, ap, ◌∙◌}
use mathlib.Core.Bool.{false}
use mathlib.Core.List.{List, ◌++◌}
use Prim.Native.Nat.{ℕ, ◌-◌}
use native.Mathlib.Omega.{arith}
use lib.ListN.{length, take, replicate, length-append, length-replicate}
use lib.Seq.{take_at}
use Rattle.files.specs.Book.{boats}
use Rattle.method.specs.Searched.{Searched}
use Rattle.method.specs.declared.Released.{Released}
use Rattle.method.specs.ReleasedBoats.{Usable, usable, used_from, kept, gather}
use Rattle.method.specs.Problem.{Problem, call_problem}
use Rattle.method.specs.Calls.{terms, terms_in, call_refusal}
use Rattle.method.specs.Answers.{outcome}
use Rattle.method.specs.Bounds.{answer_of}
use Rattle.method.proofs.ReleasedBoats.{gather_kept}
use Rattle.released_set.proofs.Ranks.{rank_most}
use Rattle.buffers.specs.Placed.{placed}
use Rattle.released_book.specs.Book.{released_book}
use Rattle.released_run.proofs.Limited.{few_boats, own_boats, own_problem}
use Rattle.card_format.specs.Format.{card_fields, card_test}
use Rattle.card_format.specs.Checks.{truth_refusal}

-- the judgement of a problem and shares, one a vertex
abbrev pub judgement : Problem → (shares card : List ℕ) → Searched
judgement p qs w = outcome (truth_refusal p qs w) (answer_of (card_test w) p qs (card_fields w).steps)

module _ (set : Released) (table : Option (List ℕ)) (b s : List ℕ) (ok : call_refusal (terms_in set table) b s ≡ 0) (w shares : List ℕ)
    {own : List ℕ} (eo : own ≡ placed (replicate 32780 0) 0 (released_book (usable set) b)) {n : ℕ} (en : n ≡ length (released_book (usable set) b)) where
  abbrev u : Usable
  u = usable set

  -- the gathered shares, as they are read: one a released boat
  gathered_are : {k : ℕ} → k ≡ boats b → {found : List ℕ} → length found ≡ 256 → found ≡ kept u 0 (take k shares) ++ replicate (256 - length (used_from u 0 k)) 0 →
      take (boats (take n own)) found ≡ gather u (take (boats b) shares)
  gathered_are {k} ek {found} lf ef =
      let qs = take (boats b) shares in
      let rest = replicate {A = ℕ} (256 - length (used_from u 0 (boats b))) 0 in
      let whole : found ≡ kept u 0 qs ++ rest = ef ∙ rw ek in
      let c : length (kept u 0 qs) ≡ length (used_from u 0 (boats b)) =
      omega (arith, lf, ap length whole, length-append (kept u 0 qs) rest, length-replicate {A = ℕ} (256 - length (used_from u 0 (boats b))) 0, rank_most u 0 (boats b), few_boats set table b s ok) in
      rw (own_boats set table b s ok eo en, whole) (take_at (kept u 0 qs) rest (length (used_from u 0 (boats b))) c ∙ sym (gather_kept u qs))

  pub limited_judgement : {k : ℕ} → k ≡ boats b → {found : List ℕ} → length found ≡ 256 → found ≡ kept u 0 (take k shares) ++ replicate (256 - length (used_from u 0 k)) 0 → {r : Searched} →
      r ≡ judgement (call_problem (terms table) (take n own) s) (take (boats (take n own)) found) w → r ≡ judgement (call_problem (terms_in set table) b s) (gather u (take (boats b) shares)) w
  limited_judgement ek lf ef q = q ∙ rw (own_problem set table b s ok eo en, gathered_are ek lf ef)

-- where the call is not limited
pub unlimited_judgement : (set : Released) (table : Option (List ℕ)) (b s w qs : List ℕ) → set.limited ≡ false → {r : Searched} →
    r ≡ judgement (call_problem (terms table) b s) qs w → r ≡ judgement (call_problem (terms_in set table) b s) (gather (usable set) qs) w
unlimited_judgement set table b s w qs e q = q ∙ rw e
