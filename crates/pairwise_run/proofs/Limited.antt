-- A run worked over on the book of the released boats, with its shares put into the slots of these boats, is that of the call.
use mathlib.Core.Path.{◌≡◌, refl, sym, ap, ◌∙◌}
use mathlib.Core.Bool.{Bool, true, false, cond}
use mathlib.Core.List.{List, [], ◌∷◌, ◌++◌}
use Rattle.std.specs.Prelude.{None, Ok, Err}
use Rattle.std.specs.Prelude as std
use Rattle.std.specs.Result.{IsErr, IsErrAnd}
use Rattle.refusals.specs.declared.Refusal.{Refusal}
use Prim.Native.Nat.{ℕ, zero, suc}
use lib.ListN.{length, get_or, take, drop, replicate}
use lib.Seq.{take_at}
use Rattle.files.specs.Book.{boats}
use Rattle.method.specs.declared.Released.{Released}
use Rattle.method.specs.ReleasedBoats.{Usable, usable, may_use, used_from, scatter_from, scatter}
use Rattle.method.specs.Problem.{Problem, plain_terms, call_problem, problem}
use Rattle.method.specs.Calls.{call_refusal}
use Rattle.method.proofs.ReleasedBoats.{length_scatter_from}
use Rattle.buffers.specs.Placed.{placed}
use Rattle.released_book.specs.Book.{released_book}
use Rattle.released_run.proofs.Limited.{own_boats, own_problem, scatter_limited}
use Rattle.pairwise.specs.Moves.{moves_refusal, worked_shares, worked_answer}
use Rattle.pairwise.specs.Call.{set_terms}
use Rattle.pairwise_run.specs.declared.WorkedRun.{WorkedRun}
use Rattle.pairwise_run.specs.Result.{Result}
use Rattle.pairwise_run.proofs.Fleet.{refused_result, worked_result}

-- only the first shares are read, one a boat that may be used
scatter_taken : (u : Usable) (i n : ℕ) (qs : List ℕ) → scatter_from u i n (take (length (used_from u i n)) qs) ≡ scatter_from u i n qs
unfolding scatter_from used_from
scatter_taken u i zero qs = refl
scatter_taken u i (suc n) qs = by (may_use u i) (λ rs. scatter_taken u (suc i) n rs) qs
  where
    by : (t : Bool) → ((rs : List ℕ) → scatter_from u (suc i) n (take (length (used_from u (suc i) n)) rs) ≡ scatter_from u (suc i) n rs) → (qs : List ℕ) →
        (let rs = take (length (cond t (i ∷ used_from u (suc i) n) (used_from u (suc i) n))) qs in
        ◌≡◌ {A = List ℕ} (cond t (get_or rs 0 0) 0 ∷ scatter_from u (suc i) n (cond t (drop 1 rs) rs)) (cond t (get_or qs 0 0) 0 ∷ scatter_from u (suc i) n (cond t (drop 1 qs) qs)))
    by true f [] = refl
    by true f (q ∷ qs) = ap (λ l. q ∷ l) (f qs)
    by false f qs = ap (λ l. 0 ∷ l) (f qs)

module _ (set : Released) (b s : List ℕ) (ok : call_refusal (set_terms set) b s ≡ 0) {own : List ℕ} (eo : own ≡ placed (replicate 32780 0) 0 (released_book (usable set) b)) {n : ℕ}
    (en : n ≡ length (released_book (usable set) b)) where
  abbrev u : Usable
  u = usable set

  problem_is : problem (take n own) s ≡ call_problem (set_terms set) b s
  problem_is = own_problem set None b s ok eo en

  boats_are : boats (take n own) ≡ length (used_from u 0 (boats b))
  boats_are = own_boats set None b s ok eo en

  pub refused_own : (allowed : ℕ) {r : std.Result WorkedRun Refusal} {e : Refusal} → Result plain_terms (take n own) s allowed (Err e) → IsErr r × IsErrAnd r (λ x. x ≡ e) → Result (set_terms set) b s allowed r
  refused_own allowed {r} {e} d h = refused_result (set_terms set) b s allowed r e h (d.number ∙ ap (λ (p : Problem). moves_refusal p allowed) problem_is)

  pub limited : set.limited ≡ true → (allowed : ℕ) {r : WorkedRun} → Result plain_terms (take n own) s allowed (Ok r) → {k : ℕ} → k ≡ boats b → (slots : List ℕ) {shares : List ℕ} →
      shares ≡ scatter_from u 0 k r.shares ++ drop k slots → Result (set_terms set) b s allowed (Ok (record { answer = r.answer; shares = shares }))
  limited e allowed {r} d {k} ek slots {shares} es =
      worked_result (set_terms set) b s allowed _ (d.number ∙ ap (λ (p : Problem). moves_refusal p allowed) problem_is)
      (d.answer r refl ∙ ap (λ (p : Problem). worked_answer p allowed) problem_is) (slots_are (d.slots r refl))
    where
      slots_are : take (boats (take n own)) r.shares ≡ worked_shares (problem (take n own) s) allowed → take (boats b) shares ≡ scatter u (boats b) (worked_shares (call_problem (set_terms set) b s) allowed)
      slots_are q =
          let xs = scatter_from u 0 (boats b) r.shares in
          let f : take (length (used_from u 0 (boats b))) r.shares ≡ worked_shares (call_problem (set_terms set) b s) allowed = ap (λ i. take i r.shares) (sym boats_are) ∙ q ∙ ap (λ (p : Problem). worked_shares p allowed) problem_is in
          let g : shares ≡ xs ++ drop k slots = es ∙ rw ek in
          ap (take (boats b)) g ∙ take_at xs (drop k slots) (boats b) (length_scatter_from u 0 (boats b) r.shares)
          ∙ sym (scatter_taken u 0 (boats b) r.shares) ∙ ap (scatter_from u 0 (boats b)) f ∙ sym (scatter_limited set (boats b) _ e)

-- where the call is not limited
pub unlimited : (set : Released) (b s : List ℕ) → set.limited ≡ false → (allowed : ℕ) {r : std.Result WorkedRun Refusal} → Result plain_terms b s allowed r → Result (set_terms set) b s allowed r
unlimited set b s e allowed d = rw e d
