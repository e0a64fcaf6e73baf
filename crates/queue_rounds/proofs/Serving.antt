-- The rounds of the code are those of specs/Rounds.antt, up to the first that takes no step.
use mathlib.Core.Path.{◌≡◌, refl, ap, sym, ◌∙◌}
use mathlib.Core.Logic.{◌⊎◌, inl, inr, ⊎_elim}
use mathlib.Core.List.{List, ◌∷◌}
use Prim.Native.Nat.{ℕ, zero, suc, ◌+◌, ◌-◌, ◌≤◌, ◌<◌}
use native.Mathlib.Omega.{arith}
use lib.ListN.{length, take, replicate, length-take}
use lib.Seq.{get_or-take}
use Rattle.frank_wolfe.specs.Vectors.{sum}
use Rattle.queue_rounds.specs.declared.Rounds.{Rounds}
use Rattle.sheet_queue.specs.Rounds.{after, steps_got}
use Rattle.queue_rounds.specs.Counts.{Kept, Rounded}
use Rattle.sheet_queue.proofs.Rounds.{below_or_not, round_grows, round_idle, round_finished, sum_none}
use Rattle.sheet_queue.proofs.Fair.{settled}

take_zeros : (n m : ℕ) → n ≤ m → take {A = ℕ} n (replicate m 0) ≡ replicate n 0
take_zeros zero m h = refl
take_zeros (suc n) zero h = absurd (omega arith)
take_zeros (suc n) (suc m) h = ap (λ (l : List ℕ). 0 ∷ l) (take_zeros n m (omega arith))

pub record Serving (ts : List ℕ) (a : ℕ) (q : Rounds) : Type 0 where
  pub kept : Kept ts q
  pub rounds : ℕ
  pub used_is : take (length ts) q.used ≡ after rounds a ts
  pub left_is : q.left + sum (take (length ts) q.used) ≡ a

pub begins : {ts : List ℕ} {q : Rounds} → Kept ts q → q.used ≡ replicate 16 0 → Serving ts q.left q
unfolding after
begins {ts} {q} k e =
    let none : take (length ts) q.used ≡ replicate (length ts) 0 = rw e (take_zeros (length ts) 16 k.sheets.few) in
    record {
      kept = k;
      rounds = 0;
      used_is = none;
      left_is = omega (arith, ap sum none, sum_none (length ts));
    }

module _ {ts : List ℕ} {a : ℕ} {q r : Rounds} (v : Serving ts a q) (t : Rounded ts q r) where
  pub goes : Serving ts a r
  unfolding after
  goes =
      let left-was : q.left ≡ a - sum (after v.rounds a ts) = omega (arith, v.left_is, ap sum v.used_is) in
      record {
        kept = t.kept;
        rounds = suc v.rounds;
        used_is = t.used_is ∙ rw (left-was, v.used_is) refl;
        left_is = t.left_is ∙ v.left_is;
      }

  was_long : length (take (length ts) q.used) ≡ length ts
  was_long = omega (arith, length-take (length ts) q.used, v.kept.used_long, v.kept.sheets.few)

  pub falls : (r.left ≡ q.left → ⊥) → r.left < q.left
  falls n = omega (arith, n, t.left_is, ap sum t.used_is, round_grows q.left ts (take (length ts) q.used) was_long)

  pub stops : r.left ≡ q.left → take (length ts) r.used ≡ steps_got a ts
  stops e = goes.used_is ∙ settled goes.rounds a ts (⊎_elim idle gone (below_or_not 0 q.left))
    where
      idle : 0 < q.left → (after goes.rounds a ts ≡ ts) ⊎ (sum (after goes.rounds a ts) ≡ a)
      idle h =
          let all : take (length ts) q.used ≡ ts =
          round_idle q.left ts (take (length ts) q.used) h was_long
          (λ i l. rw (get_or-take (length ts) q.used i 0 l) (v.kept.within_own i l))
          (omega (arith, t.left_is, ap sum t.used_is))
          in
          inl (sym goes.used_is ∙ t.used_is ∙ rw all (round_finished q.left ts))

      gone : q.left ≤ 0 → (after goes.rounds a ts ≡ ts) ⊎ (sum (after goes.rounds a ts) ≡ a)
      gone h = inr (omega (arith, goes.left_is, ap sum goes.used_is))
