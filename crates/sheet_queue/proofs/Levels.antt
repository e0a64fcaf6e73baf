-- The steps in closed form: for some r and p the first p sheets have at most r + 1 steps, the others at most r, each no more than its own.
use mathlib.Core.Path.{◌≡◌, refl, ap, ap₂, ◌∙◌}
use mathlib.Core.Logic.{◌⊎◌, inl, inr, ⊎_elim, ⊎_map}
use mathlib.Core.List.{List, [], ◌∷◌}
use Prim.Native.Nat.{ℕ, zero, suc, ◌+◌, ◌-◌, ◌*◌, ◌≤◌, ◌<◌, min}
use native.Mathlib.Omega.{arith}
use native.Mathlib.Nat.{suc-mul}
use lib.ListN.{length, get_or, replicate}
use Rattle.frank_wolfe.specs.Vectors.{sum}
use Rattle.sheet_queue.specs.Rounds.{turn, round, after, steps_got}
use Rattle.sheet_queue.proofs.Rounds.{below_or_not, turn_is, round_sum, round_none, after_length, sum_none}

unfoldable pub level : (r p : ℕ) → (own : List ℕ) → List ℕ
level r p [] = []
level r zero (t ∷ ts) = min t r ∷ level r zero ts
level r (suc p) (t ∷ ts) = min t (suc r) ∷ level r p ts

pub level_front : (r p : ℕ) (ts : List ℕ) (i : ℕ) → i < p → get_or (level r p ts) i 0 ≡ min (get_or ts i 0) (suc r)
unfolding level
level_front r p [] i h = omega arith
level_front r zero (t ∷ ts) i h = omega arith
level_front r (suc p) (t ∷ ts) zero h = refl
level_front r (suc p) (t ∷ ts) (suc i) h = level_front r p ts i (omega arith)

pub level_back : (r p : ℕ) (ts : List ℕ) (i : ℕ) → p ≤ i → get_or (level r p ts) i 0 ≡ min (get_or ts i 0) r
unfolding level
level_back r p [] i h = omega arith
level_back r zero (t ∷ ts) zero h = refl
level_back r zero (t ∷ ts) (suc i) h = level_back r zero ts i (omega arith)
level_back r (suc p) (t ∷ ts) zero h = omega arith
level_back r (suc p) (t ∷ ts) (suc i) h = level_back r p ts i (omega arith)

level_start : (ts : List ℕ) → replicate (length ts) 0 ≡ level 0 0 ts
unfolding level
level_start [] = refl
level_start (t ∷ ts) = let z : min t 0 ≡ 0 = omega arith in rw z (ap (λ (l : List ℕ). 0 ∷ l) (level_start ts))

level_all : (r : ℕ) (ts : List ℕ) → level r (length ts) ts ≡ level (suc r) 0 ts
unfolding level
level_all r [] = refl
level_all r (t ∷ ts) = ap (λ (l : List ℕ). min t (suc r) ∷ l) (level_all r ts)

-- levels that total less than r are everyone's own
level_done : (r : ℕ) (ts : List ℕ) → sum (level r 0 ts) < r → level r 0 ts ≡ ts
unfolding sum level
level_done r [] h = refl
level_done r (t ∷ ts) h =
    let e : min t r ≡ t = omega arith in
    rw e (ap (λ (l : List ℕ). t ∷ l) (level_done r ts (omega arith)))

pub level_sum : (r p : ℕ) (ts : List ℕ) → sum (level r p ts) ≤ length ts * r + p
unfolding sum level
level_sum r p [] = omega arith
level_sum r zero (t ∷ ts) = omega (arith, suc-mul (length ts) r, level_sum r zero ts)
level_sum r (suc p) (t ∷ ts) = omega (arith, suc-mul (length ts) r, level_sum r p ts)

pub level_top : (r p : ℕ) (ts : List ℕ) → sum (level r p ts) ≤ length ts * suc r
unfolding sum level
level_top r p [] = omega arith
level_top r zero (t ∷ ts) = omega (arith, suc-mul (length ts) (suc r), level_top r zero ts)
level_top r (suc p) (t ∷ ts) = omega (arith, suc-mul (length ts) (suc r), level_top r p ts)

level_length : (r p : ℕ) (ts : List ℕ) → length (level r p ts) ≡ length ts
unfolding level
level_length r p [] = refl
level_length r zero (t ∷ ts) = ap suc (level_length r zero ts)
level_length r (suc p) (t ∷ ts) = ap suc (level_length r p ts)

-- a round raises the first sheets from their level, and all of them unless the allowance is gone
pub record Raised (left r : ℕ) (ts : List ℕ) : Type 0 where
  pub first : ℕ
  pub raised : round left ts (level r 0 ts) ≡ level r first ts
  pub all_or_gone : (first ≡ length ts) ⊎ (sum (level r first ts) ≡ left + sum (level r 0 ts))

-- a turn at the level r is one step up to the next level; it takes no more than is left
turn_up : (left t r : ℕ) → (min t r + turn (suc left) t (min t r) ≡ min t (suc r)) × (turn (suc left) t (min t r) ≤ suc left)
turn_up left t r = rw turn_is (sum_up, within)
  where
    sum_up : min t r + min 1 (min (suc left) (t - min t r)) ≡ min t (suc r)
    sum_up = omega arith

    within : min 1 (min (suc left) (t - min t r)) ≤ suc left
    within = omega arith

gone_up : (left s low high rest more : ℕ) → low + s ≡ high → s ≤ left → more ≡ (left - s) + rest → high + more ≡ left + (low + rest)
gone_up left s low high rest more h l e = omega arith

raises : (left r : ℕ) (ts : List ℕ) → Raised left r ts
unfolding sum round level
raises left r [] = record { first = 0; raised = refl; all_or_gone = inl refl }
raises zero r (t ∷ ts) =
    record { first = 0; raised = round_none (t ∷ ts) (level r 0 (t ∷ ts)) (level_length r 0 (t ∷ ts)); all_or_gone = inr (omega arith) }
raises (suc left) r (t ∷ ts) =
    let s = turn (suc left) t (min t r) in
    let more = raises (suc left - s) r ts in
    let up = turn_up left t r in
    record {
      first = suc more.first;
      raised = rw up.0 (ap (λ (l : List ℕ). min t (suc r) ∷ l) more.raised);
      all_or_gone = ⊎_map (λ e. ap suc e) (λ e. gone_up (suc left) s (min t r) (min t (suc r)) (sum (level r 0 ts)) (sum (level r more.first ts)) up.0 up.1 e) more.all_or_gone;
    }

-- where the rounds have come to: everyone at a level, or the allowance gone
pub record Reached (r a : ℕ) (ts ks : List ℕ) : Type 0 where
  pub within : sum ks ≤ a
  pub height : ℕ
  pub first : ℕ
  pub levelled : ks ≡ level height first ts
  pub going_or_gone : ((height ≡ r) × (first ≡ 0)) ⊎ (sum ks ≡ a)

module _ (r a : ℕ) (ts : List ℕ) where
  rises : sum (level r 0 ts) ≤ a → Reached (suc r) a ts (round (a - sum (level r 0 ts)) ts (level r 0 ts))
  rises h =
      let left = a - sum (level r 0 ts) in
      let more = raises left r ts in
      let bound : sum (round left ts (level r 0 ts)) ≤ a = omega (arith, round_sum left ts (level r 0 ts)) in
      ⊎_elim
      (λ e. record {
        within = bound;
        height = suc r;
        first = 0;
        levelled = more.raised ∙ ap (λ (p : ℕ). level r p ts) e ∙ level_all r ts;
        going_or_gone = inl (refl, refl);
      })
      (λ e. record {
        within = bound;
        height = r;
        first = more.first;
        levelled = more.raised;
        going_or_gone = inr (omega (arith, e, ap sum more.raised));
      })
      more.all_or_gone

  goes_on : (ks : List ℕ) → length ks ≡ length ts → Reached r a ts ks → Reached (suc r) a ts (round (a - sum ks) ts ks)
  goes_on ks l d =
      ⊎_elim
      (λ e.
      let k : ks ≡ level r 0 ts = d.levelled ∙ ap₂ (λ (h p : ℕ). level h p ts) e.0 e.1 in
      rw k (rises (omega (arith, d.within, ap sum k))))
      (λ e.
      let n : a - sum ks ≡ 0 = omega arith in
      let same : round (a - sum ks) ts ks ≡ ks = rw n (round_none ts ks l) in
      rw same (record { within = d.within; height = d.height; first = d.first; levelled = d.levelled; going_or_gone = inr e }))
      d.going_or_gone

pub reached : (r a : ℕ) (ts : List ℕ) → Reached r a ts (after r a ts)
unfolding after
reached zero a ts =
    record {
      within = omega (arith, sum_none (length ts));
      height = 0;
      first = 0;
      levelled = level_start ts;
      going_or_gone = inl (refl, refl);
    }
reached (suc r) a ts = goes_on r a ts (after r a ts) (after_length r a ts) (reached r a ts)

-- the allowance's number of rounds leaves everyone finished or the allowance gone
pub done_or_gone : (a : ℕ) (ts : List ℕ) → (steps_got a ts ≡ ts) ⊎ (sum (steps_got a ts) ≡ a)
unfolding steps_got
done_or_gone a ts = by (reached a a ts)
  where
    by : Reached a a ts (after a a ts) → (after a a ts ≡ ts) ⊎ (sum (after a a ts) ≡ a)
    by d =
        ⊎_elim
        (λ e. let k : after a a ts ≡ level a 0 ts = d.levelled ∙ ap₂ (λ (h p : ℕ). level h p ts) e.0 e.1 in
        ⊎_elim (λ h. inl (k ∙ level_done a ts (omega (arith, ap sum k)))) (λ h. inr (omega arith)) (below_or_not (sum (after a a ts)) a))
        inr
        d.going_or_gone
