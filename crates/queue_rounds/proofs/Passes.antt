-- A round of the code, sheet by sheet, is the round of specs/Rounds.antt.
use mathlib.Core.Path.{◌≡◌, refl, ap, sym, ◌∙◌}
use mathlib.Core.List.{List, [], ◌∷◌, ◌++◌, append-nil}
use Prim.Native.Nat.{ℕ, zero, suc, ◌+◌, ◌-◌, ◌≤◌, ◌<◌}
use native.Mathlib.Omega.{arith}
use native.Mathlib.Numerals.{add-one}
use lib.ListN.{length, get_or, set, take, drop, length-take}
use lib.Seq.{take-set-lt, drop-set-lt, get_or-take, take-length, drop-length}
use Rattle.frank_wolfe.specs.Vectors.{sum}
use Rattle.queue_rounds.specs.declared.Rounds.{Rounds}
use Rattle.sheet_queue.specs.Rounds.{turn, round}
use Rattle.queue_rounds.specs.Counts.{Kept, Turned, Rounded}
use Rattle.sheet_queue.proofs.Rounds.{turn_is}

-- the sheets before i have had their turns and the others have them yet
unfoldable pub onward : (i left : ℕ) → (ts ks : List ℕ) → List ℕ
onward i left ts ks = take i ks ++ round left (drop i ts) (drop i ks)

onward_turn : (i left : ℕ) (ts ks : List ℕ) → i < length ts → length ks ≡ length ts →
    onward (suc i) (left - turn left (get_or ts i 0) (get_or ks i 0)) ts (set ks i (get_or ks i 0 + turn left (get_or ts i 0) (get_or ks i 0))) ≡ onward i left ts ks
unfolding onward round
onward_turn i left [] ks h l = absurd (omega arith)
onward_turn i left (t ∷ ts) [] h l = absurd (omega arith)
onward_turn zero left (t ∷ ts) (k ∷ ks) h l = refl
onward_turn (suc i) left (t ∷ ts) (k ∷ ks) h l = ap (λ (x : List ℕ). k ∷ x) (onward_turn i left ts ks (omega arith) (omega arith))

sum_set : (ks : List ℕ) (i s : ℕ) → i < length ks → sum (set ks i (get_or ks i 0 + s)) ≡ sum ks + s
unfolding sum
sum_set [] i s h = absurd (omega arith)
sum_set (k ∷ ks) zero s h = omega arith
sum_set (k ∷ ks) (suc i) s h = omega (arith, sum_set ks i s (omega arith))

-- the round from the rounds q has come to sheet i and the rounds r
pub record Partway (ts : List ℕ) (q : Rounds) (i : ℕ) (r : Rounds) : Type 0 where
  pub kept : Kept ts r
  pub far : i ≤ length ts
  pub round_is : onward i r.left ts (take (length ts) r.used) ≡ round q.left ts (take (length ts) q.used)
  pub rest_is : drop (length ts) r.used ≡ drop (length ts) q.used
  pub left_is : r.left + sum (take (length ts) r.used) ≡ q.left + sum (take (length ts) q.used)

pub starts : {ts : List ℕ} {q : Rounds} → Kept ts q → Partway ts q 0 q
unfolding onward
starts k = record { kept = k; far = omega arith; round_is = refl; rest_is = refl; left_is = refl }

module _ {ts : List ℕ} {q : Rounds} {i : ℕ} {r : Rounds} (w : Partway ts q i r) where
  used_long : length (take (length ts) r.used) ≡ length ts
  used_long = omega (arith, length-take (length ts) r.used, w.kept.used_long, w.kept.sheets.few)

  pub passes : {s : Rounds} → i < length ts → Turned ts i r s → Partway ts q (i + 1) s
  passes {s} h t =
      let ks = take (length ts) r.used in
      let here : get_or r.used i 0 ≡ get_or ks i 0 = sym (get_or-take (length ts) r.used i 0 h) in
      let used-now : take (length ts) s.used ≡ set ks i (get_or ks i 0 + turn r.left (get_or ts i 0) (get_or ks i 0)) =
      ap (take (length ts)) t.used_is ∙ take-set-lt (length ts) r.used i _ h ∙ ap (λ (u : ℕ). set ks i (u + turn r.left (get_or ts i 0) u)) here
      in
      let left-now : s.left ≡ r.left - turn r.left (get_or ts i 0) (get_or ks i 0) = t.left_is ∙ ap (λ (u : ℕ). r.left - turn r.left (get_or ts i 0) u) here in
      record {
        kept = t.kept;
        far = omega arith;
        round_is = rw (add-one, used-now, left-now) (onward_turn i r.left ts ks h used_long ∙ w.round_is);
        rest_is = ap (drop (length ts)) t.used_is ∙ drop-set-lt (length ts) r.used i _ h ∙ w.rest_is;
        left_is =
            omega (
              arith,
              left-now,
              ap sum used-now,
              sum_set ks i (turn r.left (get_or ts i 0) (get_or ks i 0)) (omega (arith, used_long)),
              turn_is r.left (get_or ts i 0) (get_or ks i 0),
              w.left_is,
            );
      }

  pub passed : (i < length ts → ⊥) → Rounded ts q r
  unfolding onward round
  passed n =
      let ks = take (length ts) r.used in
      let e : i ≡ length ts = omega (arith, n, w.far) in
      let all : onward i r.left ts ks ≡ ks = rw (e, drop-length ts, append-nil) (ap (λ (m : ℕ). take m ks) (sym used_long) ∙ take-length ks) in
      record { kept = w.kept; used_is = sym all ∙ w.round_is; rest_is = w.rest_is; left_is = w.left_is }
