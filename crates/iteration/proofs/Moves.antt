-- The needs of `distance_after` and `next`: what a step moves keeps to 63 bits. Assumes nothing.
use mathlib.Core.Path.{◌≡◌, ◌∙◌}
use Prim.Native.Nat.{ℕ, ◌+◌, ◌≤◌}
use native.Mathlib.Omega.{arith}
use lib.Dec.{T}
use lib.IntN.{ℤ, pos, nat_abs, ◌+ℤ◌, ◌-ℤ◌, ◌*ℤ◌}
use lib.Signed.{non_neg, yes_non_neg, pos-nat_abs}
use mir.Syntax.{w32, w64}
use mir.Val.{SFits, Fits, to_z, of_z}
use mir.Facts.{to_z-of_z, to_z_pos}
use Rattle.integers.proofs.Bounds.{fits, read, abs_add, abs_sub, abs_mul_le}
use Rattle.sums.proofs.Sums.{cast_fits, cast_read}
use Rattle.files.specs.Limits.{step_limit}
use Rattle.scoring.specs.declared.Least.{Least}
use Rattle.iteration.specs.declared.State.{State}
use Rattle.iteration.specs.Moves.{moved_distance, Moves, next_state, Steppable}
use Rattle.iteration.proofs.Measuring.{natural_pos}

module _ {e k : ℕ} {score target-score own target : ℤ} (few : k ≤ step_limit) (m : Moves e k score target-score own target) where
  share_is : to_z w64 k ≡ pos k
  share_is = to_z_pos w64 {n = k} (omega arith)

  score_is : to_z w64 (of_z w64 score) ≡ score
  score_is = read w64 33269760000000 m.score_size tt

  target_score_is : to_z w64 (of_z w64 target-score) ≡ target-score
  target_score_is = read w64 33269760000000 m.target_score_size tt

  pub own_fits : SFits w64 (to_z w32 (of_z w32 own))
  own_fits = cast_fits own 512000000 m.own_size tt

  pub target_fits : SFits w64 (to_z w32 (of_z w32 target))
  target_fits = cast_fits target 512000000 m.target_size tt

  own_is : to_z w64 (of_z w64 (to_z w32 (of_z w32 own))) ≡ own
  own_is = cast_read own 512000000 m.own_size tt

  target_is : to_z w64 (of_z w64 (to_z w32 (of_z w32 target))) ≡ target
  target_is = cast_read target 512000000 m.target_size tt

  -- ---- E

  abbrev spread : ℤ
  spread = to_z w64 (of_z w64 score) -ℤ to_z w64 (of_z w64 target-score)

  abbrev slope : ℤ
  slope = pos 2 *ℤ to_z w64 (of_z w64 spread)

  abbrev bend : ℤ
  bend = to_z w64 (of_z w64 (to_z w32 (of_z w32 own))) -ℤ to_z w64 (of_z w64 (to_z w32 (of_z w32 target)))

  abbrev curve : ℤ
  curve = to_z w64 k *ℤ to_z w64 (of_z w64 bend)

  abbrev inside : ℤ
  inside = to_z w64 (of_z w64 slope) +ℤ to_z w64 (of_z w64 curve)

  abbrev change : ℤ
  change = to_z w64 k *ℤ to_z w64 (of_z w64 inside)

  abbrev moved : ℤ
  moved = to_z w64 e +ℤ to_z w64 (of_z w64 change)

  spread_size : nat_abs (score -ℤ target-score) ≤ 66539520000000
  spread_size = omega (arith, abs_sub score target-score, m.score_size, m.target_score_size)

  spread_is : spread ≡ score -ℤ target-score
  spread_is = rw (score_is, target_score_is)

  pub spread_fits : SFits w64 spread
  spread_fits = rw spread_is (fits w64 66539520000000 spread_size tt)

  slope_size : nat_abs (pos 2 *ℤ (score -ℤ target-score)) ≤ 133079040000000
  slope_size = abs_mul_le (pos 2) (score -ℤ target-score) 2 66539520000000 (omega arith) spread_size

  slope_is : slope ≡ pos 2 *ℤ (score -ℤ target-score)
  slope_is = rw (to_z-of_z spread_fits, spread_is)

  pub slope_fits : SFits w64 slope
  slope_fits = rw slope_is (fits w64 133079040000000 slope_size tt)

  bend_size : nat_abs (own -ℤ target) ≤ 1024000000
  bend_size = omega (arith, abs_sub own target, m.own_size, m.target_size)

  bend_is : bend ≡ own -ℤ target
  bend_is = rw (own_is, target_is)

  pub bend_fits : SFits w64 bend
  bend_fits = rw bend_is (fits w64 1024000000 bend_size tt)

  curve_size : nat_abs (pos k *ℤ (own -ℤ target)) ≤ 368640000000
  curve_size = abs_mul_le (pos k) (own -ℤ target) step_limit 1024000000 few bend_size

  curve_is : curve ≡ pos k *ℤ (own -ℤ target)
  curve_is = rw (share_is, to_z-of_z bend_fits, bend_is)

  pub curve_fits : SFits w64 curve
  curve_fits = rw curve_is (fits w64 368640000000 curve_size tt)

  inside_size : nat_abs (pos 2 *ℤ (score -ℤ target-score) +ℤ pos k *ℤ (own -ℤ target)) ≤ 133447680000000
  inside_size = omega (arith, abs_add (pos 2 *ℤ (score -ℤ target-score)) (pos k *ℤ (own -ℤ target)), slope_size, curve_size)

  inside_is : inside ≡ pos 2 *ℤ (score -ℤ target-score) +ℤ pos k *ℤ (own -ℤ target)
  inside_is = rw (to_z-of_z slope_fits, slope_is, to_z-of_z curve_fits, curve_is)

  pub inside_fits : SFits w64 inside
  inside_fits = rw inside_is (fits w64 133447680000000 inside_size tt)

  change_size : nat_abs (pos k *ℤ (pos 2 *ℤ (score -ℤ target-score) +ℤ pos k *ℤ (own -ℤ target))) ≤ 48041164800000000
  change_size = abs_mul_le (pos k) (pos 2 *ℤ (score -ℤ target-score) +ℤ pos k *ℤ (own -ℤ target)) step_limit 133447680000000 few inside_size

  change_is : change ≡ pos k *ℤ (pos 2 *ℤ (score -ℤ target-score) +ℤ pos k *ℤ (own -ℤ target))
  change_is = rw (to_z-of_z inside_fits, inside_is, share_is)

  pub change_fits : SFits w64 change
  change_fits = rw change_is (fits w64 48041164800000000 change_size tt)

  moved_size : nat_abs (moved_distance e k score target-score own target) ≤ 4659727183227387904
  unfolding moved_distance
  moved_size = omega (arith, abs_add (pos e) (pos k *ℤ (pos 2 *ℤ (score -ℤ target-score) +ℤ pos k *ℤ (own -ℤ target))), change_size, m.distance)

  moved_is : moved ≡ moved_distance e k score target-score own target
  unfolding moved_distance
  moved_is = rw (to_z_pos w64 {n = e} (omega (arith, m.distance)), to_z-of_z change_fits, change_is)

  pub moved_fits : SFits w64 moved
  moved_fits = rw moved_is (fits w64 4659727183227387904 moved_size tt)

  moved_read : to_z w64 (of_z w64 moved) ≡ moved_distance e k score target-score own target
  moved_read = to_z-of_z moved_fits ∙ moved_is

  pub moved_cast : T (non_neg (to_z w64 (of_z w64 moved))) × Fits w64 (nat_abs (to_z w64 (of_z w64 moved)))
  moved_cast = rw moved_read (yes_non_neg m.sign, record { fits = omega (arith, moved_size) })

  pub moved_result : pos (nat_abs (to_z w64 (of_z w64 moved))) ≡ moved_distance e k score target-score own target
  moved_result = rw moved_read (pos-nat_abs (moved_distance e k score target-score own target) (yes_non_neg m.sign))

  -- as a callee reads them
  pub moved_kept : moved_distance e k (to_z w64 (of_z w64 score)) (to_z w64 (of_z w64 target-score)) (to_z w32 (of_z w32 own)) (to_z w32 (of_z w32 target)) ≡ moved_distance e k score target-score own target
  moved_kept = rw (score_is, target_score_is, read w32 512000000 m.own_size tt, read w32 512000000 m.target_size tt)

  -- ---- The target's score

  abbrev step : ℤ
  step = to_z w64 k *ℤ to_z w64 (of_z w64 (to_z w32 (of_z w32 target)))

  abbrev target_moved : ℤ
  target_moved = to_z w64 (of_z w64 target-score) +ℤ to_z w64 (of_z w64 step)

  step_size : nat_abs (pos k *ℤ target) ≤ 184320000000
  step_size = abs_mul_le (pos k) target step_limit 512000000 few m.target_size

  step_is : step ≡ pos k *ℤ target
  step_is = rw (share_is, target_is)

  pub step_fits : SFits w64 step
  step_fits = rw step_is (fits w64 184320000000 step_size tt)

  target_moved_is : target_moved ≡ target-score +ℤ pos k *ℤ target
  target_moved_is = rw (target_score_is, to_z-of_z step_fits, step_is)

  pub target_moved_fits : SFits w64 target_moved
  target_moved_fits = rw target_moved_is (fits w64 33454080000000 (omega (arith, abs_add target-score (pos k *ℤ target), m.target_score_size, step_size)) tt)

  pub target_moved_read : to_z w64 (of_z w64 target_moved) ≡ target-score +ℤ pos k *ℤ target
  target_moved_read = to_z-of_z target_moved_fits ∙ target_moved_is

pub next_is : (x : State) {k : ℕ} {score own target : ℤ} → Steppable x k score own target → (p : Least) →
    {d : ℕ} → pos d ≡ moved_distance x.distance k score x.target_score own target →
    {a : ℤ} → a ≡ x.target_score +ℤ pos k *ℤ target → {z : ℤ} → z ≡ p.score →
    ◌≡◌ {A = State} (record { steps = x.steps + 1; weight = x.weight + k; distance = d; target_score = a; best = p.boat; least = z }) (next_state x k score own target p)
unfolding next_state
next_is x h p ed ea ez = rw (natural_pos ed, ea, ez)
