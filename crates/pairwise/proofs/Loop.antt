-- For code: one turn of the moves, the residual of a problem's steps is that of the shares, and how large slope and squared distance are.
use mathlib.Core.Path.{◌≡◌, refl, sym, ap}
use mathlib.Core.List.{List}
use Prim.Native.Nat.{ℕ, zero, suc, ◌+◌, ◌*◌, ◌≤◌, ◌<◌}
use native.Mathlib.Nat.{le_trans, mul-le-mul_right}
use native.Mathlib.Omega.{arith}
use borrow.Author.Tests.{eq-eqb, ne_eqb}
use lib.IntN.{nat_abs}
use lib.ListN.{length}
use Rattle.integers.proofs.Bounds.{abs_sub}
use Rattle.frank_wolfe.specs.Vectors.{subtract, weighted, sum}
use Rattle.method.specs.Problem.{Problem, weight}
use Rattle.method.specs.Iterates.{residual, row}
use Rattle.method.specs.Bounds.{mixture_iterate}
use Rattle.method.proofs.Argmin.{among_row}
use Rattle.method.proofs.Entries.{Bounded, bounded_mono, bounded_subtract, weighted_norm_bound}
use Rattle.method.proofs.Shares.{shares_mixed}
use Rattle.method.proofs.Mixtures.{WellFormed, InRange, score_most}
use Rattle.pairwise.specs.Moves.{shares_residual, giver, taker, slope, apart, amount, moved, moves, moves_made}
use Rattle.pairwise.proofs.Moves.{gives, takes, slope_difference}

-- ---- The moves

pub moves_stop : (p : Problem) (n : ℕ) (qs : List ℕ) → amount p qs ≡ 0 → (moves n p qs ≡ qs) × (moves_made n p qs ≡ 0)
unfolding moves moves_made
moves_stop p zero qs e = (refl, refl)
moves_stop p (suc n) qs e = rw (eq-eqb (amount p qs) 0 e) (refl, refl)

pub moves_next : (p : Problem) (n : ℕ) (qs : List ℕ) → 1 ≤ amount p qs → (moves (suc n) p qs ≡ moves n p (moved p qs)) × (moves_made (suc n) p qs ≡ suc (moves_made n p (moved p qs)))
unfolding moves moves_made
moves_next p n qs h = rw (ne_eqb (amount p qs) 0 (λ e. omega arith)) (refl, refl)

-- ---- The residual, and the sizes

pub residual_same : (p : Problem) (t : ℕ) (qs : List ℕ) → sum qs ≡ weight p.schedule t → shares_residual p qs ≡ residual p t (mixture_iterate p qs)
unfolding shares_residual residual
residual_same p t qs e = rw e

module _ {p : Problem} (h : WellFormed p) (f : InRange p) (t : ℕ) (qs : List ℕ) (count : length qs ≡ length p.vertices) (total : sum qs ≡ weight p.schedule t) (some : 1 ≤ sum qs) where
  bounded : (i : ℕ) → i < length qs → Bounded 2000 (row p.vertices i)
  bounded i l = f.rows_bounded (row p.vertices i) (among_row p.vertices i (rw (sym count) l))

  -- a score is at most 512,000,000 W
  pub score_fits : (i : ℕ) → i < length qs → nat_abs (weighted p.factors (shares_residual p qs) (row p.vertices i)) ≤ 512000000 * sum qs
  score_fits i l = rw (residual_same p t qs total, total) (score_most h f (shares_mixed p t qs count total) (row p.vertices i) (bounded i l))

  -- the slope is at most 1,024,000,000 W, below 2^46
  pub slope_most : slope p qs ≤ 1024000000 * sum qs
  slope_most =
      let a = weighted p.factors (shares_residual p qs) (row p.vertices (giver p qs)) in
      let b = weighted p.factors (shares_residual p qs) (row p.vertices (taker p qs)) in
      let k : slope p qs ≤ nat_abs a + nat_abs b = rw (ap nat_abs (slope_difference h qs count some)) at (abs_sub a b) in
      omega (arith, score_fits (giver p qs) (gives h qs count some).in_list, score_fits (taker p qs) (takes h qs count some).in_list)

  -- the squared distance at most 1,024,000,000
  pub apart_most : apart p qs ≤ 1024000000
  unfolding apart
  apart_most =
      let v = row p.vertices (giver p qs) in
      let s = row p.vertices (taker p qs) in
      le_trans
      (weighted_norm_bound p.factors 4000 (subtract v s)
      (bounded_mono (bounded_subtract (bounded (giver p qs) (gives h qs count some).in_list) (bounded (taker p qs) (takes h qs count some).in_list)) (omega arith)))
      (le_trans (mul-le-mul_right (4000 * 4000) f.few_factors) (omega arith))
