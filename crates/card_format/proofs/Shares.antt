-- Any shares of a total above zero, whether of the form t (t + 1) / 2 or not: the gap is not below 0, and how large E and G are.
use mathlib.Core.Path.{◌≡◌, sym, ap, ◌∙◌}
use mathlib.Core.List.{List, [], ◌∷◌}
use Prim.Native.Nat.{ℕ, ◌*◌, ◌≤◌, ◌<◌}
use native.Mathlib.Nat.{le_refl, le_trans, mul-le-mul, mul-le-mul_right, lt_of_le_of_lt}
use native.Mathlib.Omega.{arith}
use lib.Dec.{lit<}
use lib.IntN.{ℤ, pos, nat_abs, ◌-ℤ◌, ◌*ℤ◌}
use lib.ListN.{length}
use lib.Signed.{◌≤ℤ◌}
use Rattle.integers.proofs.Solver.{con, ◌⊗◌, ◌⊝◌, x₀, x₁, x₂, x₃}
use Rattle.integers.proofs.Order.{≤→≤ℤ}
use Rattle.integers.proofs.Facts.{◌≼◌, known, ◌⊡◌, derive}
use Rattle.frank_wolfe.specs.Method.{Gap}
use Rattle.frank_wolfe.specs.Vectors.{subtract, scale, weighted, sum, combination, Among}
use Rattle.frank_wolfe.proofs.Vectors.{factored, mixture_is, length_combination}
use Rattle.frank_wolfe.proofs.Theorem.{frank_wolfe}
use Rattle.files.specs.Book.{rows}
use Rattle.files.proofs.Accepted.{files_accepted}
use Rattle.files.specs.Limits.{total_limit, sum_limit}
use Rattle.method.specs.Problem.{Problem, plain_terms, call_problem}
use Rattle.method.specs.Iterates.{row, scores, argmin, mixture_distance}
use Rattle.method.specs.Minimum.{minimum}
use Rattle.method.proofs.Argmin.{argmin_below, among_row, least_score, minimum_least, inner_gap, maximum_by_minimum}
use Rattle.method.proofs.Entries.{Bounded, bounded_mono, bounded_subtract, bounded_scale, bounded_combination, weighted_bound, weighted_norm_bound}
use Rattle.method.proofs.Mixtures.{WellFormed, InRange}
use Rattle.method.proofs.Accepted.{well_formed, in_range}
use Rattle.card_format.specs.Truth.{mixture_gap, SharesFit}

module _ {p : Problem} (h : WellFormed p) (f : InRange p) (qs : List ℕ) (count : length qs ≡ length p.vertices) (some : 1 ≤ sum qs) where
  abbrev fs : List ℕ
  fs = p.factors

  abbrev rs : List (List ℤ)
  rs = p.vertices

  abbrev y : List ℤ
  y = combination p.columns qs p.vertices

  abbrev r : List ℤ
  r = subtract y (scale (sum qs) p.target)

  point_length : length y ≡ p.columns
  point_length = length_combination p.columns qs p.vertices h.wide

  -- N² times the gap is <r, y> - N min <r, v>
  by_least : mixture_gap p qs ≡ weighted fs r y -ℤ pos (sum qs) *ℤ minimum (scores fs r rs)
  unfolding mixture_gap
  by_least = maximum_by_minimum fs r y (sum qs) rs some h.some_row (rw point_length h.wide)

  gap_over : Gap (factored fs) (Among rs) y (pos (sum qs)) r (mixture_gap p qs)
  gap_over =
      record {
        over = λ v a.
            rw by_least
            (derive (weighted fs r y ∷ pos (sum qs) ∷ weighted fs r v ∷ minimum (scores fs r rs) ∷ []) (x₀ ⊝ x₁ ⊗ x₂ ≼ x₀ ⊝ x₁ ⊗ x₃)
            (known (x₃ ≼ x₂) (minimum_least fs r a) ⊡ known (con (pos 0) ≼ x₁) (≤→≤ℤ (omega arith))) tt);
      }

  pub gap_nonnegative : pos 0 ≤ℤ mixture_gap p qs
  gap_nonnegative = (frank_wolfe (factored fs) (Among rs) p.target).gap_nonnegative some (mixture_is fs p.columns qs rs count h.wide) gap_over

  difference_bounded : (v : List ℤ) → Bounded 2000 v → Bounded (4000 * sum qs) (subtract y (scale (sum qs) v))
  difference_bounded v b =
      bounded_mono (bounded_subtract (bounded_combination 2000 p.columns qs rs f.rows_bounded) (bounded_scale (sum qs) b)) (omega arith)

  residual_bounded : Bounded (4000 * sum qs) r
  residual_bounded = difference_bounded p.target f.target_bounded

  -- factors of a total of 64 at most, each times a product of two such entries
  most : (a : ℕ) → a ≤ sum p.factors * (4000 * sum qs * (4000 * sum qs)) → a ≤ 1024000000 * (sum qs * sum qs)
  most a k = le_trans k (le_trans (mul-le-mul_right (4000 * sum qs * (4000 * sum qs)) f.few_factors) (omega arith))

  pub distance_most : mixture_distance p qs ≤ 1024000000 * (sum qs * sum qs)
  unfolding mixture_distance
  distance_most = most _ (weighted_norm_bound fs (4000 * sum qs) r residual_bounded)

  pub gap_most : nat_abs (mixture_gap p qs) ≤ 1024000000 * (sum qs * sum qs)
  gap_most =
      let s = row rs (argmin (scores fs r rs)) in
      let a : Among rs s = among_row rs (argmin (scores fs r rs)) (argmin_below fs r rs h.some_row) in
      let e : mixture_gap p qs ≡ weighted fs r (subtract y (scale (sum qs) s)) =
      by_least ∙ ap (λ q. weighted fs r y -ℤ pos (sum qs) *ℤ q) (sym (least_score fs r rs)) ∙ sym (inner_gap fs r y (sum qs) s (h.wide.each s a ∙ sym point_length)) in
      rw e (most _ (weighted_bound fs (4000 * sum qs) (4000 * sum qs) r _ residual_bounded (difference_bounded s (f.rows_bounded s a))))

fits : (n a : ℕ) → n ≤ total_limit → a ≤ 1024000000 * (n * n) → a < sum_limit
fits n a h k = lt_of_le_of_lt (le_trans k (mul-le-mul (le_refl 1024000000) (mul-le-mul h h))) (lit< tt)

pub shares_fit : SharesFit
unfolding SharesFit call_problem
shares_fit b s qs ok count some =
    let p = well_formed plain_terms b s ok in
    let f = in_range plain_terms b s ok in
    let e : length qs ≡ length (rows b) = count ∙ sym (files_accepted b s ok).0.row_count in
    (gap_nonnegative p f qs e some, λ h. (fits (sum qs) _ h (distance_most p f qs e some), fits (sum qs) _ h (gap_most p f qs e some)))
