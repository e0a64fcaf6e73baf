-- Mixtures of rows that are all among other rows: the same total and the same sum of share times row, so the same squared distances.
use mathlib.Core.Path.{◌≡◌, refl, sym, ap, ap₂, ◌∙◌}
use mathlib.Core.List.{List, [], ◌∷◌}
use Prim.Native.Nat.{ℕ, ◌+◌, ◌≤◌}
use native.Mathlib.Omega.{arith}
use lib.ListN.{length, get_or, set, replicate, length-set, length-replicate}
use lib.IntN.{ℤ}
use Rattle.integers.proofs.Solver.{◌⊕◌, x₀, x₁, solve}
use Rattle.frank_wolfe.specs.Vectors.{add, scale, Among, here, there, sum, combination}
use Rattle.frank_wolfe.proofs.Vectors.{Wide, sum_zero, combination_zero, sum_set, combination_set}
use Rattle.method.specs.Problem.{Problem}
use Rattle.method.specs.Iterates.{mixture_distance}
use Rattle.method.specs.Fractions.{Fraction}
use Rattle.merged_book.specs.Mixtures.{SameMixture, MixturesOf, with_vertices, Reaches, Reachable}
use Rattle.merged_book.proofs.Rows.{place_of}

add_commutative : (x y : List ℤ) → add x y ≡ add y x
unfolding add
add_commutative [] [] = refl
add_commutative [] (b ∷ y) = refl
add_commutative (a ∷ x) [] = refl
add_commutative (a ∷ x) (b ∷ y) = ap₂ ◌∷◌ (solve (a ∷ b ∷ []) (x₀ ⊕ x₁) (x₁ ⊕ x₀) tt) (add_commutative x y)

module _ (c : ℕ) (ws : List (List ℤ)) (wide : Wide c ws) where
  -- share by share: each goes to a row of ws that is equal to its own
  pub mixtures_among : (vs : List (List ℤ)) → ((v : List ℤ) → Among vs v → Among ws v) → MixturesOf c vs ws
  unfolding sum combination
  mixtures_among vs f [] e =
      record { shares = replicate (length ws) 0; share_count = length-replicate (length ws) 0; total = sum_zero (length ws); point = combination_zero c ws wide }
  mixtures_among [] f (q ∷ qs) e = absurd (omega arith)
  mixtures_among (v ∷ vs) f (q ∷ qs) e =
      let m = mixtures_among vs (λ w a. f w (there a)) qs (omega arith) in
      let p = place_of (f v here) in
      let zs = m.shares in
      let h = m.share_count in
      let i = p.index in
      record {
        shares = set zs i (get_or zs i 0 + q);
        share_count = length-set zs i (get_or zs i 0 + q) ∙ h;
        total = sum_set zs i q (omega (arith, p.inside)) ∙ (omega (arith, m.total));
        point = sym (combination_set c zs ws i q h (omega (arith, p.inside))) ∙ rw (m.point, p.is) (add_commutative (combination c qs vs) (scale q v));
      }

-- ---- What is reached

module _ (p : Problem) (vs ws : List (List ℤ)) (m : MixturesOf p.columns vs ws) where
  -- the same squared distance with the same total
  pub same_distance : (qs : List ℕ) (e : length qs ≡ length vs) → mixture_distance (with_vertices ws p) (m qs e).shares ≡ mixture_distance (with_vertices vs p) qs
  unfolding mixture_distance
  same_distance qs e = rw ((m qs e).point, (m qs e).total)

  pub reaches_also : (q n : ℕ) → Reaches (with_vertices vs p) q n → Reaches (with_vertices ws p) q n
  reaches_also q n r =
      let s = m r.shares r.share_count in
      record {
        shares = s.shares;
        share_count = s.share_count;
        total = s.total ∙ r.total;
        some_share = r.some_share;
        distance = same_distance r.shares r.share_count ∙ r.distance;
      }

  pub reachable_also : (x : Fraction) → Reachable (with_vertices vs p) x → Reachable (with_vertices ws p) x
  reachable_also x r = record { q = r.q; n = r.n; reached = reaches_also r.q r.n r.reached; distance_is = r.distance_is }
