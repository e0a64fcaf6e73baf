-- What the leaf functions require and give, in terms of an accepted fleet book b and sheet s, and that states hold what they are to hold. Assumes nothing.
use mathlib.Core.Path.{◌≡◌, refl, sym, ap, ap₂, ◌∙◌}
use mathlib.Core.List.{List, [], ◌∷◌, ◌++◌}
use Prim.Native.Nat.{ℕ, zero, suc, ◌+◌, ◌*◌, ◌-◌, ◌≤◌, ◌<◌}
use native.Mathlib.Nat.{suc-mul, mul-le-mul_right, le_refl, lt_of_le_of_lt}
use native.Mathlib.Omega.{arith}
use lib.IntN.{ℤ, pos, nat_abs, ◌+ℤ◌, ◌-ℤ◌, ◌*ℤ◌, +ℤ_idl}
use lib.ListN.{length, get_or, take, drop, set, replicate}
use lib.Seq.{take_at, drop_at, get_or-take}
use Rattle.integers.proofs.Solver.{con, ◌⊕◌, ◌⊗◌, ◌⊝◌, x₀, x₁, x₂, x₃, x₄, x₅, solve}
use Rattle.integers.proofs.Order.{≤→≤ℤ}
use Rattle.integers.proofs.Bounds.{read}
use mir.Syntax.{w32, w64}
use mir.Val.{to_z, of_z}
use Rattle.files.specs.Bytes.{values}
use Rattle.files.specs.Book.{boats, columns, rows, rows_from, rows_offset}
use Rattle.files.specs.Sheet.{sheet, target_offset, files_refusal}
use Rattle.files.specs.Fits.{BookFits, SheetFits}
use Rattle.files.proofs.Accepted.{files_accepted}
use Rattle.files.proofs.Access.{rows_at, row_at, target_at}
use Rattle.files.specs.Limits.{step_limit, total_limit, entry_limit}
use Rattle.frank_wolfe.specs.Vectors.{add, subtract, scale, weighted, weighted_norm, ones, sum}
use Rattle.frank_wolfe.proofs.Vectors.{length_scale, length_subtract, weighted_symmetric, weighted_add, weighted_subtract, weighted_scale, weighted_zero, norm_weighted}
use Rattle.method.specs.Problem.{Schedule, share, weight}
use Rattle.method.specs.Plain.{plain_problem}
use Rattle.method.specs.Iterates as M
use Rattle.method.specs.Iterates.{iterate, direction, active_argmin, pick, with_shares, step, start, row, residual, distance, natural}
use Rattle.method.proofs.Weights.{weight_zero, weight_suc, weight_fits}
use Rattle.method.proofs.Schedules.{ScheduleSized, fixed_sized}
use Rattle.method.proofs.Argmin.{argmin_at, among_row, score_at, length_scores}
use Rattle.method.proofs.Picks.{active_none, pick_below}
use Rattle.method.proofs.Entries as E
use Rattle.method.proofs.Shares.{residual_step, residual_start}
use Rattle.method.proofs.Mixtures.{score_most, distance_most}
use Rattle.method.proofs.Plain.{well_formed, in_range, mixed, few_ones, residual_length}
use Rattle.sums.specs.Operands.{Bounded, Span, Grid, Movable, RowsBounded, Rescorable}
use Rattle.scoring.specs.Scores.{least_of, pick_of}
use Rattle.scoring.specs.declared.Least.{Least}
use Rattle.iteration.specs.declared.State.{State}
use Rattle.iteration.specs.States.{iterate_of, scores_of, boat_difference, boat_products, target_product, Holds}
use Rattle.iteration.specs.Moves.{moved_distance, next_state, Steppable}

-- ---- Scores are linear in the vector that they are taken with

pub scores_zero : (fs : List ℕ) (c : ℕ) (rs : List (List ℤ)) → M.scores fs (replicate c (pos 0)) rs ≡ replicate (length rs) (pos 0)
unfolding M.scores
scores_zero fs c [] = refl
scores_zero fs c (v ∷ rs) = ap₂ (λ p q. p ∷ q) (weighted_symmetric fs (replicate c (pos 0)) v ∙ weighted_zero fs v c) (scores_zero fs c rs)

-- <r + k d, x> = <r, x> + k <d, x>
weighted_moved : (fs : List ℕ) (r d : List ℤ) (k : ℕ) (x : List ℤ) → length r ≡ length d → weighted fs (add r (scale k d)) x ≡ weighted fs r x +ℤ pos k *ℤ weighted fs d x
weighted_moved fs r d k x e =
    weighted_symmetric fs (add r (scale k d)) x ∙ weighted_add fs x r (scale k d) (e ∙ sym (length_scale k d))
    ∙ ap₂ (λ p q. p +ℤ q) (weighted_symmetric fs x r) (weighted_scale fs x k d ∙ ap (λ p. pos k *ℤ p) (weighted_symmetric fs x d))

-- <r + k d, r + k d>, where d = v - u
norm_moved : (fs : List ℕ) (r v u : List ℤ) (k : ℕ) → length r ≡ length v → length v ≡ length u →
    moved_distance (weighted_norm fs r) k (weighted fs r v) (weighted fs r u) (weighted fs (subtract v u) v) (weighted fs (subtract v u) u) ≡ pos (weighted_norm fs (add r (scale k (subtract v u))))
unfolding moved_distance
norm_moved fs r v u k e f =
    let d = subtract v u in
    let n = add r (scale k (subtract v u)) in
    let long : length r ≡ length (subtract v u) = e ∙ sym (length_subtract v u f) in
    let rd : weighted fs r (subtract v u) ≡ weighted fs r v -ℤ weighted fs r u = weighted_subtract fs r v u f in
    let dd : weighted fs (subtract v u) (subtract v u) ≡ weighted fs (subtract v u) v -ℤ weighted fs (subtract v u) u = weighted_subtract fs (subtract v u) v u f in
    let rn : weighted fs n r ≡ pos (weighted_norm fs r) +ℤ pos k *ℤ (weighted fs r v -ℤ weighted fs r u) =
    weighted_moved fs r d k r long ∙ ap₂ (λ p q. p +ℤ pos k *ℤ q) (sym (norm_weighted fs r)) (weighted_symmetric fs d r ∙ rd) in
    let dn : weighted fs n d ≡ (weighted fs r v -ℤ weighted fs r u) +ℤ pos k *ℤ (weighted fs d v -ℤ weighted fs d u) =
    weighted_moved fs r d k d long ∙ ap₂ (λ p q. p +ℤ pos k *ℤ q) rd dd in
    solve (pos (weighted_norm fs r) ∷ pos k ∷ weighted fs r v ∷ weighted fs r u ∷ weighted fs d v ∷ weighted fs d u ∷ [])
    (x₀ ⊕ x₁ ⊗ (con (pos 2) ⊗ (x₂ ⊝ x₃) ⊕ x₁ ⊗ (x₄ ⊝ x₅))) (x₀ ⊕ x₁ ⊗ (x₂ ⊝ x₃) ⊕ x₁ ⊗ (x₂ ⊝ x₃ ⊕ x₁ ⊗ (x₄ ⊝ x₅))) tt
    ∙ sym (norm_weighted fs n ∙ weighted_symmetric fs n n ∙ weighted_moved fs r d k n long
    ∙ ap₂ (λ p q. p +ℤ pos k *ℤ q) (weighted_symmetric fs r n ∙ rn) (weighted_symmetric fs d n ∙ dn))

scores_add : (fs : List ℕ) (r d : List ℤ) (k : ℕ) (rs : List (List ℤ)) → length r ≡ length d → M.scores fs (add r (scale k d)) rs ≡ add (M.scores fs r rs) (scale k (M.scores fs d rs))
unfolding M.scores add scale
scores_add fs r d k [] e = refl
scores_add fs r d k (v ∷ rs) e =
    ap₂ (λ p q. p ∷ q) (weighted_moved fs r d k v e) (scores_add fs r d k rs e)

norm_zero : (fs : List ℕ) (c : ℕ) → weighted_norm fs (replicate c (pos 0)) ≡ 0
unfolding weighted_norm
norm_zero [] c = refl
norm_zero (f ∷ fs) zero = refl
norm_zero (f ∷ fs) (suc c) = let h : weighted_norm fs (replicate c (pos 0)) ≡ 0 = norm_zero fs c in omega arith

pub zeros_add : (n : ℕ) (ps : List ℤ) → length ps ≡ n → add (replicate n (pos 0)) ps ≡ ps
unfolding add
zeros_add n [] e = rw (← e)
zeros_add zero (p ∷ ps) e = absurd (omega arith)
zeros_add (suc n) (p ∷ ps) e = ap₂ (λ q l. q ∷ l) (+ℤ_idl p) (zeros_add n ps (omega arith))

module _ (b s : List ℕ) (ok : files_refusal b s ≡ 0) where
  pub book_fits : BookFits b
  book_fits = (files_accepted b s ok).0

  pub sheet_fits : SheetFits (columns b) s
  sheet_fits = (files_accepted b s ok).1

  -- ---- The files

  row_end : (i : ℕ) → i < boats b → rows_offset b + 2 * (i * columns b) + 2 * columns b ≤ length b
  row_end i h = omega (arith, mul-le-mul_right (columns b) h, suc-mul i (columns b), book_fits.whole)

  pub row_span : (i : ℕ) → i < boats b → Span b (rows_offset b + 2 * (i * columns b)) (columns b)
  row_span i h = record { few_columns = book_fits.most_columns; inside = row_end i h }

  pub target_span : Span s (target_offset s) (columns b)
  target_span = record { few_columns = book_fits.most_columns; inside = omega (arith, sheet_fits.whole, sheet_fits.same_columns) }

  pub grid : Grid b (rows_offset b) (boats b) (columns b)
  grid = record { some_boats = book_fits.some_boats; few_boats = book_fits.most_boats; few_columns = book_fits.most_columns; inside = omega (arith, book_fits.whole) }

  pub row_is : (i : ℕ) → i < boats b → values (columns b) (drop (rows_offset b + 2 * (i * columns b)) b) ≡ row (rows b) i
  unfolding row
  row_is i h = sym (row_at b i h)

  pub target_is : values (columns b) (drop (target_offset s) s) ≡ (sheet s).target
  target_is = rw (target_at s, sheet_fits.same_columns)

  row_bounded : (i : ℕ) → i < boats b → Bounded 2000 (columns b) (row (rows b) i)
  unfolding row
  row_bounded i h = record { long = omega (arith, book_fits.row_length i h); each = λ j k. book_fits.entry_bound i j }

  target_bounded : Bounded 2000 (columns b) (sheet s).target
  target_bounded = record { long = omega (arith, sheet_fits.target_length); each = λ j k. sheet_fits.target_bound j }

  -- ---- A step

  pub movable : (r : List ℤ) (i k : ℕ) → i < boats b → k ≤ total_limit → ((j : ℕ) → j < columns b → nat_abs (get_or r j (pos 0)) + 4000 * k ≤ entry_limit) →
      Movable r (values (columns b) (drop (rows_offset b + 2 * (i * columns b)) b)) (values (columns b) (drop (target_offset s) s)) (columns b) k
  movable r i k h hk room =
      rw (row_is i h, target_is) (record { few_shares = hk; row_range = row_bounded i h; target_range = target_bounded; room = room })

  pub length_difference : (i : ℕ) → i < boats b → length (subtract (row (rows b) i) (sheet s).target) ≡ columns b
  unfolding row
  length_difference i h = length_subtract (row (rows b) i) (sheet s).target (book_fits.row_length i h ∙ sym sheet_fits.target_length) ∙ book_fits.row_length i h

  -- a moved residual, whose entries r stand before the slots z that are not used
  pub moved_is : (r z : List ℤ) {old new : List ℤ} (i k : ℕ) → i < boats b → length r ≡ columns b → old ≡ r ++ z →
      new ≡ add (take (columns b) old) (scale k (subtract (values (columns b) (drop (rows_offset b + 2 * (i * columns b)) b)) (values (columns b) (drop (target_offset s) s)))) ++ drop (columns b) old →
      new ≡ add r (scale k (subtract (row (rows b) i) (sheet s).target)) ++ z
  moved_is r z i k h l eo en = en ∙ rw (eo, take_at r z (columns b) l, drop_at r z (columns b) l, row_is i h, target_is)

  -- a list whose first entries are bounded
  pub bounded_front : (m : ℕ) (x y : List ℤ) → length x ≡ 64 → take (columns b) x ≡ y → ((j : ℕ) → nat_abs (get_or y j (pos 0)) ≤ m) → m ≤ entry_limit → Bounded entry_limit (columns b) x
  bounded_front m x y l e f h =
      record {
        long = omega (arith, book_fits.most_columns);
        each = λ j k. let p : get_or x j (pos 0) ≡ get_or y j (pos 0) = sym (get_or-take (columns b) x j (pos 0) k) ∙ ap (λ (z : List ℤ). get_or z j (pos 0)) e in rw p (omega (arith, f j));
      }

  -- ---- Products

  difference_bounded : (i : ℕ) → i < boats b → (j : ℕ) → nat_abs (get_or (subtract (row (rows b) i) (sheet s).target) j (pos 0)) ≤ 4000
  unfolding plain_problem
  difference_bounded i h =
      (E.bounded_subtract ((in_range b s ok fixed_sized).rows_bounded (row (rows b) i) (among_row (rows b) i (omega (arith, book_fits.row_count)))) (in_range b s ok fixed_sized).target_bounded).each

  pub differable : (i : ℕ) → i < boats b →
      Bounded 2000 (columns b) (values (columns b) (drop (rows_offset b + 2 * (i * columns b)) b)) × Bounded 2000 (columns b) (values (columns b) (drop (target_offset s) s))
  differable i h = rw (row_is i h, target_is) (row_bounded i h, target_bounded)

  pub difference_is : (i : ℕ) → i < boats b → subtract (values (columns b) (drop (rows_offset b + 2 * (i * columns b)) b)) (values (columns b) (drop (target_offset s) s)) ≡ boat_difference b s i
  difference_is i h = rw (row_is i h, target_is)

  -- a list that starts with a boat's row less the target
  pub difference_front : (i : ℕ) → i < boats b → (d : List ℤ) → length d ≡ 64 → take (columns b) d ≡ boat_difference b s i → Bounded 4000 (columns b) d
  difference_front i h d l e =
      record {
        long = omega (arith, book_fits.most_columns);
        each = λ j k.
            let p : get_or d j (pos 0) ≡ get_or (boat_difference b s i) j (pos 0) = sym (get_or-take (columns b) d j (pos 0) k) ∙ ap (λ (z : List ℤ). get_or z j (pos 0)) e in
            rw p (difference_bounded i h j);
      }

  pub rows_bounded : RowsBounded (rows_from (boats b) (columns b) (drop (rows_offset b) b)) (columns b)
  unfolding row
  rows_bounded = rw (← rows_at b) (record { each_row = λ i h. row_bounded i (omega (arith, book_fits.row_count)) })

  pub products_are : (i : ℕ) (d : List ℤ) → take (columns b) d ≡ boat_difference b s i → M.scores (ones (columns b)) (take (columns b) d) (rows_from (boats b) (columns b) (drop (rows_offset b) b)) ≡ boat_products b s i
  products_are i d e = rw (e, ← rows_at b)

  pub product_count : (i : ℕ) → length (boat_products b s i) ≡ boats b
  product_count i = length_scores (ones (columns b)) (subtract (row (rows b) i) (sheet s).target) (rows b) ∙ book_fits.row_count

  pub product_size : (i : ℕ) → i < boats b → (q : ℕ) → q < boats b → nat_abs (get_or (boat_products b s i) q (pos 0)) ≤ 512000000
  unfolding plain_problem
  product_size i h q k =
      let f = in_range b s ok fixed_sized in
      let m : nat_abs (weighted (ones (columns b)) (subtract (row (rows b) i) (sheet s).target) (row (rows b) q)) ≤ sum (ones (columns b)) * (4000 * 2000) =
      E.weighted_bound (ones (columns b)) 4000 2000 (subtract (row (rows b) i) (sheet s).target) (row (rows b) q) (record { each = difference_bounded i h }) (f.rows_bounded _ (among_row (rows b) q (omega (arith, book_fits.row_count)))) in
      rw (score_at (ones (columns b)) (subtract (row (rows b) i) (sheet s).target) (rows b) q) (omega (arith, m, few_ones b s ok))

  -- scores of at most 512,000,000 × 64,980, moved by k times a boat's products
  pub rescorable : (k i : ℕ) {sc ps : List ℤ} → i < boats b → boats b ≤ length sc → boats b ≤ length ps → take (boats b) ps ≡ boat_products b s i → k ≤ total_limit →
      ((q : ℕ) → q < boats b → nat_abs (get_or sc q (pos 0)) ≤ 33269760000000) → Rescorable sc k ps (boats b)
  rescorable k i {sc} {ps} h ls lp e hk f =
      record {
        some_boats = book_fits.some_boats;
        in_scores = ls;
        in_products = lp;
        each = λ q g. record {
          few_shares = hk;
          score_size = f q g;
          product_size = rw (← get_or-take (boats b) ps q (pos 0) g, e) (product_size i h q g);
        };
      }

  -- ---- The fresh state, whatever shares are to come

  module _ (a : Schedule) where
    pub fresh_holds : {p : Least} → p ≡ least_of (boat_products b s 0) → {z : ℤ} → z ≡ p.score → Holds a b s 0 (record { steps = 0; weight = 0; distance = 0; target_score = pos 0; best = p.boat; least = z })
    unfolding plain_problem iterate start direction pick active_argmin least_of distance
    fresh_holds e ez =
        let z : residual (plain_problem a b s) 0 (start (plain_problem a b s)) ≡ replicate (columns b) (pos 0) = residual_start (plain_problem a b s) sheet_fits.target_length in
        record {
          steps_are = refl;
          weight_is = sym (weight_zero a);
          distance_is = rw z (sym (norm_zero (ones (columns b)) (columns b)));
          target_score_is = rw z (sym (weighted_symmetric (ones (columns b)) (replicate (columns b) (pos 0)) (sheet s).target ∙ weighted_zero (ones (columns b)) (sheet s).target (columns b)));
          best_is = ap (λ (x : Least). x.boat) e ∙ sym (active_none 0 _ _ (length (rows b)) _);
          least_is = ez ∙ ap (λ (x : Least). x.score) e ∙ argmin_at (boat_products b s 0);
        }

  module _ {a : Schedule} (S : ScheduleSized a) where
    -- ---- The next state

    pub best_below : {t : ℕ} {x : State} → Holds a b s t x → x.best < boats b
    unfolding plain_problem
    best_below {t} H =
        rw H.best_is
        (rw book_fits.row_count at (pick_below (plain_problem a b s) (direction (plain_problem a b s) t (iterate_of a b s t)) (iterate_of a b s t) (omega (arith, book_fits.row_count, book_fits.some_boats))))

    target_size : (i : ℕ) → i < boats b → nat_abs (target_product b s i) ≤ 512000000
    unfolding plain_problem
    target_size i h =
        let m : nat_abs (weighted (ones (columns b)) (subtract (row (rows b) i) (sheet s).target) (sheet s).target) ≤ sum (ones (columns b)) * (4000 * 2000) =
        E.weighted_bound (ones (columns b)) 4000 2000 (subtract (row (rows b) i) (sheet s).target) (sheet s).target (record { each = difference_bounded i h }) (in_range b s ok S).target_bounded in
        omega (arith, m, few_ones b s ok)

    -- r' = r + k (v - u)
    pub residual_next : {t : ℕ} {x : State} → Holds a b s t x →
        residual (plain_problem a b s) (suc t) (iterate_of a b s (suc t)) ≡ add (residual (plain_problem a b s) t (iterate_of a b s t)) (scale (share a t) (boat_difference b s x.best))
    unfolding plain_problem share iterate
    residual_next {t} H = rw H.best_is (residual_step (plain_problem a b s) t (direction (plain_problem a b s) t (iterate_of a b s t)) (iterate_of a b s t))

    -- a step from t steps, of the boat picked, with its score and its products
    module _ {t : ℕ} {x : State} (H : Holds a b s t x) {score own target : ℤ}
        (es : score ≡ weighted (ones (columns b)) (residual (plain_problem a b s) t (iterate_of a b s t)) (row (rows b) x.best))
        (eo : own ≡ get_or (boat_products b s x.best) x.best (pos 0)) (et : target ≡ target_product b s x.best) where
      abbrev r : List ℤ
      r = residual (plain_problem a b s) t (iterate_of a b s t)

      row_long : length (row (rows b) x.best) ≡ columns b
      unfolding row
      row_long = book_fits.row_length x.best (best_below H)

      distance_next : moved_distance x.distance (share a t) score x.target_score own target ≡ pos (distance (plain_problem a b s) (suc t) (iterate_of a b s (suc t)))
      unfolding plain_problem distance
      distance_next =
          rw (H.distance_is, H.target_score_is, es, eo, et, score_at (ones (columns b)) (boat_difference b s x.best) (rows b) x.best, residual_next H)
          (norm_moved (ones (columns b)) r (row (rows b) x.best) (sheet s).target (share a t) (residual_length b s ok S t ∙ sym row_long) (row_long ∙ sym sheet_fits.target_length))

      target_score_next : x.target_score +ℤ pos (share a t) *ℤ target ≡ weighted (ones (columns b)) (residual (plain_problem a b s) (suc t) (iterate_of a b s (suc t))) (sheet s).target
      target_score_next =
          rw (H.target_score_is, et, residual_next H)
          (sym (weighted_moved (ones (columns b)) r (boat_difference b s x.best) (share a t) (sheet s).target (residual_length b s ok S t ∙ sym (length_difference x.best (best_below H)))))

      module _ (few : t < step_limit) where
        sized : Steppable x (share a t) score own target
        unfolding plain_problem
        sized =
            let m = score_most (well_formed b s ok S) (in_range b s ok S) (mixed b s ok S t) in
            let w : weight a t ≤ total_limit = S.most_total t (omega arith) in
            record {
              few_shares = rw H.weight_is w;
              moves = record {
                distance = rw H.distance_is (lt_of_le_of_lt (distance_most (well_formed b s ok S) (in_range b s ok S) (mixed b s ok S t)) (weight_fits w (le_refl 1024000000)));
                score_size = rw es (omega (arith, m (row (rows b) x.best) ((in_range b s ok S).rows_bounded _ (among_row (rows b) x.best (omega (arith, book_fits.row_count, best_below H))))));
                target_score_size = rw H.target_score_is (omega (arith, m (sheet s).target (in_range b s ok S).target_bounded));
                own_size = rw eo (product_size x.best (best_below H) x.best (best_below H));
                target_size = rw et (target_size x.best (best_below H));
                sign = rw distance_next (≤→≤ℤ {m = 0} {n = distance (plain_problem a b s) (suc t) (iterate_of a b s (suc t))} (omega arith));
              };
            }

        -- as `next` reads them
        score_read : to_z w64 (of_z w64 score) ≡ score
        score_read = read w64 33269760000000 sized.moves.score_size tt

        own_read : to_z w32 (of_z w32 own) ≡ own
        own_read = read w32 512000000 sized.moves.own_size tt

        target_read : to_z w32 (of_z w32 target) ≡ target
        target_read = read w32 512000000 sized.moves.target_size tt

        pub steppable : Steppable x (share a t) (to_z w64 (of_z w64 score)) (to_z w32 (of_z w32 own)) (to_z w32 (of_z w32 target))
        steppable = rw (score_read, own_read, target_read) sized

        pub next_holds : {p : Least} → p ≡ pick_of (iterate_of a b s (suc t)).shares (scores_of a b s (suc t)) →
            {y : State} → y ≡ next_state x (share a t) (to_z w64 (of_z w64 score)) (to_z w32 (of_z w32 own)) (to_z w32 (of_z w32 target)) p → Holds a b s (suc t) y
        unfolding plain_problem pick pick_of next_state natural
        next_holds {p} ep {y} ey =
            let k : x.steps + 1 ≡ suc t = omega (arith, H.steps_are) in
            let f : y ≡ next_state x (share a t) score own target p = rw (score_read, own_read, target_read) at ey in
            rw f
            (record {
              steps_are = k;
              weight_is = rw H.weight_is (sym (weight_suc a t));
              distance_is = ap natural distance_next;
              target_score_is = target_score_next;
              best_is = ap (λ (y : Least). y.boat) ep;
              least_is = ap (λ (y : Least). y.score) ep;
            })

    -- the shares of the next iterate
    pub next_shares : {t : ℕ} {x : State} → Holds a b s t x → set (iterate_of a b s t).shares x.best (get_or (iterate_of a b s t).shares x.best 0 + share a t) ≡ (iterate_of a b s (suc t)).shares
    unfolding plain_problem iterate step with_shares
    next_shares H = rw H.best_is

    -- the scores move with the residual
    pub next_scores : {t : ℕ} {x : State} → Holds a b s t x →
        add (M.scores (ones (columns b)) (residual (plain_problem a b s) t (iterate_of a b s t)) (rows b)) (scale (share a t) (boat_products b s x.best)) ≡ scores_of a b s (suc t)
    unfolding direction
    next_scores {t} {x} H =
        sym (scores_add (ones (columns b)) (residual (plain_problem a b s) t (iterate_of a b s t)) (boat_difference b s x.best) (share a t) (rows b)
        (residual_length b s ok S t ∙ sym (length_difference x.best (best_below H))))
        ∙ ap (λ r. M.scores (ones (columns b)) r (rows b)) (sym (residual_next H))

    -- at the first step they are the boat's products, times the first share
    pub first_scores : {x : State} → Holds a b s 0 x → scale (share a 0) (boat_products b s x.best) ≡ scores_of a b s 1
    unfolding plain_problem iterate start
    first_scores {x} H =
        let z : M.scores (ones (columns b)) (residual (plain_problem a b s) 0 (iterate_of a b s 0)) (rows b) ≡ replicate (boats b) (pos 0) =
        rw (residual_start (plain_problem a b s) sheet_fits.target_length, scores_zero (ones (columns b)) (columns b) (rows b), book_fits.row_count) in
        sym (zeros_add (boats b) (scale (share a 0) (boat_products b s x.best)) (length_scale (share a 0) (boat_products b s x.best) ∙ product_count x.best)) ∙ rw (← z) (next_scores H)
