-- The residual of some shares, boat by boat: the sum of share × (row - target).
use mathlib.Core.Path.{◌≡◌, refl, sym, ap, ap₂, ◌∙◌}
use mathlib.Core.List.{List, [], ◌∷◌, ◌++◌}
use Prim.Native.Nat.{ℕ, zero, suc, ◌+◌, ◌*◌, ◌≤◌, ◌<◌}
use native.Mathlib.Omega.{arith}
use native.Mathlib.Numerals.{add-one}
use lib.IntN.{ℤ, pos, nat_abs}
use lib.ListN.{length, get_or, take, drop, replicate, length-replicate, drop_of_length-le, take-append-drop}
use lib.Seq.{drop-cons, get_or-take, length-take-le, take_at}
use mir.Syntax.{w64}
use mir.Val.{Fits}
use Rattle.integers.proofs.Solver.{con, ◌⊕◌, ◌⊗◌, ◌⊝◌, x₀, x₁, x₂, x₃, x₄, solve}
use Rattle.frank_wolfe.specs.Vectors.{add, subtract, scale, sum, combination, here}
use Rattle.frank_wolfe.proofs.Vectors.{Wide, wide_rest, length_add, length_scale, length_subtract, add_associative, subtract_zero}
use Rattle.files.specs.Bytes.{values}
use Rattle.files.specs.Book.{boats, columns, rows, rows_offset}
use Rattle.files.specs.Sheet.{sheet, target_offset, files_refusal}
use Rattle.files.specs.Limits.{total_limit, entry_limit}
use Rattle.method.specs.Plain.{plain_problem}
use Rattle.method.specs.Iterates.{row}
use Rattle.method.proofs.Argmin.{among_row}
use Rattle.method.proofs.Entries as E
use Rattle.method.proofs.Schedules.{fixed_sized}
use Rattle.method.proofs.Plain.{well_formed, in_range}
use Rattle.sums.specs.Operands.{Span, Movable}
use Rattle.card_pairs.proofs.Pairs.{sum_more}
use Rattle.iteration.specs.declared.Layout.{Layout}
use Rattle.iteration.specs.States.{file_layout}
use Rattle.iteration.proofs.States.{book_fits, sheet_fits, row_span, target_span, movable, moved_is, length_difference, zeros_add}

-- ---- Vectors

add_zeros : (c : ℕ) (x : List ℤ) → length x ≡ c → add x (replicate c (pos 0)) ≡ x
unfolding add
add_zeros zero [] e = refl
add_zeros zero (a ∷ x) e = absurd (omega arith)
add_zeros (suc c) [] e = absurd (omega arith)
add_zeros (suc c) (a ∷ x) e = ap₂ ◌∷◌ (solve (a ∷ []) (x₀ ⊕ con (pos 0)) x₀ tt) (add_zeros c x (omega arith))

-- (q v + y) - (q + n) u = q (v - u) + (y - n u)
apart : (v y u : List ℤ) (q n : ℕ) → subtract (add (scale q v) y) (scale (q + n) u) ≡ add (scale q (subtract v u)) (subtract y (scale n u))
unfolding add subtract scale
apart [] y u q n = refl
apart (a ∷ v) [] [] q n = refl
apart (a ∷ v) [] (d ∷ u) q n = refl
apart (a ∷ v) (b ∷ y) [] q n = refl
apart (a ∷ v) (b ∷ y) (d ∷ u) q n =
    ap₂ ◌∷◌ (solve (a ∷ b ∷ d ∷ pos q ∷ pos n ∷ []) (x₃ ⊗ x₀ ⊕ x₁ ⊝ (x₃ ⊕ x₄) ⊗ x₂) (x₃ ⊗ (x₀ ⊝ x₂) ⊕ (x₁ ⊝ x₄ ⊗ x₂)) tt) (apart v y u q n)

take_replicate : (n m : ℕ) → n ≤ m → take n (replicate m (pos 0)) ≡ replicate n (pos 0)
take_replicate zero m h = refl
take_replicate (suc n) zero h = absurd (omega arith)
take_replicate (suc n) (suc m) h = ap (λ l. pos 0 ∷ l) (take_replicate n m (omega arith))

-- ---- Rows less the target

pub differences : (u : List ℤ) → List (List ℤ) → List (List ℤ)
differences u [] = []
differences u (v ∷ vs) = subtract v u ∷ differences u vs

length_differences : (u : List ℤ) (vs : List (List ℤ)) → length (differences u vs) ≡ length vs
unfolding differences
length_differences u [] = refl
length_differences u (v ∷ vs) = ap suc (length_differences u vs)

difference_at : (u : List ℤ) (vs : List (List ℤ)) (i : ℕ) → get_or (differences u vs) i [] ≡ subtract (get_or vs i []) u
unfolding differences subtract
difference_at u [] i = refl
difference_at u (v ∷ vs) zero = refl
difference_at u (v ∷ vs) (suc i) = difference_at u vs i

-- y - N u for shares of total N
residual_sum : (c : ℕ) (u : List ℤ) (qs : List ℕ) (vs : List (List ℤ)) → length u ≡ c → length qs ≡ length vs →
    subtract (combination c qs vs) (scale (sum qs) u) ≡ combination c qs (differences u vs)
unfolding combination sum differences
residual_sum c u [] vs e l = subtract_zero c u e
residual_sum c u (q ∷ qs) [] e l = absurd (omega arith)
residual_sum c u (q ∷ qs) (v ∷ vs) e l =
    apart v (combination c qs vs) u q (sum qs) ∙ ap (add (scale q (subtract v u))) (residual_sum c u qs vs e (omega arith))

length_sum : (c : ℕ) (u : List ℤ) (qs : List ℕ) (vs : List (List ℤ)) → length u ≡ c → Wide c vs → length (combination c qs (differences u vs)) ≡ c
unfolding combination differences
length_sum c u [] vs e w = length-replicate c (pos 0)
length_sum c u (q ∷ qs) [] e w = length-replicate c (pos 0)
length_sum c u (q ∷ qs) (v ∷ vs) e w =
    let lv : length v ≡ c = w.each v here in
    let l : length (scale q (subtract v u)) ≡ c = length_scale q (subtract v u) ∙ length_subtract v u (lv ∙ sym e) ∙ lv in
    length_add (scale q (subtract v u)) _ (l ∙ sym (length_sum c u qs vs e (wide_rest w))) ∙ l

combination_more : (c q : ℕ) (qs : List ℕ) (v : List ℤ) (vs : List (List ℤ)) → combination c (q ∷ qs) (v ∷ vs) ≡ add (scale q v) (combination c qs vs)
unfolding combination
combination_more c q qs v vs = refl

combination_none : (c : ℕ) (vs : List (List ℤ)) → combination c [] vs ≡ replicate c (pos 0)
unfolding combination
combination_none c vs = refl

-- ---- The loop over the boats

-- r holds the boats before i; the boats from i on are still to be added
pub record Summing (b s : List ℕ) (shares : List ℕ) (i : ℕ) (r : List ℤ) : Type 0 where
  pub within : i ≤ boats b
  pub long : length r ≡ 64
  pub later : add (take (columns b) r) (combination (columns b) (drop i (take (boats b) shares)) (drop i (differences (sheet s).target (rows b))))
      ≡ combination (columns b) (take (boats b) shares) (differences (sheet s).target (rows b))
  pub used : ℕ
  pub parts : used + sum (drop i (take (boats b) shares)) ≡ sum (take (boats b) shares)
  pub size : E.Bounded (4000 * used) (take (columns b) r)

module _ (b s : List ℕ) (ok : files_refusal b s ≡ 0) where
  zero_bounded : (n : ℕ) → E.Bounded 0 (replicate n (pos 0))
  zero_bounded n = record { each = λ j. each n j }
    where
      each : (n j : ℕ) → nat_abs (get_or (replicate n (pos 0)) j (pos 0)) ≤ 0
      each zero j = omega arith
      each (suc n) zero = omega arith
      each (suc n) (suc j) = each n j

  pub summing_start : {shares : List ℕ} → Summing b s shares 0 (replicate 64 (pos 0))
  unfolding plain_problem
  summing_start {shares} =
      let z = take_replicate (columns b) 64 (book_fits b s ok).most_columns in
      record {
        within = omega arith;
        long = refl;
        later = rw z (zeros_add (columns b) _ (length_sum (columns b) (sheet s).target (take (boats b) shares) (rows b) (sheet_fits b s ok).target_length (well_formed b s ok fixed_sized).wide));
        used = 0;
        parts = omega arith;
        size = rw z (zero_bounded (columns b));
      }

  module _ {shares : List ℕ} {i : ℕ} {r : List ℤ} (d : Summing b s shares i r) (slots : length shares ≡ 256) where
    share_slots : length (take (boats b) shares) ≡ boats b
    share_slots = length-take-le (boats b) shares (omega (arith, (book_fits b s ok).most_boats))

    pub summing_end : boats b ≤ i →
        take (columns b) r ≡ subtract (combination (columns b) (take (boats b) shares) (rows b)) (scale (sum (take (boats b) shares)) (sheet s).target)
    summing_end h =
        let e : drop i (take (boats b) shares) ≡ [] = drop_of_length-le (take (boats b) shares) {i = i} (omega (arith, share_slots)) in
        let l : length (take (columns b) r) ≡ columns b = length-take-le (columns b) r (omega (arith, d.long, (book_fits b s ok).most_columns)) in
        sym (add_zeros (columns b) (take (columns b) r) l)
        ∙ (rw (e, combination_none) at d.later)
        ∙ sym (residual_sum (columns b) (sheet s).target (take (boats b) shares) (rows b) (sheet_fits b s ok).target_length (share_slots ∙ sym (book_fits b s ok).row_count))

    module _ (h : i < boats b) where
      abbrev q : ℕ
      q = get_or shares i 0

      shares_next : drop i (take (boats b) shares) ≡ q ∷ drop (i + 1) (take (boats b) shares)
      shares_next = drop-cons (take (boats b) shares) i 0 (omega (arith, share_slots)) ∙ rw (get_or-take (boats b) shares i 0 h, add-one)

      rows_next : drop i (differences (sheet s).target (rows b)) ≡ subtract (row (rows b) i) (sheet s).target ∷ drop (i + 1) (differences (sheet s).target (rows b))
      unfolding row
      rows_next =
          drop-cons (differences (sheet s).target (rows b)) i [] (omega (arith, length_differences (sheet s).target (rows b), (book_fits b s ok).row_count))
          ∙ rw (difference_at (sheet s).target (rows b) i, add-one)

      parts_next : d.used + (q + sum (drop (i + 1) (take (boats b) shares))) ≡ sum (take (boats b) shares)
      parts_next = (rw (shares_next, sum_more) at d.parts)

      room : sum (take (boats b) shares) ≤ total_limit → (j : ℕ) → j < columns b → nat_abs (get_or r j (pos 0)) + 4000 * q ≤ entry_limit
      room few j k = rw (← get_or-take (columns b) r j (pos 0) k) (omega (arith, d.size.each j, parts_next))

      pub summing_moved : sum (take (boats b) shares) ≤ total_limit →
          Span b (rows_offset b + 2 * (i * columns b)) (columns b) × (Span s (target_offset s) (columns b)
          × Movable r (values (columns b) (drop (rows_offset b + 2 * (i * columns b)) b)) (values (columns b) (drop (target_offset s) s)) (columns b) q)
      summing_moved few = (row_span b s ok i h, (target_span b s ok, movable b s ok r i q h (omega (arith, parts_next)) (room few)))

      difference_bounded : E.Bounded 4000 (subtract (row (rows b) i) (sheet s).target)
      unfolding plain_problem
      difference_bounded = E.bounded_subtract ((in_range b s ok fixed_sized).rows_bounded _ (among_row (rows b) i (omega (arith, (book_fits b s ok).row_count)))) (in_range b s ok fixed_sized).target_bounded

      moved_front : (x : List ℤ) →
          x ≡ add (take (columns b) r) (scale q (subtract (values (columns b) (drop (rows_offset b + 2 * (i * columns b)) b)) (values (columns b) (drop (target_offset s) s)))) ++ drop (columns b) r →
          take (columns b) x ≡ add (take (columns b) r) (scale q (subtract (row (rows b) i) (sheet s).target))
      moved_front x e =
          let n : length (take (columns b) r) ≡ columns b = length-take-le (columns b) r (omega (arith, d.long, (book_fits b s ok).most_columns)) in
          let m : length (scale q (subtract (row (rows b) i) (sheet s).target)) ≡ columns b = length_scale q _ ∙ length_difference b s ok i h in
          ap (take (columns b)) (moved_is b s ok (take (columns b) r) (drop (columns b) r) i q h n (sym (take-append-drop (columns b) r)) e)
          ∙ take_at (add (take (columns b) r) (scale q (subtract (row (rows b) i) (sheet s).target))) (drop (columns b) r) (columns b) (length_add (take (columns b) r) _ (n ∙ sym m) ∙ n)

      pub summing_more : (x : List ℤ) → length x ≡ 64 →
          x ≡ add (take (columns b) r) (scale q (subtract (values (columns b) (drop (rows_offset b + 2 * (i * columns b)) b)) (values (columns b) (drop (target_offset s) s)))) ++ drop (columns b) r →
          Summing b s shares (i + 1) x
      summing_more x l e =
          let f = moved_front x e in
          let v = subtract (row (rows b) i) (sheet s).target in
          record {
            within = omega arith;
            long = l;
            later =
                rw (f, add_associative (take (columns b) r) (scale q v))
                (rw (shares_next, rows_next, combination_more (columns b) q (drop (i + 1) (take (boats b) shares)) v) at d.later);
            used = d.used + q;
            parts = omega (arith, parts_next);
            size = rw f (E.bounded_mono (E.bounded_add d.size (E.bounded_scale q difference_bounded)) (omega arith));
          }

      row_inside : rows_offset b + 2 * (i * columns b) + 2 * columns b ≤ length b
      row_inside = (row_span b s ok i h).inside

      pub offset_fits : length b < 18446744073709551616 → Fits w64 (rows_offset b + 2 * (i * columns b))
      offset_fits k = record { fits = omega (arith, row_inside) }

      pub cells_fit : length b < 18446744073709551616 → Fits w64 (2 * (i * columns b))
      cells_fit k = record { fits = omega (arith, row_inside) }

      pub cell_fits : length b < 18446744073709551616 → Fits w64 (i * columns b)
      cell_fits k = record { fits = omega (arith, row_inside) }

-- ---- The same with the layout and the share as the code has them

module _ (b s : List ℕ) (ok : files_refusal b s ≡ 0) {l : Layout} (e : l ≡ file_layout b s) {shares : List ℕ} {i : ℕ} {r : List ℤ} (d : Summing b s shares i r) (slots : length shares ≡ 256) where
  pub boat_slot : i < l.boats → i < 256
  unfolding file_layout
  boat_slot h = let k : i < boats b = (rw e at h) in omega (arith, (book_fits b s ok).most_boats)

  pub residual_done : l.boats ≤ i → take (columns b) r ≡ subtract (combination (columns b) (take (boats b) shares) (rows b)) (scale (sum (take (boats b) shares)) (sheet s).target)
  unfolding file_layout
  residual_done h = summing_end b s ok d slots (rw e at h)

  module _ (h : i < l.boats) where
    pub row_fits : length b < 18446744073709551616 → Fits w64 (l.rows + 2 * (i * l.columns))
    unfolding file_layout
    row_fits k = rw e (offset_fits b s ok d slots (rw e at h) k)

    pub row_cells_fit : length b < 18446744073709551616 → Fits w64 (2 * (i * l.columns))
    unfolding file_layout
    row_cells_fit k = rw e (cells_fit b s ok d slots (rw e at h) k)

    pub row_cell_fits : length b < 18446744073709551616 → Fits w64 (i * l.columns)
    unfolding file_layout
    row_cell_fits k = rw e (cell_fits b s ok d slots (rw e at h) k)

    module _ {k : ℕ} (ek : k ≡ get_or shares i 0) where
      pub boat_moved : sum (take (boats b) shares) ≤ total_limit →
          Span b (l.rows + 2 * (i * l.columns)) l.columns × (Span s l.target l.columns
          × Movable r (values l.columns (drop (l.rows + 2 * (i * l.columns)) b)) (values l.columns (drop l.target s)) l.columns k)
      unfolding file_layout
      boat_moved few = rw (e, ek) (summing_moved b s ok d slots (rw e at h) few)

      pub boat_added : {x : List ℤ} → length x ≡ 64 →
          x ≡ add (take l.columns r) (scale k (subtract (values l.columns (drop (l.rows + 2 * (i * l.columns)) b)) (values l.columns (drop l.target s)))) ++ drop l.columns r →
          Summing b s shares (i + 1) x
      unfolding file_layout
      boat_added {x} n f = summing_more b s ok d slots (rw e at h) x n (rw (e, ek) at f)
