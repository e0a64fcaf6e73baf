-- The loop over the cells: the values so far, and that no cell so far refuses.
use mathlib.Core.Path.{◌≡◌, refl, sym, ap, ◌∙◌}
use mathlib.Core.List.{List, [], ◌∷◌, map}
use Prim.Native.Nat.{ℕ, zero, suc, ◌+◌, ◌≤◌, ◌<◌}
use native.Mathlib.Omega.{arith}
use native.Mathlib.Numerals.{add-one}
use lib.IntN.{ℤ, pos}
use lib.ListN.{length, get_or, set, take, drop, replicate, length-map, length-replicate, get_or-map, drop_of_length-le}
use lib.Seq.{drop-cons, get_or-take, length-take-le}
use mir.Syntax.{w16}
use mir.Val.{to_z, of_z}
use Rattle.integers.proofs.Bounds.{read}
use Rattle.integers.proofs.Filling.{Filled, filled_start, filled_more, filled_end, drop_replicate}
use Rattle.scale_cells.specs.declared.ScaleCell.{ScaleCell}
use Rattle.scale_cells.specs.declared.SheetValues.{SheetValues}
use Rattle.scale_cells.specs.Cells.{cell_value, cell_refusal, cells_refusal, values_after}
use Rattle.scale_cells.specs.Promise.{unweighed, cell_at}
use Rattle.files.proofs.Values.{in_range_bound}
use Rattle.scale_cells.proofs.Judging.{cell_in_range}
use Rattle.scale_cells.proofs.Values.{default_value, refused_here, passed_here}
use Rattle.scale_conversion.specs.Outcomes.{Outcome, cell_outcome, outcome_of, values_of}

-- the fields of an outcome
outcome_refusal : (n : ℕ) (v : ℤ) → (outcome_of n v).refusal ≡ n
unfolding outcome_of
outcome_refusal zero v = refl
outcome_refusal (suc n) v = refl

module _ (s : ScaleCell) {o : Outcome} (e : o ≡ cell_outcome s) where
  pub refusal_is : o.refusal ≡ cell_refusal s
  unfolding cell_outcome
  refusal_is = ap (λ (q : Outcome). q.refusal) e ∙ outcome_refusal (cell_refusal s) (cell_value s)

  pub value_is : o.refusal ≡ 0 → o.value ≡ cell_value s
  unfolding cell_outcome outcome_of
  value_is z = ap (λ (q : Outcome). q.value) e ∙ rw (sym refusal_is ∙ z)

abbrev pub zeros : List ℤ
zeros = replicate 64 (pos 0)

pub kept_zeros : (n : ℕ) (vs : List ℤ) → (n ≡ 0 → ⊥) → values_after n vs ≡ zeros
unfolding values_after
kept_zeros zero vs h = absurd (h refl)
kept_zeros (suc n) vs h = refl

no_cells : cells_refusal [] ≡ 0
unfolding cells_refusal
no_cells = refl

-- of the first `columns` cells, the first i are converted, and no one of them refuses
pub record Converting (columns : ℕ) (cells : List ScaleCell) (i : ℕ) (values : List ℤ) : Type 0 where
  pub filled : Filled zeros (map cell_value (take columns cells)) i values
  pub rest : cells_refusal (take columns cells) ≡ cells_refusal (drop i (take columns cells))

pub converting_start : {columns : ℕ} {cells : List ScaleCell} → Converting columns cells 0 zeros
converting_start = record { filled = filled_start; rest = refl }

module _ {columns : ℕ} {cells : List ScaleCell} {i : ℕ} {values : List ℤ} (c : Converting columns cells i values) (K : columns ≤ 64) (L : length cells ≡ 64) where
  own : List ScaleCell
  own = take columns cells

  own_length : length own ≡ columns
  unfolding own
  own_length = length-take-le columns cells (omega arith)

  values_length : length (map cell_value own) ≡ columns
  values_length = length-map own cell_value ∙ own_length

  module _ (h : i < columns) {o : Outcome} (e : o ≡ cell_outcome (cell_at cells i)) where
    abbrev s : ScaleCell
    s = cell_at cells i

    own_at : get_or own i unweighed ≡ s
    unfolding own
    own_at = get_or-take columns cells i unweighed h

    here : drop i own ≡ s ∷ drop (i + 1) own
    here = drop-cons own i unweighed (rw own_length h) ∙ rw (own_at, add-one)

    value_here : get_or (map cell_value own) i (pos 0) ≡ cell_value s
    value_here = ap (λ (d : ℤ). get_or (map cell_value own) i d) (sym default_value) ∙ get_or-map cell_value own i unweighed ∙ ap cell_value own_at

    -- a value comes back from its 16 bits
    stored : o.refusal ≡ 0 → to_z w16 (of_z w16 o.value) ≡ cell_value s
    stored z = rw (value_is s e z) (read w16 2000 (in_range_bound (cell_value s) (cell_in_range s (sym (refusal_is s e) ∙ z))) tt)

    pub converting_more : o.refusal ≡ 0 → Converting columns cells (i + 1) (set values i (to_z w16 (of_z w16 o.value)))
    unfolding own
    converting_more z =
        record {
          filled = filled_more c.filled (omega (arith, values_length, length-replicate 64 (pos 0))) (pos 0) (omega (arith, values_length)) (stored z ∙ sym value_here);
          rest = c.rest ∙ ap cells_refusal here ∙ passed_here s (drop (i + 1) own) (sym (refusal_is s e) ∙ z);
        }

    pub converting_refused : (o.refusal ≡ 0 → ⊥) → ◌≡◌ {A = SheetValues} (record { refusal = o.refusal; values = zeros }) (values_of (take columns cells))
    unfolding values_of own
    converting_refused n =
        let r = refusal_is s e in
        let q : o.refusal ≡ cells_refusal own = r ∙ sym (c.rest ∙ ap cells_refusal here ∙ refused_here s (drop (i + 1) own) (λ z. n (r ∙ z))) in
        rw (← q, kept_zeros o.refusal (map cell_value own) n)

  pub converting_end : columns ≤ i → ◌≡◌ {A = SheetValues} (record { refusal = 0; values = values }) (values_of (take columns cells))
  unfolding values_of values_after own
  converting_end h =
      let z : cells_refusal own ≡ 0 = c.rest ∙ ap cells_refusal (drop_of_length-le own {i = i} (rw own_length h)) ∙ no_cells in
      rw (z, filled_end c.filled (rw values_length h), drop_replicate (length (map cell_value own)) 64 (pos 0) (rw values_length K))
