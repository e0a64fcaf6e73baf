-- The values of 64 cells and the first refusal among them are right.
use mathlib.Core.Path.{◌≡◌, refl, sym, ap, ◌∙◌}
use mathlib.Core.Bool.{Bool, true, false, ◌&&◌, ◌||◌, not, cond, true≢false}
use mathlib.Core.List.{List, [], ◌∷◌, ◌++◌, map}
use mathlib.Core.Logic.{◌⊎◌, inl, inr}
use Prim.Native.Nat.{ℕ, zero, suc, ◌+◌, ◌-◌, ◌≤◌, ◌<◌}
use native.Mathlib.Omega.{arith}
use borrow.Author.Tests.{eq-eqb, ne_eqb}
use lib.Dec.{eqb, ltb}
use lib.IntN.{ℤ, pos}
use lib.ListN.{length, get_or, replicate, length-append, length-replicate, length-map, get_or-map, get_or-append}
use lib.Seq.{length-take-le, get_or-take, get_or-append-add, take_at}
use Rattle.frank_wolfe.specs.Vectors.{sum}
use Rattle.files.specs.Bytes.{between, number, values, all_in_range, length_in_range, trailer, body, reaches, body_refusal}
use Rattle.files.specs.Book.{columns, book_refusal}
use Rattle.files.specs.Sheet.{WSH1, WSH2, sheet, sheet_columns, sheet_lettered, sheet_back, sheet_refusal_in, sheet_refusal}
use Rattle.files.specs.Fits.{BookFits}
use Rattle.files.proofs.Accepted.{book_accepted}
use Rattle.files.specs.Limits.{step_limit}
use Rattle.rounding.specs.Rounding.{half_even, rounded}
use Rattle.scale_readings.specs.Readings.{numerator, denominator, whole}
use Rattle.scale_cells.specs.declared.ScaleCell.{ScaleCell}
use Rattle.scale_cells.specs.Cells.{net, cell_value, cell_refusal, cells_refusal, read_cells, scale_refusal, values_after, sheet_values}
use Rattle.scale_cells.specs.Promise.{unweighed, cell_at, FirstRefusal, ValuesAccepted, ValuesRight, ConversionRight}
use Rattle.scale_cells.proofs.Judging.{cell_judged, cell_accepted, cell_in_range}

-- ---- the first refusal of a list of cells
pub refused_here : (s : ScaleCell) (ss : List ScaleCell) → (cell_refusal s ≡ 0 → ⊥) → cells_refusal (s ∷ ss) ≡ cell_refusal s
unfolding cells_refusal
refused_here s ss h = rw (ne_eqb (cell_refusal s) 0 h)

pub passed_here : (s : ScaleCell) (ss : List ScaleCell) → cell_refusal s ≡ 0 → cells_refusal (s ∷ ss) ≡ cells_refusal ss
unfolding cells_refusal
passed_here s ss h = rw (eq-eqb (cell_refusal s) 0 h)

either : (n : ℕ) → (n ≡ 0) ⊎ (n ≡ 0 → ⊥)
either zero = inl refl
either (suc n) = inr (λ e. omega arith)

none : (n : ℕ) → cells_refusal [] ≡ suc n → ⊥
unfolding cells_refusal
none n h = omega arith

first_refusal : (cs : List ScaleCell) (n : ℕ) → cells_refusal cs ≡ suc n → FirstRefusal cs (suc n)
first_refusal [] n h = absurd (none n h)
first_refusal (s ∷ ss) n h =
    elim (either (cell_refusal s)) [
      | inl e ↦ later (first_refusal ss n (sym (passed_here s ss e) ∙ h)) e
      | inr e ↦ record {
        place = 0;
        inside = omega arith;
        before = λ i k. absurd (omega arith);
        refuses = sym (refused_here s ss e) ∙ h;
        judged = cell_judged s;
      }
    ]
  where
    later : FirstRefusal ss (suc n) → cell_refusal s ≡ 0 → FirstRefusal (s ∷ ss) (suc n)
    later f e =
        record {
          place = suc f.place;
          inside = omega (arith, f.inside);
          before = earlier;
          refuses = f.refuses;
          judged = f.judged;
        }
      where
        earlier : (i : ℕ) → i < suc f.place → cell_refusal (cell_at (s ∷ ss) i) ≡ 0
        earlier zero k = e
        earlier (suc i) k = f.before i (omega arith)

-- ---- cells that are accepted
passed_first : (s : ScaleCell) (ss : List ScaleCell) → cells_refusal (s ∷ ss) ≡ 0 → (cell_refusal s ≡ 0) × (cells_refusal ss ≡ 0)
passed_first s ss h =
    elim (either (cell_refusal s)) [
      | inl e ↦ (e, sym (passed_here s ss e) ∙ h)
      | inr e ↦ absurd (e (sym (refused_here s ss e) ∙ h))
    ]

all_accepted : (cs : List ScaleCell) → cells_refusal cs ≡ 0 → (i : ℕ) → i < length cs → cell_refusal (cell_at cs i) ≡ 0
all_accepted [] h i k = absurd (omega arith)
all_accepted (s ∷ ss) h zero k = (passed_first s ss h).0
all_accepted (s ∷ ss) h (suc i) k = all_accepted ss (passed_first s ss h).1 i (omega arith)

pub all_in : (cs : List ScaleCell) → ((i : ℕ) → i < length cs → cell_refusal (cell_at cs i) ≡ 0) → all_in_range (map cell_value cs) ≡ true
unfolding all_in_range
all_in [] h = refl
all_in (s ∷ ss) h = simp (cell_in_range s (h 0 (omega arith))) (all_in ss (λ i k. h (suc i) (omega arith)))

-- ---- a sheet of values in range is not refused by 17
next : (g : Bool) (k x m : ℕ) → cond g k x ≡ m → (k ≡ m → ⊥) → x ≡ m
next true k x m e n = absurd (n e)
next false k x m e n = e

next_not : (g : Bool) (k x m : ℕ) → cond (not g) k x ≡ m → (k ≡ m → ⊥) → (g ≡ true) × (x ≡ m)
next_not true k x m e n = (refl, e)
next_not false k x m e n = absurd (n e)

-- a body whose values are in range is not refused by 17, nor is the sheet by its factors
body_passes : (g t u : Bool) → t ≡ true → (let n = cond (not g) 16 (cond t 0 17) in cond (not (eqb n 0)) n (cond u 0 46)) ≡ 17 → ⊥
body_passes true true true e h = omega arith
body_passes true true false e h = omega arith
body_passes true false u e h = true≢false (sym e)
body_passes false t u e h = omega arith

pub target_passes : (c : ℕ) (s : List ℕ) → all_in_range (sheet s).target ≡ true → sheet_refusal c s ≡ 17 → ⊥
unfolding sheet_refusal_in body_refusal sheet
target_passes c s good h =
    let back = number 0 4 (trailer 16 s) in
    let p1 = next_not (length_in_range 16 s) 11 _ 17 h (λ e. omega arith) in
    let p2 = next_not (sheet_lettered WSH1 s || sheet_lettered WSH2 s) 12 _ 17 p1.1 (λ e. omega arith) in
    let p3 = next_not (between c c (sheet_columns s)) 13 _ 17 p2.1 (λ e. omega arith) in
    let p4 = next_not (between 1 step_limit (number 6 2 (trailer 16 s))) 14 _ 17 p3.1 (λ e. omega arith) in
    let p5 = next (ltb 1024000000 (number 8 4 (trailer 16 s))) 15 _ 17 p4.1 (λ e. omega arith) in
    body_passes (eqb back (sheet_back s) && reaches 16 back s) (all_in_range (values (sheet_columns s) (body 16 (sheet_back s) s))) (between 1 64 (sum (sheet s).factors)) good p5

-- ---- all of them
pub default_value : cell_value unweighed ≡ pos 0
unfolding cell_value net whole numerator denominator rounded half_even
default_value = refl

zeros : (n i : ℕ) → get_or (replicate n (pos 0)) i (pos 0) ≡ pos 0
zeros zero i = refl
zeros (suc n) zero = refl
zeros (suc n) (suc i) = zeros n i

module _ (b : List ℕ) (cs : List ScaleCell) (L : length cs ≡ 64) where
  module _ (B : book_refusal b ≡ 0) (C : cells_refusal (read_cells b cs) ≡ 0) where
    fit : BookFits b
    fit = book_accepted b B

    few : columns b ≤ 64
    few = fit.most_columns

    own : List ℤ
    own = map cell_value (read_cells b cs)

    own_length : length own ≡ columns b
    unfolding own
    own_length = length-map (read_cells b cs) cell_value ∙ length-take-le (columns b) cs (omega (arith, few))

    accepted_at : (i : ℕ) → i < columns b → cell_refusal (cell_at cs i) ≡ 0
    accepted_at i h =
        let l : length (read_cells b cs) ≡ columns b = length-take-le (columns b) cs (omega (arith, few)) in
        rw (get_or-take (columns b) cs i unweighed h) at (all_accepted (read_cells b cs) C i (rw l h))

    padding : List ℤ
    padding = replicate (64 - length own) (pos 0)

    value_at : (i : ℕ) → i < columns b → get_or (own ++ padding) i (pos 0) ≡ cell_value (cell_at cs i)
    unfolding own
    value_at i h =
        get_or-append own padding (pos 0) i (rw own_length h)
        ∙ ap (λ (d : ℤ). get_or own i d) (sym default_value)
        ∙ get_or-map cell_value (read_cells b cs) i unweighed
        ∙ ap cell_value (get_or-take (columns b) cs i unweighed h)

    later_at : (i : ℕ) → columns b ≤ i → get_or (own ++ padding) i (pos 0) ≡ pos 0
    unfolding padding
    later_at i h =
        let e : length own + (i - columns b) ≡ i = omega (arith, own_length) in
        ap (λ (k : ℕ). get_or (own ++ padding) k (pos 0)) (sym e) ∙ get_or-append-add own padding (i - columns b) (pos 0) ∙ zeros (64 - length own) (i - columns b)

    good : all_in_range own ≡ true
    unfolding own
    good = all_in (read_cells b cs) (all_accepted (read_cells b cs) C)

    accepted : ValuesAccepted b cs (own ++ padding)
    unfolding padding
    accepted =
        record {
          book_accepted = B;
          count = length-append own padding ∙ (omega (arith, few, own_length, length-replicate (64 - length own) (pos 0)));
          each = λ i h. rw (value_at i h) (cell_accepted (cell_at cs i) (accepted_at i h));
          later = later_at;
          never_17 = λ s e. target_passes (columns b) s (rw (e, take_at own padding (columns b) own_length) good);
        }

  pub on_cells : book_refusal b ≡ 0 → scale_refusal b cs ≡ cells_refusal (read_cells b cs)
  unfolding scale_refusal
  on_cells h = rw (eq-eqb (book_refusal b) 0 h)

  pub on_book : (book_refusal b ≡ 0 → ⊥) → scale_refusal b cs ≡ book_refusal b
  unfolding scale_refusal
  on_book h = rw (ne_eqb (book_refusal b) 0 h)

  -- of cells that are accepted
  pub scale_accepted : scale_refusal b cs ≡ 0 → (book_refusal b ≡ 0) × (cells_refusal (read_cells b cs) ≡ 0)
  scale_accepted h =
      elim (either (book_refusal b)) [
        | inl e ↦ (e, sym (on_cells e) ∙ h)
        | inr e ↦ absurd (e (sym (on_book e) ∙ h))
      ]

  pub read_length : scale_refusal b cs ≡ 0 → length (map cell_value (read_cells b cs)) ≡ columns b
  unfolding own
  read_length h = let p = scale_accepted h in own_length p.0 p.1

  pub read_in_range : scale_refusal b cs ≡ 0 → all_in_range (map cell_value (read_cells b cs)) ≡ true
  unfolding own
  read_in_range h = let p = scale_accepted h in good p.0 p.1

  right_by : (n : ℕ) → scale_refusal b cs ≡ n → ValuesRight b cs n (values_after n (map cell_value (read_cells b cs)))
  unfolding ValuesRight values_after own padding
  right_by zero h = let p = scale_accepted h in accepted p.0 p.1
  right_by (suc n) h =
      record {
        all_zero = refl;
        number =
            elim (either (book_refusal b)) [
              | inl e ↦ inr (e, first_refusal (read_cells b cs) n (sym (on_cells e) ∙ h))
              | inr e ↦ inl (sym (on_book e) ∙ h)
            ];
      }

  pub conversion_right : ConversionRight b cs (sheet_values b cs)
  unfolding sheet_values scale_refusal
  conversion_right = record { right = right_by (scale_refusal b cs) refl; unread = λ ds e. rw e }
