-- A move keeps the total, lets no boat join, and lowers E strictly; its two boats and its amount are those that specs/Worked.antt says.
use mathlib.Core.Path.{◌≡◌, refl, sym, ap, ap₂, ◌∙◌}
use mathlib.Core.Bool.{Bool, true, false, cond}
use mathlib.Core.List.{List, [], ◌∷◌}
use Prim.Native.Nat.{ℕ, suc, ◌+◌, ◌*◌, ◌-◌, ◌≤◌, ◌<◌, min}
use native.Mathlib.Nat.{mul-le-mul_right}
use native.Mathlib.Omega.{arith}
use borrow.Author.Tests.{eqb-true, eqb-false}
use lib.Dec.{eqb}
use lib.IntN.{ℤ, pos, negsuc, ◌+ℤ◌, ◌-ℤ◌, ◌*ℤ◌}
use lib.ListN.{length, get_or, set, length-set}
use lib.Seq.{get_or-set_same, get_or-set_other, set-set, set-get_or}
use lib.Signed.{◌≤ℤ◌, ◌<ℤ◌}
use Rattle.integers.proofs.Solver.{con, ◌⊕◌, ◌⊗◌, ◌⊝◌, x₀, x₁, x₂, x₃, x₄, x₅, solve}
use Rattle.integers.proofs.Order.{<→<ℤ, <ℤ→<}
use Rattle.integers.proofs.Facts.{◌≼◌, ◌≺◌, known, equation, ◌⊞◌, derive}
use Rattle.frank_wolfe.specs.Method.{squared_distance}
use Rattle.frank_wolfe.specs.Vectors.{add, subtract, scale, weighted, weighted_norm, sum, combination}
use Rattle.frank_wolfe.proofs.Vectors.{factored, Wide, plus_is, residual_is, norm_weighted, length_combination, sum_set, combination_set, weighted_subtract}
use Rattle.method.specs.Problem.{Problem}
use Rattle.method.specs.Iterates.{row, natural, mixture_distance}
use Rattle.method.proofs.Argmin.{score_at, among_row}
use Rattle.method.proofs.Mixtures.{WellFormed}
use Rattle.pairwise.specs.Moves.{nearest_down, shares_residual, shares_scores, giver, taker, slope, apart, amount_of, amount, exchange, moved}
use Rattle.pairwise.specs.Worked.{Greatest, Least, Choice, OneChoice, MoveRight}
use Rattle.pairwise.proofs.Exchange.{NearestDown, nearest_is, rows_apart, Exchanged, falls}
use Rattle.pairwise.proofs.Foremost.{positive, some_holder, foremost_greatest, foremost_least, one_number, greatest_one, least_one}

-- ---- There is only one choice

pub one_choice : OneChoice
unfolding OneChoice
one_choice p qs x y =
    let f = greatest_one x.from y.from x.greatest y.greatest in
    let t = least_one x.to y.to x.least y.least in
    let e : pos x.slope ≡ pos y.slope =
    sym x.slope_is ∙ ap₂ (λ i j. weighted p.factors (shares_residual p qs) (subtract (row p.vertices i) (row p.vertices j))) f t ∙ y.slope_is in
    let g : x.slope ≡ y.slope = cc in
    let d : x.apart ≡ y.apart =
    sym x.apart_is ∙ ap₂ (λ i j. weighted_norm p.factors (subtract (row p.vertices i) (row p.vertices j))) f t ∙ y.apart_is in
    let l = not_less x y.amount (rw f y.held) (rw (g, d) y.not_above) in
    let k = not_less y x.amount (rw (sym f) x.held) (rw (sym g, sym d) x.not_above) in
    (f, t, one_number x.amount y.amount l k)
  where
    not_less : (x : Choice p qs) (m : ℕ) → m ≤ get_or qs x.from 0 → (1 ≤ m → 2 * (m * x.apart) < 2 * x.slope + x.apart) → x.amount < m → ⊥
    not_less x m held above l =
        let n : suc x.amount * x.apart ≤ m * x.apart = mul-le-mul_right x.apart l in
        omega (arith, n, above (omega arith), x.not_below (omega arith))

-- ---- An exchange of shares

-- y + m s - w = (y + m v - w) + m (s - v), entry by entry
by_lists : (m : ℕ) (y v s w : List ℤ) → length y ≡ length v → length y ≡ length s → subtract (add y (scale m s)) w ≡ add (subtract (add y (scale m v)) w) (scale m (subtract s v))
unfolding add subtract scale
by_lists m [] v s w e f = refl
by_lists m (x ∷ y) [] s w e f = absurd (omega arith)
by_lists m (x ∷ y) (a ∷ v) [] w e f = absurd (omega arith)
by_lists m (x ∷ y) (a ∷ v) (b ∷ s) [] e f = refl
by_lists m (x ∷ y) (a ∷ v) (b ∷ s) (c ∷ w) e f =
    ap₂ ◌∷◌ (solve (x ∷ pos m ∷ a ∷ b ∷ c ∷ []) (x₀ ⊕ x₁ ⊗ x₃ ⊝ x₄) (x₀ ⊕ x₁ ⊗ x₂ ⊝ x₄ ⊕ x₁ ⊗ (x₃ ⊝ x₂)) tt) (by_lists m y v s w (omega arith) (omega arith))

module _ (qs : List ℕ) (a b m : ℕ) (ha : a < length qs) (hb : b < length qs) (hm : m ≤ get_or qs a 0) where
  abbrev without : List ℕ
  without = set qs a (get_or qs a 0 - m)

  less_at : get_or without a 0 + m ≡ get_or qs a 0
  less_at = rw (get_or-set_same qs a (get_or qs a 0 - m) 0 ha) (again (get_or qs a 0) hm)
    where
      again : (q : ℕ) → m ≤ q → q - m + m ≡ q
      again q h = omega arith

  -- with the m shares given back
  back : set without a (get_or without a 0 + m) ≡ qs
  back = rw less_at (set-set qs a (get_or qs a 0 - m) (get_or qs a 0) ∙ set-get_or qs a 0)

  length_without : length without ≡ length qs
  length_without = length-set qs a (get_or qs a 0 - m)

  pub exchange_total : sum (exchange a b m qs) ≡ sum qs
  unfolding exchange
  exchange_total =
      sum_set without b m (rw length_without hb)
      ∙ sym (sum_set without a m (rw length_without ha)) ∙ ap sum back

  pub exchange_length : length (exchange a b m qs) ≡ length qs
  unfolding exchange
  exchange_length = length-set without b (get_or without b 0 + m) ∙ length_without

  pub exchange_gives : (a ≡ b → ⊥) → get_or (exchange a b m qs) a 0 + m ≡ get_or qs a 0
  unfolding exchange
  exchange_gives n = rw (get_or-set_other without b a (get_or without b 0 + m) 0 n) less_at

  pub exchange_takes : (a ≡ b → ⊥) → get_or (exchange a b m qs) b 0 ≡ get_or qs b 0 + m
  unfolding exchange
  exchange_takes n =
      get_or-set_same without b (get_or without b 0 + m) 0 (rw length_without hb)
      ∙ ap (λ q. q + m) (get_or-set_other qs a b (get_or qs a 0 - m) 0 (λ e. n (sym e)))

  pub exchange_others : (i : ℕ) → (i ≡ a → ⊥) → (i ≡ b → ⊥) → get_or (exchange a b m qs) i 0 ≡ get_or qs i 0
  unfolding exchange
  exchange_others i na nb = get_or-set_other without b i (get_or without b 0 + m) 0 nb ∙ get_or-set_other qs a i (get_or qs a 0 - m) 0 na

  pub exchange_none_joins : 1 ≤ get_or qs a 0 → 1 ≤ get_or qs b 0 → (i : ℕ) → get_or qs i 0 ≡ 0 → get_or (exchange a b m qs) i 0 ≡ 0
  exchange_none_joins some-a some-b i h =
      exchange_others i (λ e. clash (ap (λ k. get_or qs k 0) (sym e) ∙ h) some-a) (λ e. clash (ap (λ k. get_or qs k 0) (sym e) ∙ h) some-b) ∙ h
    where
      clash : {q : ℕ} → q ≡ 0 → 1 ≤ q → ⊥
      clash e h = omega arith

  module _ (fs : List ℕ) (c : ℕ) (rs : List (List ℤ)) (count : length qs ≡ length rs) (wide : Wide c rs) where
    -- y and y' by what both have
    abbrev both : List ℤ
    both = combination c without rs

    gone : combination c qs rs ≡ add both (scale m (row rs a))
    unfolding row
    gone = ap (λ l. combination c l rs) (sym back) ∙ sym (combination_set c without rs a m (length_without ∙ count) (rw length_without ha))

    given : combination c (exchange a b m qs) rs ≡ add both (scale m (row rs b))
    unfolding exchange row
    given = sym (combination_set c without rs b m (length_without ∙ count) (rw length_without hb))

    long : (i : ℕ) → i < length qs → length both ≡ length (row rs i)
    long i h = length_combination c without rs wide ∙ sym (wide.each (row rs i) (among_row rs i (rw (sym count) h)))

    -- <x, y'> = <x, y> + m (<x, s> - <x, v>)
    pub exchange_along : (x : List ℤ) →
        weighted fs x (combination c (exchange a b m qs) rs) ≡ weighted fs x (combination c qs rs) +ℤ pos m *ℤ (weighted fs x (row rs b) -ℤ weighted fs x (row rs a))
    exchange_along x =
        ap (weighted fs x) given ∙ (plus_is fs both m (row rs b) (long b hb)).along x
        ∙ solve (weighted fs x both ∷ pos m ∷ weighted fs x (row rs a) ∷ weighted fs x (row rs b) ∷ []) (x₀ ⊕ x₁ ⊗ x₃) (x₀ ⊕ x₁ ⊗ x₂ ⊕ x₁ ⊗ (x₃ ⊝ x₂)) tt
        ∙ ap (λ z. z +ℤ pos m *ℤ (weighted fs x (row rs b) -ℤ weighted fs x (row rs a))) (sym (ap (weighted fs x) gone ∙ (plus_is fs both m (row rs a) (long a ha)).along x))

    -- y' - w = y - w + m (s - v)
    pub exchange_lists : (w : List ℤ) →
        subtract (combination c (exchange a b m qs) rs) w ≡ add (subtract (combination c qs rs) w) (scale m (subtract (row rs b) (row rs a)))
    exchange_lists w = rw (given, gone) (by_lists m both (row rs a) (row rs b) w (long a ha) (long b hb))

-- ---- A move

module _ {p : Problem} (h : WellFormed p) (qs : List ℕ) (count : length qs ≡ length p.vertices) (total : 1 ≤ sum qs) where
  abbrev fs : List ℕ
  fs = p.factors

  abbrev r : List ℤ
  r = shares_residual p qs

  abbrev a : ℕ
  a = giver p qs

  abbrev b : ℕ
  b = taker p qs

  abbrev v : List ℤ
  v = row p.vertices a

  abbrev s : List ℤ
  s = row p.vertices b

  abbrev Δ : ℕ
  Δ = slope p qs

  abbrev d : ℕ
  d = apart p qs

  abbrev m : ℕ
  m = amount p qs

  pub gives : Greatest qs (shares_scores p qs) a
  unfolding giver
  gives = foremost_greatest qs (shares_scores p qs) (some_holder qs total)

  pub takes : Least qs (shares_scores p qs) b
  unfolding taker
  takes = foremost_least qs (shares_scores p qs) (some_holder qs total)

  row_length : (i : ℕ) → i < length qs → length (row p.vertices i) ≡ p.columns
  row_length i l = h.wide.each (row p.vertices i) (among_row p.vertices i (rw (sym count) l))

  same_length : length v ≡ length s
  same_length = row_length a gives.in_list ∙ sym (row_length b takes.in_list)

  score : (i : ℕ) → get_or (shares_scores p qs) i (pos 0) ≡ weighted fs r (row p.vertices i)
  unfolding shares_scores
  score i = score_at fs r p.vertices i

  -- the slope as a difference of inner products
  pub slope_difference : weighted fs r v -ℤ weighted fs r s ≡ pos Δ
  unfolding slope natural
  slope_difference =
      ap₂ (λ x y. x -ℤ y) (sym (score a)) (sym (score b))
      ∙ natural_of (get_or (shares_scores p qs) a (pos 0) -ℤ get_or (shares_scores p qs) b (pos 0))
      (derive (get_or (shares_scores p qs) a (pos 0) ∷ get_or (shares_scores p qs) b (pos 0) ∷ []) (con (pos 0) ≼ x₀ ⊝ x₁) (known (x₁ ≼ x₀) (takes.least a gives.holds)) tt)
    where
      natural_of : (z : ℤ) → pos 0 ≤ℤ z → z ≡ pos (natural z)
      natural_of (pos n) q = refl
      natural_of (negsuc n) q = absurd q.le

  slope_inner : weighted fs r (subtract v s) ≡ pos Δ
  slope_inner = weighted_subtract fs r v s same_length ∙ slope_difference

  -- the squared distance between the two rows
  apart_is : squared_distance (factored fs) v s ≡ pos d
  unfolding apart
  apart_is =
      sym (norm_weighted fs (subtract v s) ∙ weighted_subtract fs (subtract v s) v s same_length
      ∙ ap₂ (λ x y. x -ℤ y) ((factored fs).symmetric (subtract v s) v ∙ weighted_subtract fs v v s same_length) ((factored fs).symmetric (subtract v s) s ∙ weighted_subtract fs s v s same_length)
      ∙ ap (λ z. weighted fs v v -ℤ weighted fs v s -ℤ (z -ℤ weighted fs s s)) ((factored fs).symmetric s v)
      ∙ solve (weighted fs v v ∷ weighted fs v s ∷ weighted fs s s ∷ []) (x₀ ⊝ x₁ ⊝ (x₁ ⊝ x₂)) (x₀ ⊝ con (pos 2) ⊗ x₁ ⊕ x₂) tt)

  -- rows of different scores are apart: no division by 0
  pub some_apart : 1 ≤ Δ → 1 ≤ d
  some_apart k =
      <ℤ→< (rw apart_is at (rows_apart (factored fs) r v s (subtract v (scale 1 s)) (residual_is fs v 1 s same_length)
      (derive (weighted fs r v ∷ weighted fs r s ∷ pos Δ ∷ []) (x₁ ≺ x₀) (equation (con (pos 1)) (x₀ ⊝ x₁) x₂ slope_difference ⊞ known (con (pos 0) ≺ x₂) (<→<ℤ k)) tt)))

  nearest : 1 ≤ Δ → NearestDown Δ d (nearest_down Δ d)
  nearest k = nearest_is Δ d (some_apart k)

  -- what the amount is, by its definition
  data AmountIs : ℕ → Type 0 where
    level : Δ ≡ 0 → AmountIs 0
    steep : 1 ≤ Δ → AmountIs (min (get_or qs a 0) (nearest_down Δ d))

  amount_is : AmountIs m
  unfolding amount amount_of
  amount_is = by (eqb Δ 0) refl
    where
      by : (t : Bool) → eqb Δ 0 ≡ t → AmountIs (cond t 0 (min (get_or qs a 0) (nearest_down Δ d)))
      by true e = level (eqb-true Δ 0 e)
      by false e = steep (positive Δ (eqb-false Δ 0 e))

  -- an amount is one that is to be chosen
  record AmountRight (k : ℕ) : Type 0 where
    held : k ≤ get_or qs a 0
    level : Δ ≡ 0 → k ≡ 0
    not_above : 1 ≤ k → 2 * (k * d) < 2 * Δ + d
    not_below : k < get_or qs a 0 → 2 * Δ ≤ 2 * (k * d) + d
    below : 1 ≤ k → (1 ≤ Δ) × (k ≤ nearest_down Δ d)

  amount_right : {k : ℕ} → AmountIs k → AmountRight k
  amount_right (level e) =
      record { held = omega arith; level = λ z. refl; not_above = λ z. absurd (omega arith); not_below = λ z. omega arith; below = λ z. absurd (omega arith) }
  amount_right (steep e) = of (nearest_down Δ d) (min (get_or qs a 0) (nearest_down Δ d)) (nearest e) refl (least_left (get_or qs a 0) (nearest_down Δ d)) (least_right (get_or qs a 0) (nearest_down Δ d)) (least_else (get_or qs a 0) (nearest_down Δ d))
    where
      least_left : (x y : ℕ) → min x y ≤ x
      least_left x y = omega arith

      least_right : (x y : ℕ) → min x y ≤ y
      least_right x y = omega arith

      least_else : (x y : ℕ) → min x y < x → y ≡ min x y
      least_else x y l = omega arith

      of : (n k : ℕ) → NearestDown Δ d n → n ≡ nearest_down Δ d → k ≤ get_or qs a 0 → k ≤ n → (k < get_or qs a 0 → n ≡ k) → AmountRight k
      of n k N f q l g =
          record {
            held = q;
            level = λ z. absurd (omega arith);
            not_above = λ z. omega (arith, mul-le-mul_right d l, N.not_above);
            not_below = λ z. rw (g z) at N.not_below;
            below = λ z. (e, rw f at l);
          }

  pub choice : Choice p qs
  unfolding apart
  choice =
      let k = amount_right amount_is in
      record {
        from = a;
        to = b;
        greatest = gives;
        least = takes;
        slope = Δ;
        slope_is = slope_inner;
        apart = d;
        apart_is = refl;
        amount = m;
        held = k.held;
        level = k.level;
        not_above = k.not_above;
        not_below = k.not_below;
      }

  -- it is at most what the giver holds
  pub amount_held : amount p qs ≤ get_or qs (giver p qs) 0
  amount_held = (amount_right amount_is).held

  pub choice_amount : choice.amount ≡ amount p qs
  unfolding choice
  choice_amount = refl

  module _ (some : 1 ≤ amount p qs) where
    abbrev qs' : List ℕ
    qs' = exchange a b m qs

    right_amount : AmountRight m
    right_amount = amount_right amount_is

    -- the two boats differ
    pub differ : a ≡ b → ⊥
    differ e =
        let z : weighted fs r v -ℤ weighted fs r v ≡ pos Δ = ap (λ i. weighted fs r v -ℤ weighted fs r (row p.vertices i)) e ∙ slope_difference in
        let n : pos Δ <ℤ pos 1 = derive (weighted fs r v ∷ pos Δ ∷ []) (x₁ ≺ con (pos 1)) (equation (con (pos 1)) (x₀ ⊝ x₀) x₁ z) tt in
        omega (arith, <ℤ→< n, (right_amount.below some).0)

    total_kept : sum qs' ≡ sum qs
    total_kept = exchange_total qs a b m gives.in_list takes.in_list right_amount.held

    moves_residual : Exchanged (factored fs) r (pos m) v s (shares_residual p qs')
    unfolding shares_residual
    moves_residual =
        let of : (l : List ℕ) (x : List ℤ) → weighted fs x (shares_residual p l) ≡ weighted fs x (combination p.columns l p.vertices) -ℤ pos (sum l) *ℤ weighted fs x p.target =
        λ l x. (residual_is fs (combination p.columns l p.vertices) (sum l) p.target (length_combination p.columns l p.vertices h.wide ∙ sym h.target_length)).along x in
        record {
          along = λ x.
              of qs' x
              ∙ ap₂ (λ z w. z -ℤ pos w *ℤ weighted fs x p.target)
              (exchange_along qs a b m gives.in_list takes.in_list right_amount.held fs p.columns p.vertices count h.wide x) total_kept
              ∙ solve (weighted fs x (combination p.columns qs p.vertices) ∷ pos m ∷ weighted fs x s ∷ weighted fs x v ∷ pos (sum qs) ∷ weighted fs x p.target ∷ [])
              (x₀ ⊕ x₁ ⊗ (x₂ ⊝ x₃) ⊝ x₄ ⊗ x₅) (x₀ ⊝ x₄ ⊗ x₅ ⊕ x₁ ⊗ (x₂ ⊝ x₃)) tt
              ∙ ap (λ z. z +ℤ pos m *ℤ (weighted fs x s -ℤ weighted fs x v)) (sym (of qs x));
        }

    -- every score moves by m <s - v, w>
    pub score_moved : (i : ℕ) → get_or (shares_scores p (moved p qs)) i (pos 0) ≡ get_or (shares_scores p qs) i (pos 0) +ℤ pos m *ℤ weighted fs (subtract s v) (row p.vertices i)
    unfolding shares_scores moved
    score_moved i =
        let w = row p.vertices i in
        score_at fs (shares_residual p qs') p.vertices i ∙ (factored fs).symmetric (shares_residual p qs') w ∙ moves_residual.along w
        ∙ ap₂ (λ x y. x +ℤ pos m *ℤ y) ((factored fs).symmetric w r ∙ sym (score_at fs r p.vertices i))
        (sym ((factored fs).symmetric (subtract s v) w ∙ weighted_subtract fs w s v (sym same_length)))

    -- r' = r + m (s - v)
    pub residual_moved : shares_residual p (moved p qs) ≡ add (shares_residual p qs) (scale m (subtract s v))
    unfolding shares_residual moved
    residual_moved =
        ap (λ n. subtract (combination p.columns qs' p.vertices) (scale n p.target)) total_kept
        ∙ exchange_lists qs a b m gives.in_list takes.in_list right_amount.held fs p.columns p.vertices count h.wide (scale (sum qs) p.target)

    lowers : mixture_distance p qs' < mixture_distance p qs
    unfolding mixture_distance shares_residual
    lowers =
        let k = right_amount.below some in
        <ℤ→< (rw (norm_weighted fs (shares_residual p qs'), norm_weighted fs (shares_residual p qs))
        (falls (factored fs) r v s (shares_residual p qs') m (nearest_down Δ d) Δ d moves_residual slope_difference apart_is some k.1 (nearest k.0)))

    pub move_right : MoveRight p qs (moved p qs)
    unfolding moved choice
    move_right =
        let ia = gives.in_list in
        let ib = takes.in_list in
        let hm = right_amount.held in
        record {
          choice = choice;
          some = some;
          gives = exchange_gives qs a b m ia ib hm differ;
          takes = exchange_takes qs a b m ia ib hm differ;
          others = exchange_others qs a b m ia ib hm;
          count = exchange_length qs a b m ia ib hm;
          total = total_kept;
          none_joins = exchange_none_joins qs a b m ia ib hm gives.holds takes.holds;
          lowers = lowers;
        }
