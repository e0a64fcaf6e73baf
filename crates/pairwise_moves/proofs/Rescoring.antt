-- A pass over the listed boats: the scores of those that hold shares are moved, and the greatest and the least are found. Assumes nothing.
use mathlib.Core.Path.{◌≡◌, refl, sym, ap, ◌∙◌}
use mathlib.Core.Bool.{cond}
use mathlib.Core.List.{List, [], ◌∷◌, ◌++◌}
use Prim.Native.Nat.{ℕ, zero, suc, ◌+◌, ◌-◌, ◌≤◌, ◌<◌}
use native.Mathlib.Omega.{arith}
use native.Mathlib.Numerals.{add-one}
use borrow.Author.Tests.{eq-eqb, ne_eqb}
use lib.Dec.{eqb}
use lib.IntN.{ℤ, pos, negsuc, nat_abs, ◌+ℤ◌, ◌-ℤ◌, ◌*ℤ◌}
use lib.ListN.{length, get_or, take, drop, set, length-drop}
use lib.Seq.{length-take-le, get_or-take, get_or-drop, set-get_or, take_at}
use Rattle.integers.proofs.Bounds.{abs_add, abs_mul_le}
use Rattle.integers.proofs.Filling.{Filled, filled_start, filled_long, filled_later, filled_more, filled_end}
use Rattle.files.specs.Limits.{total_limit}
use Rattle.frank_wolfe.specs.Vectors.{subtract}
use Rattle.frank_wolfe.proofs.Vectors.{length_subtract}
use Rattle.sums.specs.Operands.{ScoreSized}
use Rattle.pairwise.specs.Moves.{greater, less}
use Rattle.pairwise.proofs.Foremost.{positive}
use Rattle.pairwise_moves.specs.declared.Pair.{Pair}
use Rattle.pairwise_moves.specs.declared.Found.{Found}
use Rattle.pairwise_moves.specs.Passes.{pair_of, ahead, held_moved, Idle, Lists, Listed, MovableScores}
use Rattle.pairwise_moves.proofs.Listing.{opened}
use Rattle.pairwise_moves.proofs.Leading.{Leading, leading_start, leading_idle, leading_held, above_edge, below_edge, foremost_take}

pub length_moved : (m : ℕ) (qs : List ℕ) (xs ps : List ℤ) → length (held_moved m qs xs ps) ≡ length ps
unfolding held_moved
length_moved m [] xs ps = refl
length_moved m (q ∷ qs) [] ps = refl
length_moved m (q ∷ qs) (x ∷ xs) [] = refl
length_moved m (q ∷ qs) (x ∷ xs) (p ∷ ps) = ap suc (length_moved m qs xs ps)

pub moved_at : (m : ℕ) (qs : List ℕ) (xs ps : List ℤ) (i : ℕ) → i < length qs → i < length xs → i < length ps →
    get_or (held_moved m qs xs ps) i (pos 0) ≡ cond (eqb (get_or qs i 0) 0) (get_or ps i (pos 0)) (get_or ps i (pos 0) +ℤ pos m *ℤ get_or xs i (pos 0))
unfolding held_moved
moved_at m [] xs ps i a b c = absurd (omega arith)
moved_at m (q ∷ qs) [] ps i a b c = absurd (omega arith)
moved_at m (q ∷ qs) (x ∷ xs) [] i a b c = absurd (omega arith)
moved_at m (q ∷ qs) (x ∷ xs) (p ∷ ps) zero a b c = refl
moved_at m (q ∷ qs) (x ∷ xs) (p ∷ ps) (suc i) a b c = moved_at m qs xs ps i (omega arith) (omega arith) (omega arith)

pub subtract_at : (x y : List ℤ) (i : ℕ) → i < length x → i < length y → get_or (subtract x y) i (pos 0) ≡ get_or x i (pos 0) -ℤ get_or y i (pos 0)
unfolding subtract
subtract_at [] y i a b = absurd (omega arith)
subtract_at (p ∷ x) [] i a b = absurd (omega arith)
subtract_at (p ∷ x) (q ∷ y) zero a b = refl
subtract_at (p ∷ x) (q ∷ y) (suc i) a b = subtract_at x y i (omega arith) (omega arith)

-- what passes from each boat to the next passes on to any later boat
onward : (P : ℕ → Type 0) (g k i : ℕ) → k + g ≡ i → ((x : ℕ) → k ≤ x → x < i → P x → P (suc x)) → P k → P i
onward P zero k i e f p = let z : k ≡ i = omega arith in rw z at p
onward P (suc g) k i e f p = onward P g (suc k) i (omega arith) (λ x a b. f x (omega arith) b) (f k (omega arith) (omega arith) p)

-- the edges that no score reaches
abbrev pub lowest : Found
lowest = record { boat = 0; score = negsuc 999999999999999999 }

abbrev pub highest : Found
highest = record { boat = 0; score = pos 1000000000000000000 }

module _ (old : List ℤ) (sh : List ℕ) (n m : ℕ) (mem : List ℤ) (tk gv : ℕ) where
  abbrev pub products : List ℤ
  products = subtract (take n (drop tk mem)) (take n (drop gv mem))

  abbrev pub whole : List ℤ
  whole = held_moved m (take n sh) (subtract (take n (drop tk mem)) (take n (drop gv mem))) (take n old)

-- the boats before i are passed
pub record Passing (old : List ℤ) (sh : List ℕ) (n m : ℕ) (mem : List ℤ) (tk gv : ℕ) (new : List ℤ) (most least : Found) (i : ℕ) : Type 0 where
  pub filled : Filled old (held_moved m (take n sh) (subtract (take n (drop tk mem)) (take n (drop gv mem))) (take n old)) i new
  pub most_is : Leading greater (negsuc 999999999999999999) sh (held_moved m (take n sh) (subtract (take n (drop tk mem)) (take n (drop gv mem))) (take n old)) i most
  pub least_is : Leading less (pos 1000000000000000000) sh (held_moved m (take n sh) (subtract (take n (drop tk mem)) (take n (drop gv mem))) (take n old)) i least

-- boat i is in slot j of the list
pub record Walking (old : List ℤ) (sh list : List ℕ) (n m : ℕ) (mem : List ℤ) (tk gv : ℕ) (new : List ℤ) (most least : Found) (j i : ℕ) : Type 0 where
  pub passing : Passing old sh n m mem tk gv new most least i
  pub inside : j < length list
  pub most_boats : i ≤ n
  pub rest : i < n → Lists sh n (suc i) (drop (suc j) list)

module _ {old : List ℤ} {sh : List ℕ} {n m : ℕ} {mem : List ℤ} {tk gv : ℕ} (z : MovableScores old sh n m mem tk gv) where
  row_long : (at : ℕ) → at + n ≤ length mem → length (take n (drop at mem)) ≡ n
  row_long at h = length-take-le n (drop at mem) (rw length-drop (omega arith))

  product_count : length (products old sh n m mem tk gv) ≡ n
  product_count = length_subtract (take n (drop tk mem)) (take n (drop gv mem)) (row_long tk z.takes_room ∙ sym (row_long gv z.gives_room)) ∙ row_long tk z.takes_room

  pub product_at : (i : ℕ) → i < n → get_or (products old sh n m mem tk gv) i (pos 0) ≡ get_or mem (tk + i) (pos 0) -ℤ get_or mem (gv + i) (pos 0)
  product_at i h =
      subtract_at (take n (drop tk mem)) (take n (drop gv mem)) i (rw (row_long tk z.takes_room) h) (rw (row_long gv z.gives_room) h)
      ∙ rw (get_or-take n (drop tk mem) i (pos 0) h, get_or-take n (drop gv mem) i (pos 0) h, get_or-drop tk mem i (pos 0), get_or-drop gv mem i (pos 0))

  old_front : length (take n old) ≡ n
  old_front = length-take-le n old z.score_sizes.long

  share_front : length (take n sh) ≡ n
  share_front = length-take-le n sh z.in_shares

  count : length (whole old sh n m mem tk gv) ≡ n
  count = length_moved m (take n sh) (products old sh n m mem tk gv) (take n old) ∙ old_front

  room : length (whole old sh n m mem tk gv) ≤ length old
  room = rw count z.score_sizes.long

  whole_at : (i : ℕ) → i < n → get_or (whole old sh n m mem tk gv) i (pos 0) ≡ cond (eqb (get_or sh i 0) 0) (get_or old i (pos 0)) (get_or old i (pos 0) +ℤ pos m *ℤ (get_or mem (tk + i) (pos 0) -ℤ get_or mem (gv + i) (pos 0)))
  whole_at i h =
      moved_at m (take n sh) (products old sh n m mem tk gv) (take n old) i (rw share_front h) (rw product_count h) (rw old_front h)
      ∙ rw (get_or-take n sh i 0 h, get_or-take n old i (pos 0) h, product_at i h)

  pub passing_start : Passing old sh n m mem tk gv old lowest highest 0
  passing_start =
      record {
        filled = filled_start;
        most_is = leading_start greater (negsuc 999999999999999999) sh (whole old sh n m mem tk gv);
        least_is = leading_start less (pos 1000000000000000000) sh (whole old sh n m mem tk gv);
      }

  module _ {new : List ℤ} {most least : Found} where
    module _ {i : ℕ} (p : Passing old sh n m mem tk gv new most least i) where
      pub passing_long : length new ≡ length old
      passing_long = filled_long p.filled room

      module _ (h : i < n) where
        later : get_or new i (pos 0) ≡ get_or old i (pos 0)
        later = filled_later p.filled room (pos 0) i (omega arith)

        pub passing_idle : get_or sh i 0 ≡ 0 → Passing old sh n m mem tk gv new most least (suc i)
        passing_idle e =
            record {
              filled = rw (set-get_or, add-one) at (filled_more p.filled room (pos 0) (rw count h) {x = get_or new i (pos 0)} (later ∙ sym (whole_at i h ∙ rw (eq-eqb (get_or sh i 0) 0 e))));
              most_is = leading_idle greater (negsuc 999999999999999999) sh (whole old sh n m mem tk gv) i most p.most_is e;
              least_is = leading_idle less (pos 1000000000000000000) sh (whole old sh n m mem tk gv) i least p.least_is e;
            }

        -- the score that is moved, and its product
        pub score_sized : {x : ℤ} → x ≡ get_or mem (tk + i) (pos 0) -ℤ get_or mem (gv + i) (pos 0) → ScoreSized (get_or new i (pos 0)) m x
        score_sized e = record { few_shares = z.few_shares; score_size = rw later (z.score_sizes.each i h); product_size = rw e (z.products i h).size }

        module _ (some : get_or sh i 0 ≡ 0 → ⊥) {x y : ℤ} (ex : x ≡ get_or mem (tk + i) (pos 0) -ℤ get_or mem (gv + i) (pos 0)) (ey : y ≡ get_or new i (pos 0) +ℤ pos m *ℤ x) where
          moved_is : y ≡ get_or (whole old sh n m mem tk gv) i (pos 0)
          moved_is = ey ∙ rw (later, ex) (sym (whole_at i h ∙ rw (ne_eqb (get_or sh i 0) 0 some)))

          moved_size : nat_abs y ≤ 66539520000000
          moved_size =
              rw (ey, later, ex)
              (omega (
                arith,
                abs_add (get_or old i (pos 0)) (pos m *ℤ (get_or mem (tk + i) (pos 0) -ℤ get_or mem (gv + i) (pos 0))),
                z.score_sizes.each i h,
                abs_mul_le (pos m) (get_or mem (tk + i) (pos 0) -ℤ get_or mem (gv + i) (pos 0)) total_limit 512000000 z.few_shares (z.products i h).size,
              ))

          pub passing_held : Passing old sh n m mem tk gv (set new i y) (ahead greater most i y) (ahead less least i y) (suc i)
          passing_held =
              record {
                filled = rw add-one at (filled_more p.filled room (pos 0) (rw count h) moved_is);
                most_is = leading_held greater (negsuc 999999999999999999) sh (whole old sh n m mem tk gv) i most p.most_is (positive (get_or sh i 0) some) y moved_is (above_edge y moved_size);
                least_is = leading_held less (pos 1000000000000000000) sh (whole old sh n m mem tk gv) i least p.least_is (positive (get_or sh i 0) some) y moved_is (below_edge y moved_size);
              }

    -- as the code has it: the score stored, and the boats found by it
    pub passing_moved : {i : ℕ} (p : Passing old sh n m mem tk gv new most least i) (h : i < n) → (get_or sh i 0 ≡ 0 → ⊥) → {x y v : ℤ} → x ≡ get_or mem (tk + i) (pos 0) -ℤ get_or mem (gv + i) (pos 0) →
        y ≡ get_or new i (pos 0) +ℤ pos m *ℤ x → v ≡ y → {next : List ℤ} → next ≡ set new i v → {most' least' : Found} → most' ≡ ahead greater most i v → least' ≡ ahead less least i v →
        Passing old sh n m mem tk gv next most' least' (suc i)
    passing_moved p h some ex ey ev en em el = rw (en, em, el) (passing_held p h some ex (ev ∙ ey))

    passing_on : (k i : ℕ) → k ≤ i → i ≤ n → Idle sh k i → Passing old sh n m mem tk gv new most least k → Passing old sh n m mem tk gv new most least i
    passing_on k i a b idle p = onward (λ x. Passing old sh n m mem tk gv new most least x) (i - k) k i (omega arith) (λ x c d q. passing_idle q (omega arith) (idle x c d)) p

    -- ---- The walk along the list

    arrives : (list : List ℕ) (k j : ℕ) → Lists sh n k (drop j list) → Passing old sh n m mem tk gv new most least k → Walking old sh list n m mem tk gv new most least j (get_or list j 0)
    arrives list k j l p =
        let o = opened sh n k list j l in
        record { passing = passing_on k (get_or list j 0) o.later o.most o.idle p; inside = o.inside; most_boats = o.most; rest = o.rest }

  pub walking_start : {list : List ℕ} → Listed sh n list → Walking old sh list n m mem tk gv old lowest highest 0 (get_or list 0 0)
  walking_start {list} l = arrives list 0 0 l.all passing_start

  pub list_starts : {list : List ℕ} → Listed sh n list → 0 < length list
  list_starts {list} l = (opened sh n 0 list 0 l.all).inside

  module _ {list : List ℕ} {new : List ℤ} {most least : Found} {j i : ℕ} (w : Walking old sh list n m mem tk gv new most least j i) (h : i < n) where
    pub list_goes_on : j + 1 < length list
    list_goes_on = let k = add-one j in rw k (opened sh n (suc i) list (suc j) (w.rest h)).inside

    pub walking_later : i < get_or list (j + 1) 0
    walking_later = let k = add-one j in rw k (opened sh n (suc i) list (suc j) (w.rest h)).later

    pub walking_most : get_or list (j + 1) 0 ≤ n
    walking_most = let k = add-one j in rw k (opened sh n (suc i) list (suc j) (w.rest h)).most

    pub walking_next : {next : List ℤ} {most' least' : Found} → Passing old sh n m mem tk gv next most' least' (suc i) → Walking old sh list n m mem tk gv next most' least' (j + 1) (get_or list (j + 1) 0)
    walking_next p = let k = add-one j in rw k (arrives list (suc i) (suc j) (w.rest h) p)

  pub walking_end : {list : List ℕ} {new : List ℤ} {most least : Found} {j i : ℕ} → Walking old sh list n m mem tk gv new most least j i → n ≤ i →
      (new ≡ whole old sh n m mem tk gv ++ drop n old) × (◌≡◌ {A = Pair} (record { from = most.boat; to = least.boat }) (pair_of (take n sh) (take n new)))
  unfolding pair_of
  walking_end {new = new} {i = i} w h =
      let f = filled_end w.passing.filled (rw count h) in
      let g : new ≡ whole old sh n m mem tk gv ++ drop n old = rw count at f in
      let e : i ≡ n = omega (arith, w.most_boats) in
      (g, rw (g, take_at (whole old sh n m mem tk gv) (drop n old) n count, share_front, foremost_take greater n n sh (whole old sh n m mem tk gv) (omega arith), foremost_take less n n sh (whole old sh n m mem tk gv) (omega arith), w.passing.most_is.boat_is, w.passing.least_is.boat_is, e))
