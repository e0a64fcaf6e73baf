-- The promise of specs/Promise.antt holds of the steps that specs/Rounds.antt defines, and of no others.
use mathlib.Core.Path.{◌≡◌, refl, ap}
use mathlib.Core.Logic.{◌⊎◌, inl, inr, ⊎_elim}
use mathlib.Core.List.{List, [], ◌∷◌}
use Prim.Native.Nat.{ℕ, suc, ◌+◌, ◌*◌, ◌/◌, ◌≤◌, ◌<◌, min}
use native.Mathlib.Omega.{arith}
use native.Mathlib.Nat.{mul_comm, mul-suc, suc-mul, div-lt_iff_lt-mul}
use lib.ListN.{length, get_or}
use lib.Seq.{ext_get_or}
use Rattle.frank_wolfe.specs.Vectors.{sum}
use Rattle.sheet_queue.specs.Rounds.{after, steps_got}
use Rattle.sheet_queue.specs.Promise.{Fair}
use Rattle.sheet_queue.proofs.Rounds.{below_or_not, after_length}
use Rattle.sheet_queue.proofs.Levels.{level, level_front, level_back, level_sum, level_top, Reached, reached, done_or_gone}

div_le : (n x y : ℕ) → 0 < n → x < n * suc y → x / n ≤ y
div_le n x y h k =
    let f : x < suc y * n = omega (arith, mul_comm n (suc y)) in
    let d : x / n < suc y = (div-lt_iff_lt-mul h).1 f in
    omega arith

-- ---- Steps in closed form

module _ (r p : ℕ) (ts ks : List ℕ) (e : ks ≡ level r p ts) where
  front : (i : ℕ) → i < p → get_or ks i 0 ≡ min (get_or ts i 0) (suc r)
  front i h = rw e (level_front r p ts i h)

  back : (i : ℕ) → p ≤ i → get_or ks i 0 ≡ min (get_or ts i 0) r
  back i h = rw e (level_back r p ts i h)

  within : (i : ℕ) → get_or ks i 0 ≤ get_or ts i 0
  within i = ⊎_elim (λ h. omega (arith, front i h)) (λ h. omega (arith, back i h)) (below_or_not i p)

  -- two sheets stand at two levels, the earlier one's as high or one higher
  spread : (i j : ℕ) → i < j → (m : ℕ) × (n : ℕ) × (get_or ks i 0 ≡ min (get_or ts i 0) m) × (get_or ks j 0 ≡ min (get_or ts j 0) n) × (n ≤ m) × (m ≤ n + 1)
  spread i j l =
      ⊎_elim
      (λ (h : i < p).
      ⊎_elim (λ k. (suc r, suc r, front i h, front j k, omega arith, omega arith)) (λ k. (suc r, r, front i h, back j k, omega arith, omega arith)) (below_or_not j p))
      (λ (h : p ≤ i). (r, r, back i h, back j (omega arith), omega arith, omega arith))
      (below_or_not i p)

  ahead : (i j : ℕ) → i < j → get_or ks i 0 < get_or ts i 0 → get_or ks j 0 ≤ get_or ks i 0
  ahead i j l u = omega (arith, spread i j l)

  behind : (i j : ℕ) → i < j → get_or ks j 0 < get_or ts j 0 → get_or ks i 0 ≤ get_or ks j 0 + 1
  behind i j l u = omega (arith, spread i j l)

  part : (i : ℕ) → i < length ts → get_or ks i 0 < get_or ts i 0 → sum ks / length ts ≤ get_or ks i 0
  part i l u =
      ⊎_elim
      (λ h.
      let k : get_or ks i 0 ≡ suc r = omega (arith, front i h) in
      rw k (div_le (length ts) (sum ks) (suc r) (omega arith) (omega (arith, ap sum e, level_top r p ts, mul-suc (length ts) (suc r)))))
      (λ h.
      let k : get_or ks i 0 ≡ r = omega (arith, back i h) in
      rw k (div_le (length ts) (sum ks) r (omega arith) (omega (arith, ap sum e, level_sum r p ts, mul-suc (length ts) r))))
      (below_or_not i p)

fair_of : (r a : ℕ) (ts ks : List ℕ) → Reached r a ts ks → length ks ≡ length ts → (ks ≡ ts) ⊎ (sum ks ≡ a) → Fair a ts ks
fair_of r a ts ks d l g =
    let e = d.levelled in
    record {
      one_each = l;
      within_allowance = d.within;
      within_own = within d.height d.first ts ks e;
      done_or_gone = g;
      share = λ i h.
          ⊎_elim (λ (f : ks ≡ ts). inl (ap (λ (x : List ℕ). get_or x i 0) f))
          (λ (f : sum ks ≡ a).
          ⊎_elim (λ u. inr (rw f at (part d.height d.first ts ks e i h u))) (λ u. inl (omega (arith, within d.height d.first ts ks e i)))
          (below_or_not (get_or ks i 0) (get_or ts i 0)))
          g;
      ahead = ahead d.height d.first ts ks e;
      behind = behind d.height d.first ts ks e;
    }

pub fair : (a : ℕ) (ts : List ℕ) → Fair a ts (steps_got a ts)
unfolding steps_got
fair a ts = fair_of a a ts (after a a ts) (reached a a ts) (after_length a a ts) (done_or_gone a ts)

-- of two unfinished sheets the earlier is level or one step ahead
pub in_order : (a : ℕ) (ts : List ℕ) (i j : ℕ) → i < j → get_or (steps_got a ts) i 0 < get_or ts i 0 → get_or (steps_got a ts) j 0 < get_or ts j 0 →
    (get_or (steps_got a ts) j 0 ≤ get_or (steps_got a ts) i 0) × (get_or (steps_got a ts) i 0 ≤ get_or (steps_got a ts) j 0 + 1)
in_order a ts i j h u v = ((fair a ts).ahead i j h u, (fair a ts).behind i j h v)

-- an allowance of a step a sheet gives every sheet one
pub everyone_starts : (a : ℕ) (ts : List ℕ) → length ts ≤ a → (i : ℕ) → i < length ts → 1 ≤ get_or ts i 0 → 1 ≤ get_or (steps_got a ts) i 0
everyone_starts a ts h i l o =
    ⊎_elim (λ e. omega arith)
    (λ e. ⊎_elim (λ (d : a / length ts < 1). absurd (omega (arith, (div-lt_iff_lt-mul {k = length ts} {x = a} {y = 1} (omega arith)).0 d))) (λ d. omega arith) (below_or_not (a / length ts) 1))
    ((fair a ts).share i l)

-- ---- No other steps are fair

pub below_sum : (ks ts : List ℕ) → length ks ≡ length ts → ((i : ℕ) → get_or ks i 0 ≤ get_or ts i 0) → sum ks ≤ sum ts
unfolding sum
below_sum [] [] l h = omega arith
below_sum [] (t ∷ ts) l h = omega arith
below_sum (k ∷ ks) [] l h = omega arith
below_sum (k ∷ ks) (t ∷ ts) l h = omega (arith, h 0, below_sum ks ts (omega arith) (λ i. h (suc i)))

pub full : (ks ts : List ℕ) → length ks ≡ length ts → ((i : ℕ) → get_or ks i 0 ≤ get_or ts i 0) → sum ts ≤ sum ks → ks ≡ ts
unfolding sum
full [] [] l h s = refl
full [] (t ∷ ts) l h s = absurd (omega arith)
full (k ∷ ks) [] l h s = absurd (omega arith)
full (k ∷ ks) (t ∷ ts) l h s =
    let m : length ks ≡ length ts = omega arith in
    let b = below_sum ks ts m (λ i. h (suc i)) in
    let e : k ≡ t = omega (arith, h 0, b) in
    rw (e, full ks ts m (λ i. h (suc i)) (omega (arith, h 0, b)))

module _ (a : ℕ) (ts ks ms : List ℕ) (f : Fair a ts ks) (g : Fair a ts ms) where
  -- where one sheet has fewer steps, none has more
  fewer : (i : ℕ) → get_or ms i 0 < get_or ks i 0 → (j : ℕ) → get_or ms j 0 ≤ get_or ks j 0
  fewer i h j =
      ⊎_elim
      (λ (u : get_or ks j 0 < get_or ts j 0).
      ⊎_elim
      (λ (l : j < i). omega (arith, g.behind j i l (omega (arith, f.within_own i)), f.ahead j i l u))
      (λ (l : i ≤ j).
      ⊎_elim (λ (k : i < j). omega (arith, g.ahead i j k (omega (arith, f.within_own i)), f.behind i j k u)) (λ (k : j ≤ i). let e : j ≡ i = omega arith in rw e (omega arith))
      (below_or_not i j))
      (below_or_not j i))
      (λ u. omega (arith, f.within_own j, g.within_own j))
      (below_or_not (get_or ks j 0) (get_or ts j 0))

  no_more : (i : ℕ) → get_or ks i 0 ≤ get_or ms i 0
  no_more i =
      ⊎_elim
      (λ h.
      let total : sum ks ≤ sum ms =
      ⊎_elim (λ e. absurd (omega (arith, f.within_own i, ap (λ (x : List ℕ). get_or x i 0) e))) (λ e. omega (arith, f.within_allowance)) g.done_or_gone
      in
      let e = full ms ks (omega (arith, f.one_each, g.one_each)) (fewer i h) total in
      absurd (omega (arith, ap (λ (x : List ℕ). get_or x i 0) e)))
      (λ h. h)
      (below_or_not (get_or ms i 0) (get_or ks i 0))

pub same : (a : ℕ) (ts ks ms : List ℕ) → Fair a ts ks → Fair a ts ms → ks ≡ ms
same a ts ks ms f g =
    ext_get_or 0 ks ms (omega (arith, f.one_each, g.one_each)) (λ i _. omega (arith, no_more a ts ks ms f g i, no_more a ts ms ks g f i))

pub only : (a : ℕ) (ts ks : List ℕ) → Fair a ts ks → ks ≡ steps_got a ts
only a ts ks f = same a ts ks (steps_got a ts) f (fair a ts)

-- however many rounds, once all are finished or the allowance is gone
pub settled : (r a : ℕ) (ts : List ℕ) → (after r a ts ≡ ts) ⊎ (sum (after r a ts) ≡ a) → after r a ts ≡ steps_got a ts
settled r a ts g = only a ts (after r a ts) (fair_of r a ts (after r a ts) (reached r a ts) (after_length r a ts) g)

-- ---- An allowance that is enough

pub enough : (a : ℕ) (ts : List ℕ) → sum ts ≤ a → steps_got a ts ≡ ts
enough a ts h =
    let f = fair a ts in
    ⊎_elim (λ e. e) (λ e. full (steps_got a ts) ts f.one_each f.within_own (omega arith)) f.done_or_gone

sum_at_most : (m : ℕ) (ts : List ℕ) → ((i : ℕ) → get_or ts i 0 ≤ m) → sum ts ≤ length ts * m
unfolding sum
sum_at_most m [] h = omega arith
sum_at_most m (t ∷ ts) h = omega (arith, h 0, suc-mul (length ts) m, sum_at_most m ts (λ i. h (suc i)))

pub all_finish : (a : ℕ) (ts : List ℕ) → length ts ≤ 16 → ((i : ℕ) → get_or ts i 0 ≤ 360) → 5760 ≤ a → steps_got a ts ≡ ts
all_finish a ts l h k = enough a ts (omega (arith, sum_at_most 360 ts h))
