-- What is listed of the boats that may be used, and their shares in the slots of all boats: lengths, sums, mixtures, both ways. What a set that is
-- handed in must be, and that the problem of the released boats keeps what the proofs ask of a problem.
use mathlib.Core.Path.{◌≡◌, refl, sym, ap, ap₂, ◌∙◌}
use mathlib.Core.Bool.{Bool, true, false, ◌&&◌, cond}
use mathlib.Core.List.{List, [], ◌∷◌, ◌++◌, map}
use Prim.Native.Nat.{ℕ, zero, suc, ◌+◌, ◌*◌, ◌-◌, ◌/◌, ◌%◌, ◌^◌, ◌≤◌, ◌<◌}
use native.Mathlib.Nat.{zero-add, add-zero, zero-div, lt_of_not-le}
use native.Mathlib.Omega.{arith}
use borrow.Author.Tests.{ltb-true, ltb-false, eqb-true, lt-ltb, ne_eqb}
use lib.Dec.{eqb, ltb}
use lib.IntN.{ℤ, pos}
use lib.ListN.{length, get_or, drop, replicate, drop_of_length-le, get_or-eq_default}
use lib.Seq.{drop-cons, get_or-drop, drop-drop}
use Rattle.integers.proofs.Solver.{con, ◌⊕◌, ◌⊗◌, x₀, x₁, solve}
use Rattle.frank_wolfe.specs.Vectors.{add, scale, subtract, weighted, weighted_norm, sum, combination, Among, here, there}
use Rattle.frank_wolfe.proofs.Vectors.{Wide, wide_rest, length_combination}
use Rattle.files.proofs.Refusal.{and_true}
use Rattle.files.proofs.Accepted.{passed_last}
use Rattle.method.specs.ReleasedBoats.{Usable, every, only, usable_by, may_use, used_from, set_refusal, kept, gather, scatter_from, scatter, RestsOn}
use Rattle.method.specs.Problem.{Problem, on_released}
use Rattle.method.specs.Iterates.{support}
use Rattle.method.proofs.Mixtures.{WellFormed, InRange, Sized}

-- ---- What is listed of the boats that may be used

-- boat j after the one that follows boat i
next : (i j : ℕ) → i + suc j ≡ suc i + j
next i j = omega arith

pub length_kept : {A : Type 0} (u : Usable) (i : ℕ) (xs : List A) → length (kept u i xs) ≡ length (used_from u i (length xs))
unfolding kept used_from
length_kept u i [] = refl
length_kept u i (x ∷ xs) = by (may_use u i) (length_kept u (suc i) xs)
  where
    by : (t : Bool) → length (kept u (suc i) xs) ≡ length (used_from u (suc i) (length xs)) →
        length (cond t (x ∷ kept u (suc i) xs) (kept u (suc i) xs)) ≡ length (cond t (i ∷ used_from u (suc i) (length xs)) (used_from u (suc i) (length xs)))
    by true e = ap suc e
    by false e = e

kept_among : (u : Usable) (i : ℕ) (vs : List (List ℤ)) {v : List ℤ} → Among (kept u i vs) v → Among vs v
unfolding kept
kept_among u i [] a = a
kept_among u i (x ∷ vs) {v} a = by (may_use u i) (λ w b. kept_among u (suc i) vs b) a
  where
    by : (t : Bool) {w : List ℤ} → ((w : List ℤ) → Among (kept u (suc i) vs) w → Among vs w) → Among (cond t (x ∷ kept u (suc i) vs) (kept u (suc i) vs)) w → Among (x ∷ vs) w
    by true f here = here
    by true f (there {v = w} b) = there (f w b)
    by false {w} f b = there (f w b)

-- boats that agree where they are released
kept_same : {A : Type 0} (u : Usable) (d : A) (i : ℕ) (xs ys : List A) → length xs ≡ length ys →
    ((j : ℕ) → j < length xs → may_use u (i + j) ≡ true → get_or xs j d ≡ get_or ys j d) → kept u i xs ≡ kept u i ys
unfolding kept
kept_same u d i [] [] e f = refl
kept_same u d i [] (y ∷ ys) e f = absurd (omega arith)
kept_same u d i (x ∷ xs) [] e f = absurd (omega arith)
kept_same u d i (x ∷ xs) (y ∷ ys) e f = by (may_use u i) refl (kept_same u d (suc i) xs ys (omega arith) (λ j h q. f (suc j) (omega arith) (rw (next i j) q)))
  where
    by : (t : Bool) → may_use u i ≡ t → kept u (suc i) xs ≡ kept u (suc i) ys →
        cond t (x ∷ kept u (suc i) xs) (kept u (suc i) xs) ≡ cond t (y ∷ kept u (suc i) ys) (kept u (suc i) ys)
    by true q r = ap₂ ◌∷◌ (f 0 (omega arith) (rw (add-zero i) q)) r
    by false q r = r

kept_all : {A : Type 0} (u : Usable) (i : ℕ) (xs : List A) → ((j : ℕ) → j < length xs → may_use u (i + j) ≡ true) → kept u i xs ≡ xs
unfolding kept
kept_all u i [] f = refl
kept_all u i (x ∷ xs) f =
    let q : may_use u i ≡ true = rw (add-zero i) at (f 0 (omega arith)) in
    rw q (ap (λ l. x ∷ l) (kept_all u (suc i) xs (λ j h. rw (next i j) at (f (suc j) (omega arith)))))

-- the list of the released boats: each is released, and they ascend
released_least : (u : Usable) (i n j : ℕ) → j < length (used_from u i n) → i ≤ get_or (used_from u i n) j 0
unfolding used_from
released_least u i zero j h = absurd (omega arith)
released_least u i (suc n) j h = by (may_use u i) (λ k l. released_least u (suc i) n k l) j h
  where
    by : (t : Bool) → ((k : ℕ) → k < length (used_from u (suc i) n) → suc i ≤ get_or (used_from u (suc i) n) k 0) → (j : ℕ) →
        j < length (cond t (i ∷ used_from u (suc i) n) (used_from u (suc i) n)) → i ≤ get_or (cond t (i ∷ used_from u (suc i) n) (used_from u (suc i) n)) j 0
    by true f zero h = omega arith
    by true f (suc j) h = omega (arith, f j (omega arith))
    by false f j h = omega (arith, f j h)

pub released_ascends : (u : Usable) (i n j : ℕ) → suc j < length (used_from u i n) → get_or (used_from u i n) j 0 < get_or (used_from u i n) (suc j) 0
unfolding used_from
released_ascends u i zero j h = absurd (omega arith)
released_ascends u i (suc n) j h = by (may_use u i) (λ k l. released_ascends u (suc i) n k l) j h
  where
    by : (t : Bool) → ((k : ℕ) → suc k < length (used_from u (suc i) n) → get_or (used_from u (suc i) n) k 0 < get_or (used_from u (suc i) n) (suc k) 0) → (j : ℕ) →
        suc j < length (cond t (i ∷ used_from u (suc i) n) (used_from u (suc i) n)) →
        get_or (cond t (i ∷ used_from u (suc i) n) (used_from u (suc i) n)) j 0 < get_or (cond t (i ∷ used_from u (suc i) n) (used_from u (suc i) n)) (suc j) 0
    by true f zero h = released_least u (suc i) n 0 (omega arith)
    by true f (suc j) h = f j (omega arith)
    by false f j h = f j h

pub released_used : (u : Usable) (i n j : ℕ) → j < length (used_from u i n) → may_use u (get_or (used_from u i n) j 0) ≡ true
unfolding used_from
released_used u i zero j h = absurd (omega arith)
released_used u i (suc n) j h = by (may_use u i) refl (λ k l. released_used u (suc i) n k l) j h
  where
    by : (t : Bool) → may_use u i ≡ t → ((k : ℕ) → k < length (used_from u (suc i) n) → may_use u (get_or (used_from u (suc i) n) k 0) ≡ true) → (j : ℕ) →
        j < length (cond t (i ∷ used_from u (suc i) n) (used_from u (suc i) n)) →
        may_use u (get_or (cond t (i ∷ used_from u (suc i) n) (used_from u (suc i) n)) j 0) ≡ true
    by true q f zero h = q
    by true q f (suc j) h = f j (omega arith)
    by false q f j h = f j h

-- they say which: vertex j of their problem is the row of entry j
pub kept_numbered : {A : Type 0} (u : Usable) (d : A) (xs : List A) (i m : ℕ) → i + m ≡ length xs → kept u i (drop i xs) ≡ map (λ k. get_or xs k d) (used_from u i m)
unfolding kept used_from
kept_numbered u d xs i zero e = rw (drop_of_length-le xs {i = i} (omega arith))
kept_numbered u d xs i (suc m) e = rw (drop-cons xs i d (omega arith)) (by (may_use u i) (kept_numbered u d xs (suc i) m (omega arith)))
  where
    by : (t : Bool) → kept u (suc i) (drop (suc i) xs) ≡ map (λ k. get_or xs k d) (used_from u (suc i) m) →
        cond t (get_or xs i d ∷ kept u (suc i) (drop (suc i) xs)) (kept u (suc i) (drop (suc i) xs)) ≡ map (λ k. get_or xs k d) (cond t (i ∷ used_from u (suc i) m) (used_from u (suc i) m))
    by true f = ap (λ l. get_or xs i d ∷ l) f
    by false f = f

-- ---- Mixtures

-- 0 v + x = x
add_none : (c : ℕ) (v x : List ℤ) → length v ≡ c → length x ≡ c → add (scale 0 v) x ≡ x
unfolding add scale
add_none c [] [] e f = refl
add_none c [] (b ∷ x) e f = absurd (omega arith)
add_none c (a ∷ v) [] e f = absurd (omega arith)
add_none zero (a ∷ v) (b ∷ x) e f = absurd (omega arith)
add_none (suc c) (a ∷ v) (b ∷ x) e f = ap₂ ◌∷◌ (solve (a ∷ b ∷ []) (con (pos 0) ⊗ x₀ ⊕ x₁) x₁ tt) (add_none c v x (omega arith) (omega arith))

-- from boat i on
abbrev RestsFrom : (u : Usable) → (i : ℕ) → List ℕ → Type 0
RestsFrom u i zs = (j : ℕ) → may_use u (i + j) ≡ false → get_or zs j 0 ≡ 0

rests_all : (u : Usable) (zs : List ℕ) → RestsOn u zs → RestsFrom u 0 zs
rests_all u zs r j q = r j (rw (zero-add j) at q)

rests_next : (u : Usable) (i z : ℕ) (zs : List ℕ) → RestsFrom u i (z ∷ zs) → RestsFrom u (suc i) zs
rests_next u i z zs r j q = r (suc j) (rw (next i j) q)

rests_first : (u : Usable) (i z : ℕ) (zs : List ℕ) → RestsFrom u i (z ∷ zs) → may_use u i ≡ false → z ≡ 0
rests_first u i z zs r q = r 0 (rw (add-zero i) q)

combination_kept : (u : Usable) (c i : ℕ) (zs : List ℕ) (vs : List (List ℤ)) → length zs ≡ length vs → Wide c vs → RestsFrom u i zs →
    combination c (kept u i zs) (kept u i vs) ≡ combination c zs vs
unfolding kept combination
combination_kept u c i [] [] e w r = refl
combination_kept u c i [] (v ∷ vs) e w r = absurd (omega arith)
combination_kept u c i (z ∷ zs) [] e w r = absurd (omega arith)
combination_kept u c i (z ∷ zs) (v ∷ vs) e w r = by (may_use u i) refl (combination_kept u c (suc i) zs vs (omega arith) (wide_rest w) (rests_next u i z zs r))
  where
    by : (t : Bool) → may_use u i ≡ t → combination c (kept u (suc i) zs) (kept u (suc i) vs) ≡ combination c zs vs →
        combination c (cond t (z ∷ kept u (suc i) zs) (kept u (suc i) zs)) (cond t (v ∷ kept u (suc i) vs) (kept u (suc i) vs)) ≡ add (scale z v) (combination c zs vs)
    by true q f = ap (add (scale z v)) f
    by false q f = rw (rests_first u i z zs r q) (f ∙ sym (add_none c v _ (w.each v here) (length_combination c zs vs (wide_rest w))))

sum_kept : (u : Usable) (i : ℕ) (zs : List ℕ) → RestsFrom u i zs → sum (kept u i zs) ≡ sum zs
unfolding kept sum
sum_kept u i [] r = refl
sum_kept u i (z ∷ zs) r = by (may_use u i) refl (sum_kept u (suc i) zs (rests_next u i z zs r))
  where
    by : (t : Bool) → may_use u i ≡ t → sum (kept u (suc i) zs) ≡ sum zs → sum (cond t (z ∷ kept u (suc i) zs) (kept u (suc i) zs)) ≡ z + sum zs
    by true q f = ap (λ n. z + n) f
    by false q f = omega (arith, f, rests_first u i z zs r q)

support_kept : (u : Usable) (i : ℕ) (zs : List ℕ) → RestsFrom u i zs → support (kept u i zs) ≡ support zs
unfolding kept support
support_kept u i [] r = refl
support_kept u i (z ∷ zs) r = by (may_use u i) refl (support_kept u (suc i) zs (rests_next u i z zs r))
  where
    by : (t : Bool) → may_use u i ≡ t → support (kept u (suc i) zs) ≡ support zs →
        support (cond t (z ∷ kept u (suc i) zs) (kept u (suc i) zs)) ≡ cond (eqb z 0) 0 1 + support zs
    by true q f = ap (λ n. cond (eqb z 0) 0 1 + n) f
    by false q f = rw (rests_first u i z zs r q) (omega (arith, f))

-- ---- Slots

pub length_scatter_from : (u : Usable) (i n : ℕ) (qs : List ℕ) → length (scatter_from u i n qs) ≡ n
unfolding scatter_from
length_scatter_from u i zero qs = refl
length_scatter_from u i (suc n) qs = ap suc (length_scatter_from u (suc i) n _)

-- as a loop writes them: `k` shares are put already
pub scatter_next : (u : Usable) (i n : ℕ) (qs : List ℕ) (k : ℕ) →
    scatter_from u i (suc n) (drop k qs) ≡ cond (may_use u i) (get_or qs k 0) 0 ∷ scatter_from u (suc i) n (drop (k + cond (may_use u i) 1 0) qs)
unfolding scatter_from
scatter_next u i n qs k = by (may_use u i)
  where
    by : (t : Bool) → ◌≡◌ {A = List ℕ} (cond t (get_or (drop k qs) 0 0) 0 ∷ scatter_from u (suc i) n (cond t (drop 1 (drop k qs)) (drop k qs)))
        (cond t (get_or qs k 0) 0 ∷ scatter_from u (suc i) n (drop (k + cond t 1 0) qs))
    by true = rw (get_or-drop k qs 0 0, drop-drop 1 k qs, add-zero k)
    by false = rw (add-zero k)

scatter_rests : (u : Usable) (i n : ℕ) (qs : List ℕ) → RestsFrom u i (scatter_from u i n qs)
unfolding scatter_from
scatter_rests u i zero qs j q = refl
scatter_rests u i (suc n) qs zero q = let e : may_use u i ≡ false = rw (add-zero i) at q in rw e
scatter_rests u i (suc n) qs (suc j) q = scatter_rests u (suc i) n _ j (rw (next i j) at q)

kept_scatter : (u : Usable) (i n : ℕ) (qs : List ℕ) → length qs ≡ length (used_from u i n) → kept u i (scatter_from u i n qs) ≡ qs
unfolding kept scatter_from used_from
kept_scatter u i zero [] e = refl
kept_scatter u i zero (q ∷ qs) e = absurd (omega arith)
kept_scatter u i (suc n) qs e = by (may_use u i) (λ rs f. kept_scatter u (suc i) n rs f) qs e
  where
    by : (t : Bool) → ((rs : List ℕ) → length rs ≡ length (used_from u (suc i) n) → kept u (suc i) (scatter_from u (suc i) n rs) ≡ rs) → (qs : List ℕ) → length qs ≡ length (cond t (i ∷ used_from u (suc i) n) (used_from u (suc i) n)) →
        cond t (cond t (get_or qs 0 0) 0 ∷ kept u (suc i) (scatter_from u (suc i) n (cond t (drop 1 qs) qs))) (kept u (suc i) (scatter_from u (suc i) n (cond t (drop 1 qs) qs))) ≡ qs
    by true f [] e = absurd (omega arith)
    by true f (q ∷ qs) e = ap (λ l. q ∷ l) (f qs (omega arith))
    by false f qs e = f qs e

scatter_kept : (u : Usable) (i : ℕ) (zs : List ℕ) → RestsFrom u i zs → scatter_from u i (length zs) (kept u i zs) ≡ zs
unfolding kept scatter_from
scatter_kept u i [] r = refl
scatter_kept u i (z ∷ zs) r = by (may_use u i) refl (scatter_kept u (suc i) zs (rests_next u i z zs r))
  where
    by : (t : Bool) → may_use u i ≡ t → scatter_from u (suc i) (length zs) (kept u (suc i) zs) ≡ zs →
        ◌≡◌ {A = List ℕ} (cond t (get_or (cond t (z ∷ kept u (suc i) zs) (kept u (suc i) zs)) 0 0) 0 ∷
        scatter_from u (suc i) (length zs) (cond t (drop 1 (cond t (z ∷ kept u (suc i) zs) (kept u (suc i) zs))) (cond t (z ∷ kept u (suc i) zs) (kept u (suc i) zs)))) (z ∷ zs)
    by true q f = ap (λ l. z ∷ l) f
    by false q f = ap₂ ◌∷◌ (sym (rests_first u i z zs r q)) f

-- ---- The set

-- a set that is not handed in is not read
pub unlimited : (set : List ℕ) → usable_by false set ≡ every
unlimited set = refl

pub every_used : (i : ℕ) → may_use every i ≡ true
unfolding may_use
every_used i = refl

-- bit b of byte k is for boat 8 k + b
pub bit_of : (set : List ℕ) (k b : ℕ) → b < 8 → may_use (only set) (8 * k + b) ≡ eqb (get_or set k 0 / 2 ^ b % 2) 1
unfolding may_use
bit_of set k b h =
    let q : (8 * k + b) / 8 ≡ k = omega arith in
    let r : (8 * k + b) % 8 ≡ b = omega arith in
    rw (q, r)

none_from : (u : Usable) (i m : ℕ) → length (used_from u i m) ≡ 0 → (j : ℕ) → j < m → may_use u (i + j) ≡ false
unfolding used_from
none_from u i zero e j h = absurd (omega arith)
none_from u i (suc m) e j h = by (may_use u i) refl e (λ f k g. none_from u (suc i) m f k g) j h
  where
    by : (t : Bool) → may_use u i ≡ t → length (cond t (i ∷ used_from u (suc i) m) (used_from u (suc i) m)) ≡ 0 →
        (length (used_from u (suc i) m) ≡ 0 → (k : ℕ) → k < m → may_use u (suc i + k) ≡ false) → (j : ℕ) → j < suc m → may_use u (i + j) ≡ false
    by true q e f j h = absurd (omega arith)
    by false q e f zero h = rw (add-zero i) q
    by false q e f (suc j) h = rw (next i j) (f e j (omega arith))

from_none : (u : Usable) (i m : ℕ) → ((j : ℕ) → j < m → may_use u (i + j) ≡ false) → length (used_from u i m) ≡ 0
unfolding used_from
from_none u i zero f = refl
from_none u i (suc m) f =
    let q : may_use u i ≡ false = rw (add-zero i) at (f 0 (omega arith)) in
    rw q (from_none u (suc i) m (λ j h. rw (next i j) at (f (suc j) (omega arith))))

pub used_whole : (u : Usable) (i n : ℕ) → ((j : ℕ) → j < n → may_use u (i + j) ≡ true) → length (used_from u i n) ≡ n
unfolding used_from
used_whole u i zero f = refl
used_whole u i (suc n) f =
    let q : may_use u i ≡ true = rw (add-zero i) at (f 0 (omega arith)) in
    rw q (ap suc (used_whole u (suc i) n (λ j h. rw (next i j) at (f (suc j) (omega arith)))))

pub every_count : (i n : ℕ) → length (used_from every i n) ≡ n
every_count i n = used_whole every i n (λ j h. every_used (i + j))

pub some_released : (n : ℕ) (u : Usable) → 1 ≤ n → set_refusal n u ≡ 0 → 1 ≤ length (used_from u 0 n)
unfolding set_refusal
some_released n every h e = rw (every_count 0 n) h
some_released n (only set) h e = ltb-true 0 _ (and_true (ltb 0 (length (used_from (only set) 0 n))) _ (passed_last _ 51 e)).0

past_bytes : (set : List ℕ) → length set ≡ 32 → (i : ℕ) → 256 ≤ i → may_use (only set) i ≡ false
unfolding may_use
past_bytes set e i h = let q : length set ≤ i / 8 = omega arith in rw (get_or-eq_default set 0 q, zero-div (2 ^ (i % 8)))

-- what an accepted set gives: one of the book's boats at least, and no other boat
pub record SetFits (boats : ℕ) (set : List ℕ) : Type 0 where
  pub some_boat : 1 ≤ length (used_from (only set) 0 boats)
  pub inside : (i : ℕ) → may_use (only set) i ≡ true → i < boats

pub set_accepted : (n : ℕ) (set : List ℕ) → length set ≡ 32 → set_refusal n (only set) ≡ 0 → SetFits n set
unfolding set_refusal
set_accepted n set bytes e =
    let both = and_true (ltb 0 (length (used_from (only set) 0 n))) _ (passed_last _ 51 e) in
    let none = none_from (only set) n (256 - n) (eqb-true _ 0 both.1) in
    record { some_boat = ltb-true 0 _ both.0; inside = λ i q. lt_of_not-le (λ (h : n ≤ i). past none i q h (ltb i 256) refl) }
  where
    past : ((j : ℕ) → j < 256 - n → may_use (only set) (n + j) ≡ false) → (i : ℕ) → may_use (only set) i ≡ true → n ≤ i → (t : Bool) → ltb i 256 ≡ t → ⊥
    past none i q h true t =
        let l : i < 256 = ltb-true i 256 t in
        let m : n + (i - n) ≡ i = omega arith in
        let f : may_use (only set) i ≡ false = rw m at (none (i - n) (omega arith)) in
        let z : ◌≡◌ {A = ℕ} 0 1 = cc in omega arith
    past none i q h false t =
        let f : may_use (only set) i ≡ false = past_bytes set bytes i (ltb-false i 256 t) in
        let z : ◌≡◌ {A = ℕ} 0 1 = cc in omega arith

-- and each of the two refuses
pub empty_refused : (n : ℕ) (set : List ℕ) → ((i : ℕ) → i < n → may_use (only set) i ≡ false) → set_refusal n (only set) ≡ 52
unfolding set_refusal
empty_refused n set f = let e : length (used_from (only set) 0 n) ≡ 0 = from_none (only set) 0 n (λ j h. rw (zero-add j) (f j h)) in rw e

pub named_refused : (n : ℕ) (set : List ℕ) (i : ℕ) → n ≤ i → i < 256 → may_use (only set) i ≡ true → set_refusal n (only set) ≡ 52
unfolding set_refusal
named_refused n set i h l q =
    let m : n + (i - n) ≡ i = omega arith in
    let k : i - n < 256 - n = omega arith in
    let e : eqb (length (used_from (only set) n (256 - n))) 0 ≡ false =
    ne_eqb _ 0 (λ (none : length (used_from (only set) n (256 - n)) ≡ 0). past (rw m at (none_from (only set) n (256 - n) none (i - n) k))) in
    rw e (by (ltb 0 (length (used_from (only set) 0 n))))
  where
    past : may_use (only set) i ≡ false → ⊥
    past f = let z : ◌≡◌ {A = ℕ} 0 1 = cc in omega arith

    by : (x : Bool) → ◌≡◌ {A = ℕ} (cond (x && false) 0 52) 52
    by true = refl
    by false = refl

-- nothing else does
pub set_taken : (n : ℕ) (u : Usable) → 1 ≤ length (used_from u 0 n) → ((i : ℕ) → n ≤ i → may_use u i ≡ false) → set_refusal n u ≡ 0
unfolding set_refusal
set_taken n every some f = refl
set_taken n (only set) some f =
    let e : length (used_from (only set) n (256 - n)) ≡ 0 = from_none (only set) n (256 - n) (λ j h. f (n + j) (omega arith)) in
    rw (lt-ltb 0 (length (used_from (only set) 0 n)) some, e)

-- ---- Slots of all boats

scatter_all : (u : Usable) (i : ℕ) (qs : List ℕ) → ((j : ℕ) → j < length qs → may_use u (i + j) ≡ true) → scatter_from u i (length qs) qs ≡ qs
unfolding scatter_from
scatter_all u i [] f = refl
scatter_all u i (q ∷ qs) f =
    let t : may_use u i ≡ true = rw (add-zero i) at (f 0 (omega arith)) in
    rw t (ap (λ l. q ∷ l) (scatter_all u (suc i) qs (λ j h. rw (next i j) at (f (suc j) (omega arith)))))

-- ---- All of them together

pub gather_kept : {A : Type 0} (u : Usable) (xs : List A) → gather u xs ≡ kept u 0 xs
gather_kept every xs = sym (kept_all every 0 xs (λ j h. every_used (0 + j)))
gather_kept (only set) xs = refl

pub length_gather : {A : Type 0} (u : Usable) (xs : List A) → length (gather u xs) ≡ length (used_from u 0 (length xs))
length_gather u xs = rw (gather_kept u xs) (length_kept u 0 xs)

pub gather_same : {A : Type 0} (u : Usable) (d : A) (xs ys : List A) → length xs ≡ length ys → ((j : ℕ) → j < length xs → may_use u j ≡ true → get_or xs j d ≡ get_or ys j d) → gather u xs ≡ gather u ys
gather_same u d xs ys e f = rw (gather_kept u xs, gather_kept u ys) (kept_same u d 0 xs ys e (λ j h q. f j h (rw (zero-add j) at q)))

pub gather_among : (u : Usable) (vs : List (List ℤ)) {v : List ℤ} → Among (gather u vs) v → Among vs v
gather_among every vs a = a
gather_among (only set) vs a = kept_among (only set) 0 vs a

-- a set of all boats
pub gather_all : {A : Type 0} (u : Usable) (xs : List A) → ((j : ℕ) → j < length xs → may_use u j ≡ true) → gather u xs ≡ xs
gather_all u xs f = gather_kept u xs ∙ kept_all u 0 xs (λ j h. rw (zero-add j) (f j h))

pub length_scatter : (u : Usable) (n : ℕ) (qs : List ℕ) → length qs ≡ length (used_from u 0 n) → length (scatter u n qs) ≡ n
length_scatter every n qs e = e ∙ every_count 0 n
length_scatter (only set) n qs e = length_scatter_from (only set) 0 n qs

pub scatter_outside : (u : Usable) (n : ℕ) (qs : List ℕ) → RestsOn u (scatter u n qs)
scatter_outside every n qs i q = absurd (let t = every_used i in let z : ◌≡◌ {A = ℕ} 0 1 = cc in omega arith)
scatter_outside (only set) n qs i q = scatter_rests (only set) 0 n qs i (rw (zero-add i) q)

pub gather_scatter : (u : Usable) (n : ℕ) (qs : List ℕ) → length qs ≡ length (used_from u 0 n) → gather u (scatter u n qs) ≡ qs
gather_scatter every n qs e = refl
gather_scatter (only set) n qs e = kept_scatter (only set) 0 n qs e

pub scatter_gather : (u : Usable) (zs : List ℕ) → RestsOn u zs → scatter u (length zs) (gather u zs) ≡ zs
scatter_gather every zs r = refl
scatter_gather (only set) zs r = scatter_kept (only set) 0 zs (rests_all (only set) zs r)

pub scatter_whole : (u : Usable) (qs : List ℕ) → ((j : ℕ) → j < length qs → may_use u j ≡ true) → scatter u (length qs) qs ≡ qs
scatter_whole every qs f = refl
scatter_whole (only set) qs f = scatter_all (only set) 0 qs (λ j h. rw (zero-add j) (f j h))

pub combination_gather : (u : Usable) (c : ℕ) (zs : List ℕ) (vs : List (List ℤ)) → length zs ≡ length vs → Wide c vs → RestsOn u zs → combination c (gather u zs) (gather u vs) ≡ combination c zs vs
combination_gather u c zs vs e w r = rw (gather_kept u zs, gather_kept u vs) (combination_kept u c 0 zs vs e w (rests_all u zs r))

pub sum_gather : (u : Usable) (zs : List ℕ) → RestsOn u zs → sum (gather u zs) ≡ sum zs
sum_gather u zs r = rw (gather_kept u zs) (sum_kept u 0 zs (rests_all u zs r))

pub support_gather : (u : Usable) (zs : List ℕ) → RestsOn u zs → support (gather u zs) ≡ support zs
support_gather u zs r = rw (gather_kept u zs) (support_kept u 0 zs (rests_all u zs r))

-- ---- The problem of the released boats

module _ (u : Usable) {p : Problem} (some : 1 ≤ length (used_from u 0 (length p.vertices))) where
  pub well_formed_released : WellFormed p → WellFormed (on_released u p)
  well_formed_released h =
      record {
        some_row = rw (length_gather u p.vertices) some;
        wide = record { each = λ v a. h.wide.each v (gather_among u p.vertices a) };
        target_length = h.target_length;
        schedule_fits = h.schedule_fits;
      }

  pub in_range_released : InRange p → InRange (on_released u p)
  in_range_released r =
      record { few_factors = r.few_factors; rows_bounded = λ v a. r.rows_bounded v (gather_among u p.vertices a); target_bounded = r.target_bounded }

  pub sized_released : Sized p → Sized (on_released u p)
  sized_released z = record { some_steps = z.some_steps; weights = z.weights; most_tolerance = z.most_tolerance }
