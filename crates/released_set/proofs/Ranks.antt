-- The rank of a boat: how many boats before it may be used. It is the place of the boat's share among those of the released boats.
use mathlib.Core.Path.{◌≡◌, refl, sym, ap, ◌∙◌}
use mathlib.Core.Bool.{Bool, true, false, cond}
use mathlib.Core.List.{List, [], ◌∷◌, ◌++◌}
use Prim.Native.Nat.{ℕ, zero, suc, ◌+◌, ◌-◌, ◌≤◌, ◌<◌}
use native.Mathlib.Nat.{zero-add, add-zero}
use native.Mathlib.Omega.{arith}
use lib.ListN.{length, get_or, take, drop, set, replicate, length-replicate}
use lib.Seq.{get_or-drop, length-take-le, get_or-take}
use Rattle.integers.proofs.Filling.{Filled, filled_start, filled_long, filled_more, filled_end, drop_replicate}
use Rattle.method.specs.ReleasedBoats.{Usable, may_use, used_from, kept, scatter_from}
use Rattle.method.proofs.ReleasedBoats.{length_kept, length_scatter_from}

-- how many boats from boat i on, of the first j, may be used
abbrev pub rank : (u : Usable) → (i j : ℕ) → ℕ
rank u i j = length (used_from u i j)

next : (i j : ℕ) → i + suc j ≡ suc i + j
next i j = omega arith

rank_suc : (u : Usable) (i j : ℕ) → rank u i (suc j) ≡ cond (may_use u i) 1 0 + rank u (suc i) j
unfolding used_from
rank_suc u i j = by (may_use u i)
  where
    by : (t : Bool) → length (cond t (i ∷ used_from u (suc i) j) (used_from u (suc i) j)) ≡ cond t 1 0 + rank u (suc i) j
    by true = omega arith
    by false = omega arith

rank_none : (u : Usable) (i : ℕ) → rank u i 0 ≡ 0
unfolding used_from
rank_none u i = refl

-- one boat more at the end
pub rank_next : (u : Usable) (i j : ℕ) → rank u i (suc j) ≡ rank u i j + cond (may_use u (i + j)) 1 0
rank_next u i zero = rw (rank_suc u i 0, rank_none u (suc i), rank_none u i, add-zero i) (omega arith)
rank_next u i (suc j) = rw (rank_suc u i (suc j), rank_suc u i j, rank_next u (suc i) j, next i j) (omega arith)

bit_most : (t : Bool) → cond t 1 0 ≤ 1
bit_most true = omega arith
bit_most false = omega arith

pub rank_most : (u : Usable) (i j : ℕ) → rank u i j ≤ j
rank_most u i zero = omega (arith, rank_none u i)
rank_most u i (suc j) = omega (arith, rank_next u i j, rank_most u i j, bit_most (may_use u (i + j)))

-- it grows past a boat that may be used
pub rank_below : (u : Usable) (i j n : ℕ) → j < n → may_use u (i + j) ≡ true → rank u i j < rank u i n
rank_below u i j zero h t = absurd (omega arith)
rank_below u i zero (suc n) h t =
    let e : may_use u i ≡ true = rw (add-zero i) at t in
    rw (rank_none u i, rank_suc u i n, e) (omega arith)
rank_below u i (suc j) (suc n) h t = rw (rank_suc u i j, rank_suc u i n) (omega (arith, rank_below u (suc i) j n (omega arith) (rw (next i j) at t)))

-- ---- Shares by rank

-- a boat's slot has the share of its rank
pub scatter_at : (u : Usable) (i n : ℕ) (qs : List ℕ) (j : ℕ) → j < n → get_or (scatter_from u i n qs) j 0 ≡ cond (may_use u (i + j)) (get_or qs (rank u i j) 0) 0
unfolding scatter_from
scatter_at u i zero qs j h = absurd (omega arith)
scatter_at u i (suc n) qs zero h = rw (rank_none u i, add-zero i)
scatter_at u i (suc n) qs (suc j) h =
    rw (scatter_at u (suc i) n (cond (may_use u i) (drop 1 qs) qs) j (omega arith), next i j, rank_suc u i j) (by (may_use u i))
  where
    by : (t : Bool) → ◌≡◌ {A = ℕ} (cond (may_use u (suc i + j)) (get_or (cond t (drop 1 qs) qs) (rank u (suc i) j) 0) 0)
        (cond (may_use u (suc i + j)) (get_or qs (cond t 1 0 + rank u (suc i) j) 0) 0)
    by true = rw get_or-drop
    by false = rw zero-add

-- and a share stands at its boat's rank
pub kept_at : {A : Type 0} (u : Usable) (d : A) (i : ℕ) (xs : List A) (j : ℕ) → j < length xs → may_use u (i + j) ≡ true → get_or (kept u i xs) (rank u i j) d ≡ get_or xs j d
unfolding kept
kept_at u d i [] j h t = absurd (omega arith)
kept_at u d i (x ∷ xs) zero h t =
    let e : may_use u i ≡ true = rw (add-zero i) at t in
    rw (rank_none u i, e)
kept_at u d i (x ∷ xs) (suc j) h t = rw (rank_suc u i j) (by (may_use u i) (kept_at u d (suc i) xs j (omega arith) (rw (next i j) at t)))
  where
    by : (t : Bool) → get_or (kept u (suc i) xs) (rank u (suc i) j) d ≡ get_or xs j d →
        get_or (cond t (x ∷ kept u (suc i) xs) (kept u (suc i) xs)) (cond t 1 0 + rank u (suc i) j) d ≡ get_or xs j d
    by true e = let k : 1 + rank u (suc i) j ≡ suc (rank u (suc i) j) = omega arith in rw k e
    by false e = rw zero-add e

-- ---- What the loops keep

-- n boats from `first` on, before boat i, may be used
pub record Counted (u : Usable) (first i n : ℕ) : Type 0 where
  pub from : first ≤ i
  pub is : n ≡ rank u first (i - first)

pub counted_start : {u : Usable} {first : ℕ} → Counted u first first 0
counted_start {u} {first} = let e : first - first ≡ 0 = omega arith in record { from = omega arith; is = rw e (sym (rank_none u first)) }

counted_by : {u : Usable} {first i n : ℕ} → Counted u first i n → {m : ℕ} → m ≡ n + cond (may_use u i) 1 0 → Counted u first (i + 1) m
counted_by {u} {first} {i} {n} d {m} e =
    let p : i + 1 - first ≡ suc (i - first) = omega (arith, d.from) in
    let q : first + (i - first) ≡ i = omega (arith, d.from) in
    record { from = omega (arith, d.from); is = rw (p, rank_next u first (i - first), q, ← d.is) e }

pub counted_used : {u : Usable} {first i n : ℕ} → Counted u first i n → true ≡ may_use u i → Counted u first (i + 1) (n + 1)
counted_used d t = counted_by d (rw (← t))

pub counted_other : {u : Usable} {first i n : ℕ} → Counted u first i n → false ≡ may_use u i → Counted u first (i + 1) n
counted_other d t = counted_by d (rw (← t) (omega arith))

pub counted_few : {u : Usable} {first i n : ℕ} → Counted u first i n → n ≤ i
counted_few {u} {first} {i} {n} d = omega (arith, d.is, rank_most u first (i - first), d.from)

-- from the first boat on
counted_rank : {u : Usable} {i n : ℕ} → Counted u 0 i n → n ≡ rank u 0 i
counted_rank {u} {i} d = let e : i - 0 ≡ i = omega arith in d.is ∙ ap (rank u 0) e

-- slots filled from shares
pub record Scattering (own : List ℕ) (u : Usable) (boats : ℕ) (slots : List ℕ) (next i : ℕ) (now : List ℕ) : Type 0 where
  pub counted : Counted u 0 i next
  pub filled : Filled slots (scatter_from u 0 boats own) i now

pub scattering_start : {own : List ℕ} {u : Usable} {boats : ℕ} {slots : List ℕ} → Scattering own u boats slots 0 0 slots
scattering_start = record { counted = counted_start; filled = filled_start }

module _ {own : List ℕ} {u : Usable} {boats : ℕ} {slots : List ℕ} {next i : ℕ} {now : List ℕ} (d : Scattering own u boats slots next i now) (room : boats ≤ length slots) where
  inside : length (scatter_from u 0 boats own) ≤ length slots
  inside = omega (arith, length_scatter_from u 0 boats own)

  pub scattering_long : length now ≡ length slots
  scattering_long = filled_long d.filled inside

  pub scattering_more : i < boats → {used : Bool} → used ≡ may_use u i → {share : ℕ} → share ≡ cond used (get_or own next 0) 0 → {m : ℕ} → Counted u 0 (i + 1) m →
      Scattering own u boats slots m (i + 1) (set now i share)
  scattering_more h t e c =
      let f : get_or (scatter_from u 0 boats own) i 0 ≡ cond (may_use u i) (get_or own (rank u 0 i) 0) 0 = rw (scatter_at u 0 boats own i h, zero-add i) in
      record {
        counted = c;
        filled = filled_more d.filled inside 0 (omega (arith, length_scatter_from u 0 boats own)) (e ∙ rw (t, counted_rank d.counted) (sym f));
      }

  pub scattering_end : boats ≤ i → now ≡ scatter_from u 0 boats own ++ drop boats slots
  scattering_end h = rw (length_scatter_from u 0 boats own) at (filled_end d.filled (omega (arith, length_scatter_from u 0 boats own)))

-- shares filled from slots
pub record Gathering (shares : List ℕ) (u : Usable) (boats next i : ℕ) (now : List ℕ) : Type 0 where
  pub counted : Counted u 0 i next
  pub filled : Filled (replicate 256 0) (kept u 0 (take boats shares)) next now

module _ (shares : List ℕ) (u : Usable) (boats : ℕ) (most : boats ≤ 256) (long : length shares ≡ 256) where
  taken_long : length (take boats shares) ≡ boats
  taken_long = length-take-le boats shares (omega arith)

  gather_long : length (kept u 0 (take boats shares)) ≡ rank u 0 boats
  gather_long = length_kept u 0 (take boats shares) ∙ ap (rank u 0) taken_long

  gather_few : length (kept u 0 (take boats shares)) ≤ length (replicate {A = ℕ} 256 0)
  gather_few = omega (arith, gather_long, rank_most u 0 boats, length-replicate {A = ℕ} 256 0)

  pub gathering_start : Gathering shares u boats 0 0 (replicate 256 0)
  gathering_start = record { counted = counted_start; filled = filled_start }

  module _ {next i : ℕ} {now : List ℕ} (d : Gathering shares u boats next i now) where
    pub gathering_long : length now ≡ 256
    gathering_long = filled_long d.filled gather_few ∙ length-replicate {A = ℕ} 256 0

    pub gathering_used : i < boats → true ≡ may_use u i → Gathering shares u boats (next + 1) (i + 1) (set now next (get_or shares i 0))
    gathering_used h t =
        let v : may_use u (0 + i) ≡ true = rw zero-add (sym t) in
        let k : next ≡ rank u 0 i = counted_rank d.counted in
        let e : get_or (kept u 0 (take boats shares)) (rank u 0 i) 0 ≡ get_or shares i 0 = kept_at u 0 0 (take boats shares) i (omega (arith, taken_long)) v ∙ get_or-take boats shares i 0 h in
        record {
          counted = counted_used d.counted t;
          filled = filled_more d.filled gather_few 0 (omega (arith, k, gather_long, rank_below u 0 i boats h v)) (sym (rw k e));
        }

    pub gathering_other : false ≡ may_use u i → Gathering shares u boats next (i + 1) now
    gathering_other t = record { counted = counted_other d.counted t; filled = d.filled }

    pub gathering_end : i ≡ boats → now ≡ kept u 0 (take boats shares) ++ replicate (256 - length (used_from u 0 boats)) 0
    gathering_end e =
        let k : next ≡ rank u 0 boats = counted_rank d.counted ∙ ap (rank u 0) e in
        let f = filled_end d.filled (omega (arith, k, gather_long)) in
        f ∙ rw (gather_long, drop_replicate {A = ℕ} (rank u 0 boats) 256 0 (omega (arith, rank_most u 0 boats)))
