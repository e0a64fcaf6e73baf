-- A list whose first slots are taken from another, slot by slot: what loops that store keep; and lists of one element. Assumes nothing.
use mathlib.Core.Path.{◌≡◌, refl, sym, ap, ◌∙◌}
use mathlib.Core.List.{List, ◌++◌}
use Prim.Native.Nat.{ℕ, suc, ◌+◌, ◌-◌, ◌≤◌, ◌<◌}
use native.Mathlib.Omega.{arith}
use native.Mathlib.Numerals.{add-one}
use lib.ListN.{length, get_or, set, take, drop, replicate, length-replicate, replicate-append-replicate}
use lib.Seq.{drop-cons, set_at, take-suc, take-length, append_snoc, length-take-le, length_front, get_or-append-add, get_or-drop, drop_at}

-- the first i slots of `new` are those of `from`, the later ones as they were in `old`
pub record Filled {A : Type 0} (old from : List A) (i : ℕ) (new : List A) : Type 0 where
  pub within : i ≤ length from
  pub is : new ≡ take i from ++ drop i old

pub filled_start : {A : Type 0} {old from : List A} → Filled old from 0 old
filled_start = record { within = omega arith; is = refl }

module _ {A : Type 0} {old from : List A} {i : ℕ} {new : List A} (f : Filled old from i new) where
  front_long : length (take i from) ≡ i
  front_long = length-take-le i from f.within

  pub filled_end : length from ≤ i → new ≡ from ++ drop (length from) old
  filled_end h = let e : i ≡ length from = omega (arith, f.within) in rw (e, take-length) at f.is

  module _ (room : length from ≤ length old) where
    pub filled_long : length new ≡ length old
    filled_long = rw f.is (length_front old (take i from) i (front_long ∙ sym (length-take-le i old (omega (arith, f.within)))))

    pub filled_later : (d : A) (j : ℕ) → i ≤ j → get_or new j d ≡ get_or old j d
    filled_later d j h =
        let n : length (take i from) + (j - i) ≡ j = omega (arith, front_long) in
        let m : i + (j - i) ≡ j = omega arith in
        rw f.is (ap (λ (k : ℕ). get_or (take i from ++ drop i old) k d) (sym n) ∙ get_or-append-add (take i from) (drop i old) (j - i) d
        ∙ get_or-drop i old (j - i) d ∙ ap (λ (k : ℕ). get_or old k d) m)

    pub filled_more : (d : A) → i < length from → {x : A} → x ≡ get_or from i d → Filled old from (i + 1) (set new i x)
    filled_more d h {x} e =
        record {
          within = omega arith;
          is =
              ap (λ (l : List A). set l i x) (f.is ∙ ap (λ (l : List A). take i from ++ l) (drop-cons old i d (omega arith)))
              ∙ set_at (take i from) (get_or old i d) (drop (suc i) old) x i front_long
              ∙ sym (append_snoc (take i from) x (drop (suc i) old))
              ∙ rw (e, ← take-suc from i d h, add-one);
        }

-- a list of one element in two parts
pub replicate_parts : {A : Type 0} (n m : ℕ) (a : A) → n ≤ m → replicate m a ≡ replicate n a ++ replicate (m - n) a
replicate_parts {A} n m a h = let e : n + (m - n) ≡ m = omega arith in ap (λ (k : ℕ). replicate {A = A} k a) (sym e) ∙ sym (replicate-append-replicate n (m - n) a)

pub drop_replicate : {A : Type 0} (n m : ℕ) (a : A) → n ≤ m → drop n (replicate m a) ≡ replicate (m - n) a
drop_replicate n m a h = rw (replicate_parts n m a h) (drop_at (replicate n a) (replicate (m - n) a) n (length-replicate n a))
