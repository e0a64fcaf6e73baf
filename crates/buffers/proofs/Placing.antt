-- Bytes put into a buffer: how long it stays, and one part after the other.
use mathlib.Core.Path.{◌≡◌, sym, ap, ◌∙◌}
use mathlib.Core.List.{List, [], ◌∷◌, ◌++◌, append_assoc}
use Prim.Native.Nat.{ℕ, ◌+◌, ◌≤◌, ◌<◌}
use native.Mathlib.Nat.{add_assoc}
use native.Mathlib.Omega.{arith}
use native.Mathlib.Numerals.{add-one}
use lib.ListN.{length, take, drop, set, length-append, length-drop, take-append-drop}
use lib.Seq.{drop-drop, drop-append-add, take_at, drop_at, set_split, length-take-le}
use Rattle.buffers.specs.Placed.{placed}

pub placed_nil : (out : List ℕ) (at : ℕ) → placed out at [] ≡ out
unfolding placed
placed_nil out at = let e : at + 0 ≡ at = omega arith in rw e (take-append-drop at out)

pub placed_length : (out : List ℕ) (at : ℕ) (bs : List ℕ) → at + length bs ≤ length out → length (placed out at bs) ≡ length out
unfolding placed
placed_length out at bs h =
    length-append (take at out) (bs ++ drop (at + length bs) out)
    ∙ (omega (arith, length-append bs (drop (at + length bs) out), length-drop (at + length bs) out, length-take-le at out (omega arith)))

-- xs, and ys right after them
pub placed_then : (out : List ℕ) (at : ℕ) (xs ys : List ℕ) → at + length xs ≤ length out → placed (placed out at xs) (at + length xs) ys ≡ placed out at (xs ++ ys)
unfolding placed
placed_then out at xs ys h =
    let n = at + length xs in
    let d = drop (at + length xs) out in
    let front = take at out ++ xs in
    let e : length front ≡ n = length-append (take at out) xs ∙ (omega (arith, length-take-le at out (omega arith))) in
    let p : take at out ++ (xs ++ d) ≡ front ++ d = sym (append_assoc (take at out) xs d) in
    let q : drop (n + length ys) (front ++ d) ≡ drop (n + length ys) out =
    ap (λ k. drop (k + length ys) (front ++ d)) (sym e) ∙ drop-append-add front d (length ys) ∙ drop-drop (length ys) n out in
    rw (p, take_at front d n e, q, append_assoc (take at out) xs, append_assoc xs ys, length-append xs ys, ← add_assoc at (length xs) (length ys))

-- what was put with what is before it, and what is behind
module _ (out : List ℕ) (at : ℕ) (bs : List ℕ) (h : at ≤ length out) where
  whole : placed out at bs ≡ (take at out ++ bs) ++ drop (at + length bs) out
  unfolding placed
  whole = sym (append_assoc (take at out) bs (drop (at + length bs) out))

  front_length : length (take at out ++ bs) ≡ at + length bs
  front_length = length-append (take at out) bs ∙ (omega (arith, length-take-le at out h))

  pub take_placed : take (at + length bs) (placed out at bs) ≡ take at out ++ bs
  take_placed = rw whole (take_at (take at out ++ bs) (drop (at + length bs) out) (at + length bs) front_length)

  pub drop_placed : drop (at + length bs) (placed out at bs) ≡ drop (at + length bs) out
  drop_placed = rw whole (drop_at (take at out ++ bs) (drop (at + length bs) out) (at + length bs) front_length)

pub placed_set : (out : List ℕ) (at a : ℕ) → at < length out → set out at a ≡ placed out at (a ∷ [])
unfolding placed
placed_set out at a h = rw add-one (set_split out at a h)

-- the same of buffers that are known by equations
pub placed_next : (out : List ℕ) (at : ℕ) (xs ys : List ℕ) {now new : List ℕ} (after : ℕ) → now ≡ placed out at xs → new ≡ placed now after ys → after ≡ at + length xs → at + length xs ≤ length out → new ≡ placed out at (xs ++ ys)
placed_next out at xs ys after e f p h = f ∙ rw (e, p) (placed_then out at xs ys h)
