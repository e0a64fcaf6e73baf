-- Numbers written as bytes and read back.
use mathlib.Core.Path.{◌≡◌, refl, ap}
use mathlib.Core.Bool.{true}
use mathlib.Core.List.{List, [], ◌∷◌, ◌++◌}
use Prim.Native.Nat.{ℕ, zero, suc, ◌+◌, ◌*◌, ◌/◌, ◌%◌, ◌^◌, ◌≤◌, ◌<◌}
use native.Mathlib.Nat.{pow-succ'}
use native.Mathlib.Omega.{arith}
use borrow.Author.Tests.{ltb-true}
use lib.Dec.{ltb}
use lib.ListN.{length, take, drop, length-drop}
use lib.Seq.{drop-drop}
use Rattle.files.specs.Bytes.{number_bytes, all_bytes, little_endian, number}
use Rattle.files.proofs.Refusal.{and_true}

pub length_bytes : (w n : ℕ) → length (number_bytes w n) ≡ w
unfolding number_bytes
length_bytes zero n = refl
length_bytes (suc w) n = ap suc (length_bytes w (n / 256))

-- written and read back
pub read_bytes : (w n : ℕ) → n < 256 ^ w → little_endian (number_bytes w n) ≡ n
unfolding number_bytes little_endian
read_bytes zero n h = omega arith
read_bytes (suc w) n h =
    let k : n < 256 * 256 ^ w = rw pow-succ' at h in
    omega (arith, read_bytes w (n / 256) (omega arith))

pub drop_bytes : (k : ℕ) (xs : List ℕ) → all_bytes xs ≡ true → all_bytes (drop k xs) ≡ true
unfolding all_bytes
drop_bytes zero xs h = h
drop_bytes (suc k) [] h = h
drop_bytes (suc k) (x ∷ xs) h = drop_bytes k xs (and_true (ltb x 256) (all_bytes xs) h).1

-- read and written again
write_read : (w : ℕ) (xs : List ℕ) → all_bytes xs ≡ true → w ≤ length xs → number_bytes w (little_endian (take w xs)) ++ drop w xs ≡ xs
unfolding number_bytes little_endian all_bytes
write_read zero xs h k = refl
write_read (suc w) [] h k = absurd (omega arith)
write_read (suc w) (x ∷ xs) h k =
    let p = and_true (ltb x 256) (all_bytes xs) h in
    let l : x < 256 = ltb-true x 256 p.0 in
    let r = little_endian (take w xs) in
    let m : (x + 256 * r) % 256 ≡ x = omega arith in
    let d : (x + 256 * r) / 256 ≡ r = omega arith in
    rw (m, d) (ap (λ l. x ∷ l) (write_read w xs p.1 (omega arith)))

-- the number at an offset, written again before what follows it
pub field : (a w : ℕ) (xs : List ℕ) → all_bytes xs ≡ true → a + w ≤ length xs → number_bytes w (number a w xs) ++ drop (a + w) xs ≡ drop a xs
unfolding number
field a w xs h k = rw (← drop-drop w a xs) (write_read w (drop a xs) (drop_bytes a xs h) (rw length-drop (omega arith)))
