-- Values written and read back.
use mathlib.Core.Path.{◌≡◌, refl, ap, ◌∙◌}
use mathlib.Core.Bool.{true}
use mathlib.Core.List.{List, [], ◌∷◌, ◌++◌, append_assoc}
use Prim.Native.Nat.{ℕ, ◌*◌, ◌-◌, ◌<◌}
use native.Mathlib.Omega.{arith}
use borrow.Author.Tests.{lt-ltb, le-ltb, leb-true, ltb-true}
use lib.ListN.{length, drop}
use lib.IntN.{ℤ, pos, negsuc}
use Rattle.files.specs.Bytes.{number_bytes, little_endian, number, value, values, in_range, all_in_range}
use Rattle.files.proofs.Refusal.{and_true}
use Rattle.files.proofs.Bytes.{read_bytes}
use Rattle.sheet_output.specs.Output.{bits, values_bytes}

-- ---- one value
bits_most : (x : ℤ) → in_range x ≡ true → bits x < 65536
unfolding bits in_range
bits_most (pos n) h = omega (arith, leb-true n 2000 h)
bits_most (negsuc n) h = omega arith

bits_back : (x : ℤ) → in_range x ≡ true → value (bits x) ≡ x
unfolding bits in_range value
bits_back (pos n) h = rw (lt-ltb n 32768 (omega (arith, leb-true n 2000 h)))
bits_back (negsuc n) h =
    let k : n < 2000 = ltb-true n 2000 h in
    let e : 65535 - (65535 - n) ≡ n = omega arith in
    rw (le-ltb (65535 - n) 32768 (omega arith), e)

number_front : (v : ℕ) (rest : List ℕ) → number 0 2 (number_bytes 2 v ++ rest) ≡ little_endian (number_bytes 2 v)
unfolding number number_bytes
number_front v rest = refl

value_back : (x : ℤ) (rest : List ℕ) → in_range x ≡ true → value (number 0 2 (number_bytes 2 (bits x) ++ rest)) ≡ x
value_back x rest h = ap value (number_front (bits x) rest ∙ read_bytes 2 (bits x) (bits_most x h)) ∙ bits_back x h

drop_front : (v : ℕ) (rest : List ℕ) → drop 2 (number_bytes 2 v ++ rest) ≡ rest
unfolding number_bytes
drop_front v rest = refl

-- ---- values
pub length_values_bytes : (xs : List ℤ) → length (values_bytes xs) ≡ 2 * length xs
unfolding values_bytes number_bytes
length_values_bytes [] = refl
length_values_bytes (x ∷ xs) = omega (arith, length_values_bytes xs)

pub values_bytes_append : (xs ys : List ℤ) → values_bytes (xs ++ ys) ≡ values_bytes xs ++ values_bytes ys
unfolding values_bytes
values_bytes_append [] ys = refl
values_bytes_append (x ∷ xs) ys = rw (values_bytes_append xs ys, append_assoc)

pub values_back : (xs : List ℤ) (rest : List ℕ) → all_in_range xs ≡ true → values (length xs) (values_bytes xs ++ rest) ≡ xs
unfolding values values_bytes all_in_range
values_back [] rest h = refl
values_back (x ∷ xs) rest h =
    let p = and_true (in_range x) (all_in_range xs) h in
    rw (append_assoc, value_back x _ p.0, drop_front, values_back xs rest p.1)
