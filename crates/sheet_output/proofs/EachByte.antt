-- What is written is a list of bytes.
use mathlib.Core.Path.{◌≡◌, refl}
use mathlib.Core.Bool.{true}
use mathlib.Core.List.{List, [], ◌∷◌, ◌++◌}
use Prim.Native.Nat.{ℕ, zero, suc, ◌/◌, ◌%◌, ◌<◌}
use native.Mathlib.Omega.{arith}
use borrow.Author.Tests.{lt-ltb}
use lib.Dec.{ltb}
use lib.IntN.{ℤ}
use Rattle.frank_wolfe.specs.Vectors.{sum}
use Rattle.files.specs.Bytes.{number_bytes, all_bytes}
use Rattle.files.specs.Sheet.{WSH2}
use Rattle.files.proofs.Refusal.{and_true}
use Rattle.sheet_output.specs.Output.{bits, values_bytes, sheet_trailer}

pub append_bytes : (xs ys : List ℕ) → all_bytes xs ≡ true → all_bytes ys ≡ true → all_bytes (xs ++ ys) ≡ true
unfolding all_bytes
append_bytes [] ys h k = k
append_bytes (x ∷ xs) ys h k =
    let p = and_true (ltb x 256) (all_bytes xs) h in
    rw p.0 (append_bytes xs ys p.1 k)

number_all_bytes : (w n : ℕ) → all_bytes (number_bytes w n) ≡ true
unfolding all_bytes number_bytes
number_all_bytes zero n = refl
number_all_bytes (suc w) n = rw (lt-ltb (n % 256) 256 (omega arith)) (number_all_bytes w (n / 256))

pub values_all_bytes : (xs : List ℤ) → all_bytes (values_bytes xs) ≡ true
unfolding values_bytes all_bytes
values_all_bytes [] = refl
values_all_bytes (x ∷ xs) = append_bytes (number_bytes 2 (bits x)) (values_bytes xs) (number_all_bytes 2 (bits x)) (values_all_bytes xs)

pub small_bytes : (xs : List ℕ) → sum xs < 256 → all_bytes xs ≡ true
unfolding all_bytes sum
small_bytes [] h = refl
small_bytes (x ∷ xs) h = rw (lt-ltb x 256 (omega arith)) (small_bytes xs (omega arith))

pub trailer_all_bytes : (back c k t : ℕ) → all_bytes (sheet_trailer WSH2 back c k t) ≡ true
unfolding sheet_trailer number_bytes
trailer_all_bytes back c k t =
    append_bytes (number_bytes 4 back) _ (number_all_bytes 4 back)
    (append_bytes (number_bytes 2 c) _ (number_all_bytes 2 c)
    (append_bytes (number_bytes 2 k) _ (number_all_bytes 2 k)
    (append_bytes (number_bytes 4 t) WSH2 (number_all_bytes 4 t) (number_all_bytes 4 843600727))))
