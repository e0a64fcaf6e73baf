-- Numbers in bytes: byte by byte, in two halves, and at their offset in the whole file, whatever its length.
use mathlib.Core.Path.{◌≡◌, refl}
use mathlib.Core.Bool.{true}
use mathlib.Core.List.{List, [], ◌∷◌}
use Prim.Native.Nat.{ℕ, zero, suc, ◌+◌, ◌*◌, ◌-◌, ◌^◌}
use native.Mathlib.Nat.{zero-add, suc-add, mul-add, mul_assoc, pow-succ', add_assoc}
use native.Mathlib.Numerals.{add-one}
use native.Mathlib.Omega.{arith}
use borrow.Author.Tests.{lt-ltb}
use lib.ListN.{length, get_or, drop}
use lib.Seq.{take-nil, drop-drop}
use mir.Syntax.{w8}
use mir.Val.{Fits}
use Rattle.files.specs.Bytes.{all_bytes, little_endian, number, trailer}

-- the elements of a slice of `u8` are bytes: the premise is what a proof has as `c.shared-slice-known.given`
pub all_bytes_known : (bs : List ℕ) → ((i : ℕ) → Fits w8 (get_or bs i 0)) → all_bytes bs ≡ true
unfolding all_bytes
all_bytes_known [] f = refl
all_bytes_known (x ∷ xs) f = rw (lt-ltb x 256 (f 0).fits) (all_bytes_known xs (λ i. f (suc i)))

pub number_zero : (a : ℕ) (bs : List ℕ) → number a 0 bs ≡ 0
unfolding number little_endian
number_zero a bs = refl

pub number_suc : (a n : ℕ) (bs : List ℕ) → number a (suc n) bs ≡ get_or bs a 0 + 256 * number (suc a) n bs
unfolding number little_endian
number_suc zero n [] = rw take-nil
number_suc zero n (b ∷ bs) = refl
number_suc (suc a) n [] = rw take-nil
number_suc (suc a) n (b ∷ bs) = number_suc a n bs

pub number_2 : (a : ℕ) (bs : List ℕ) → number a 2 bs ≡ get_or bs a 0 + 256 * get_or bs (a + 1) 0
number_2 a bs = rw (number_suc a 1, number_suc (suc a) 0, number_zero, add-one) (omega arith)

-- the first m bytes and the n after them
pub number_add : (m n a : ℕ) (bs : List ℕ) → number a (m + n) bs ≡ number a m bs + 256 ^ m * number (a + m) n bs
number_add zero n a bs =
    let e : a + 0 ≡ a = omega arith in
    rw (zero-add, number_zero, e) (omega arith)
number_add (suc m) n a bs =
    let e : a + suc m ≡ suc a + m = omega arith in
    rw (suc-add, number_suc a (m + n), number_suc a m, number_add m n (suc a), e, pow-succ', mul-add, mul_assoc, add_assoc)

-- a number of the trailer, at its offset in the file
pub number_in_trailer : (size a n m : ℕ) (bs : List ℕ) → length bs - size + a ≡ m → number a n (trailer size bs) ≡ number m n bs
unfolding number trailer
number_in_trailer size a n m bs e = rw (drop-drop, e)

-- the last bytes of the trailer
pub drop_trailer : (size a m : ℕ) (bs : List ℕ) → length bs - size + a ≡ m → drop a (trailer size bs) ≡ drop m bs
unfolding trailer
drop_trailer size a m bs e = rw (drop-drop, e)
