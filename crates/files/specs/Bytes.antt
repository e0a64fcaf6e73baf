-- Numbers and values in bytes, and the parts of a file, which are found from its end.
-- A file is a list of bytes: front text that is never read, then the body, then a trailer of a fixed size.
-- The trailer begins with the back count, the number of bytes in the body; it ends with four letters.
use Rattle.std.specs.Prelude.{Bool, true, false, ◌&&◌, not, cond, List, [], ◌∷◌, ℕ, zero, suc, ◌+◌, ◌*◌, ◌-◌, ◌/◌, ◌%◌, ltb, leb, eqb, length, take, drop, ℤ, pos, negsuc}
use Rattle.files.specs.Limits.{file_limit}

-- whether each element is a byte
unfoldable pub all_bytes : List ℕ → Bool
all_bytes [] = true
all_bytes (x ∷ xs) = ltb x 256 && all_bytes xs

-- whether two lists of bytes are the same
unfoldable pub same : List ℕ → List ℕ → Bool
same [] [] = true
same [] (y ∷ ys) = false
same (x ∷ xs) [] = false
same (x ∷ xs) (y ∷ ys) = eqb x y && same xs ys

-- the number that bytes hold, the lowest byte first
unfoldable pub little_endian : List ℕ → ℕ
little_endian [] = 0
little_endian (b ∷ bs) = b + 256 * little_endian bs

-- a number in so many bytes, the lowest first
unfoldable pub number_bytes : (width : ℕ) → ℕ → List ℕ
number_bytes zero v = []
number_bytes (suc n) v = (v % 256) ∷ number_bytes n (v / 256)

-- the number in the `width` bytes from offset `at`
unfoldable pub number : (at width : ℕ) → List ℕ → ℕ
number at width bs = little_endian (take width (drop at bs))

-- the value of 16 bits, in two's complement
unfoldable pub value : ℕ → ℤ
value v = cond (ltb v 32768) (pos v) (negsuc (65535 - v))

-- the first `count` values of a list of bytes, 2 bytes each
unfoldable pub values : (count : ℕ) → List ℕ → List ℤ
values zero bs = []
values (suc n) bs = value (number 0 2 bs) ∷ values n (drop 2 bs)

-- whether a number is from `least` to `most`
unfoldable pub between : (least most : ℕ) → ℕ → Bool
between least most n = leb least n && leb n most

-- whether a value is from -2,000 to 2,000
unfoldable pub in_range : ℤ → Bool
in_range (pos n) = leb n 2000
in_range (negsuc n) = ltb n 2000

unfoldable pub all_in_range : List ℤ → Bool
all_in_range [] = true
all_in_range (x ∷ xs) = in_range x && all_in_range xs

-- whether a file has at least `least` bytes and at most 40,000
unfoldable pub length_in_range : (least : ℕ) → List ℕ → Bool
length_in_range least bs = between least file_limit (length bs)

-- the last `size` bytes
unfoldable pub trailer : (size : ℕ) → List ℕ → List ℕ
trailer size bs = drop (length bs - size) bs

-- the offset of a body of `back` bytes before a trailer of `size` bytes
abbrev pub body_offset : (size back : ℕ) → List ℕ → ℕ
body_offset size back bs = length bs - size - back

unfoldable pub body : (size back : ℕ) → List ℕ → List ℕ
body size back bs = take back (drop (body_offset size back bs) bs)

-- whether that body starts inside the file
unfoldable pub reaches : (size back : ℕ) → List ℕ → Bool
reaches size back bs = leb back (length bs - size)

-- what refuses a body that is to have `back` bytes and begins with `count` values: `place` for a back count that is wrong or reaches
-- before the first byte, then `range` for a value out of range; else 0
unfoldable pub body_refusal : (size back count place range : ℕ) → List ℕ → ℕ
body_refusal size back count place range bs =
    let own = number 0 4 (trailer size bs) in
    cond (not (eqb own back && reaches size own bs)) place
    (cond (all_in_range (values count (body size back bs))) 0 range)
