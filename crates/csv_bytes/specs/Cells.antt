-- The bytes of a field so far: how many, and what number they say. A whole number is a sign or none, then figures, with spaces round them. Definitions only.
use Rattle.std.specs.Prelude.{Bool, true, false, cond, List, [], ◌∷◌, ℕ, zero, suc, ◌+◌, ◌*◌, ◌%◌, ltb, eqb, ℤ, pos, negsuc, length, get_or}
use Rattle.csv_bytes.specs.declared.Class.{Class}
use Rattle.csv_bytes.specs.declared.Class.TheVariants.{Space, Sign, Figure, Text}
use Rattle.csv_bytes.specs.declared.Shape.{Shape}
use Rattle.csv_bytes.specs.declared.Shape.TheVariants.{Blank, Signed, Figures, Ended, Other}
use Rattle.csv_bytes.specs.declared.Cell.{Cell}

abbrev pub no_bytes : Cell
no_bytes = record { size = 0; shape = Blank; negative = false; magnitude = 0 }

-- a space is 32, + and - are 43 and 45, the figures 48 to 57
abbrev pub class_of : ℕ → Class
class_of b = cond (eqb b 32) Space (cond (eqb b 43) Sign (cond (eqb b 45) Sign (cond (ltb b 48) Text (cond (ltb 57 b) Text Figure))))

abbrev pub after_space : Shape → Shape
after_space Blank = Blank
after_space Signed = Other
after_space Figures = Ended
after_space Ended = Ended
after_space Other = Other

abbrev pub after_sign : Shape → Shape
after_sign Blank = Signed
after_sign Signed = Other
after_sign Figures = Other
after_sign Ended = Other
after_sign Other = Other

abbrev pub after_figure : Shape → Shape
after_figure Blank = Figures
after_figure Signed = Figures
after_figure Figures = Figures
after_figure Ended = Other
after_figure Other = Other

abbrev pub shape_after : Shape → Class → Shape
shape_after x Space = after_space x
shape_after x Sign = after_sign x
shape_after x Figure = after_figure x
shape_after x Text = Other

-- the largest number that is read; a larger one is read as this
abbrev pub MOST : ℕ
MOST = 4294967295

abbrev pub kept : ℕ → ℕ
kept n = cond (ltb MOST n) MOST n

-- a number with one figure more, which is its byte less 48
abbrev pub more : (magnitude b : ℕ) → ℕ
more m b = kept (10 * m + b % 48)

abbrev pub magnitude_after : (magnitude : ℕ) → Class → (b : ℕ) → ℕ
magnitude_after m Space b = m
magnitude_after m Sign b = m
magnitude_after m Figure b = more m b
magnitude_after m Text b = m

abbrev pub is_negative : Bool → ℕ → Bool
is_negative true b = true
is_negative false b = eqb b 45

abbrev pub with_byte : Cell → ℕ → Cell
with_byte c b =
    record {
      size = c.size + 1;
      shape = shape_after c.shape (class_of b);
      negative = is_negative c.negative b;
      magnitude = magnitude_after c.magnitude (class_of b) b;
    }

abbrev pub is_number_shape : Shape → Bool
is_number_shape Blank = false
is_number_shape Signed = false
is_number_shape Figures = true
is_number_shape Ended = true
is_number_shape Other = false

abbrev pub is_number : Cell → Bool
is_number c = is_number_shape c.shape

-- the bytes of a whole field
unfoldable pub read_from : Cell → List ℕ → Cell
read_from c [] = c
read_from c (b ∷ bs) = read_from (with_byte c b) bs

unfoldable pub read : List ℕ → Cell
read text = read_from no_bytes text

-- the number that a sign and a magnitude say
abbrev pub signed : (negative : Bool) → (magnitude : ℕ) → ℤ
signed false m = pos m
signed true zero = pos 0
signed true (suc m) = negsuc m

-- how many bytes of a word a field has begun with, where it had n before this byte; more than the word has where it is another
abbrev pub progress : (word : List ℕ) → (n b : ℕ) → ℕ
progress word n b = cond (ltb n (length word)) (cond (eqb (get_or word n 0) b) (n + 1) (length word + 1)) (length word + 1)
