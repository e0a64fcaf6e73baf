-- A whole number as a spreadsheet may have it, and that a field is read as the number that its figures say.
use Rattle.std.specs.Prelude.{◌≡◌, Bool, true, false, List, [], ◌∷◌, ◌++◌, ℕ, ℤ, length, replicate}
use Rattle.text.specs.Decimal.{decimal}
use Rattle.csv_bytes.specs.Cells.{is_number, read, kept, signed}

-- a sign before figures: none, + (43) or - (45)
pub data Sign : (negative : Bool) → List ℕ → Type 0 where
  unsigned : Sign false []
  plus : Sign false (43 ∷ [])
  minus : Sign true (45 ∷ [])

-- the text is spaces (32), a sign or none, zeros (48), the figures of n, spaces, and nothing else
pub record Says (negative : Bool) (n : ℕ) (text : List ℕ) : Type 0 where
  pub before : ℕ
  pub sign : List ℕ
  pub zeros : ℕ
  pub after : ℕ
  pub sign_is : Sign negative sign
  pub text_is : text ≡ replicate before 32 ++ (sign ++ (replicate zeros 48 ++ (decimal n ++ replicate after 32)))

-- a field is read as a number of this sign and magnitude
pub record ReadAs (negative : Bool) (magnitude : ℕ) (text : List ℕ) : Type 0 where
  pub whole : is_number (read text) ≡ true
  pub sign_read : (read text).negative ≡ negative
  pub magnitude_read : (read text).magnitude ≡ magnitude
  pub size_read : (read text).size ≡ length text

-- the figures of n are read as n, and as 4,294,967,295 where n is above that
unfoldable pub NumbersRead : Type 0
NumbersRead = (negative : Bool) (n : ℕ) (text : List ℕ) → Says negative n text → ReadAs negative (kept n) text

-- the figures of some n, which is what was read where it is at most 4,294,967,295
pub record Said (negative : Bool) (magnitude : ℕ) (text : List ℕ) : Type 0 where
  pub number : ℕ
  pub says : Says negative number text
  pub kept_is : magnitude ≡ kept number

-- a field that is read as a number is such figures
unfoldable pub ReadSaid : Type 0
ReadSaid = (text : List ℕ) → is_number (read text) ≡ true → Said (read text).negative (read text).magnitude text

-- the text says the value v; -0 is 0
pub record SaysValue (v : ℤ) (text : List ℕ) : Type 0 where
  pub negative : Bool
  pub magnitude : ℕ
  pub says : Says negative magnitude text
  pub value_is : v ≡ signed negative magnitude
