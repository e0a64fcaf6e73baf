-- A CSV as tokens, one for each byte and one for its end: a byte of a field is itself, and what is above the bytes ends a field or a line,
-- says nothing or is wrong. A field may stand in quotes; inside them a doubled quote is a quote and every other byte is itself. Definitions only.
use Rattle.std.specs.Prelude.{cond, List, [], ◌∷◌, ℕ, ltb, eqb, length, get_or, drop}
use Rattle.csv_bytes.specs.declared.Mode.{Mode}
use Rattle.csv_bytes.specs.declared.Mode.TheVariants.{Start, Plain, Quoted, Closing, Return}
use Rattle.csv_bytes.specs.declared.Token.{Token}
use Rattle.csv_bytes.specs.declared.Token.TheVariants.{Byte, Field, Line, End, Nothing, Stray, Open}
use Rattle.csv_bytes.specs.declared.Step.{Step}
use Rattle.csv_bytes.specs.declared.Reading.{Reading}
use Rattle.csv_bytes.specs.declared.Reading.TheVariants.{Before, Inside, Behind}

-- the end of a field, of a line, of the text, a byte that says nothing
abbrev pub FIELD : ℕ
FIELD = 256

abbrev pub LINE : ℕ
LINE = 257

abbrev pub END : ℕ
END = 258

abbrev pub NOTHING : ℕ
NOTHING = 259

-- text after a closing quote, a quote that is not closed
abbrev pub STRAY : ℕ
STRAY = 260

abbrev pub OPEN : ℕ
OPEN = 261

-- the number of a token as the code has it
abbrev pub token_number : Token → ℕ
token_number (Byte b) = b
token_number Field = FIELD
token_number Line = LINE
token_number End = END
token_number Nothing = NOTHING
token_number Stray = STRAY
token_number Open = OPEN

-- what a byte says by number, and the mode of the next byte
pub record NumberedStep : Type 0 where
  pub token : ℕ
  pub mode : Mode

abbrev pub numbered : Step → NumberedStep
numbered s = record { token = token_number s.token; mode = s.mode }

abbrev pub says : ℕ → Mode → NumberedStep
says token mode = record { token = token; mode = mode }

-- a byte of a plain field: the separator (44, 59 or 9), a newline (10), a carriage return (13) or itself
abbrev pub plain_step : (separator b : ℕ) → NumberedStep
plain_step s b = cond (eqb b s) (says FIELD Start) (cond (eqb b 10) (says LINE Start) (cond (eqb b 13) (says LINE Return) (says b Plain)))

-- the first byte of a field may be a quote (34)
abbrev pub start_step : (separator b : ℕ) → NumberedStep
start_step s b = cond (eqb b 34) (says NOTHING Quoted) (plain_step s b)

abbrev pub quoted_step : (b : ℕ) → NumberedStep
quoted_step b = cond (eqb b 34) (says NOTHING Closing) (says b Quoted)

-- a byte after a quote inside quotes: a second quote, or else the field has ended
abbrev pub closing_step : (separator b : ℕ) → NumberedStep
closing_step s b =
    cond (eqb b 34) (says 34 Quoted)
    (cond (eqb b s) (says FIELD Start) (cond (eqb b 10) (says LINE Start) (cond (eqb b 13) (says LINE Return) (says STRAY Closing))))

-- a newline after a carriage return belongs to it
abbrev pub return_step : (separator b : ℕ) → NumberedStep
return_step s b = cond (eqb b 10) (says NOTHING Start) (start_step s b)

abbrev pub step : (separator : ℕ) → Mode → (b : ℕ) → NumberedStep
step s Start b = start_step s b
step s Plain b = plain_step s b
step s Quoted b = quoted_step b
step s Closing b = closing_step s b
step s Return b = return_step s b

abbrev pub ending : Mode → ℕ
ending Start = END
ending Plain = END
ending Quoted = OPEN
ending Closing = END
ending Return = END

-- from a mode on
unfoldable pub tokens : (separator : ℕ) → Mode → List ℕ → List ℕ
tokens s m [] = ending m ∷ []
tokens s m (b ∷ bs) = (step s m b).token ∷ tokens s (step s m b).mode bs

-- how many bytes a byte-order mark, 239 187 191, takes at the start
abbrev pub mark_size : List ℕ → ℕ
mark_size bs =
    cond (ltb (length bs) 3) 0
    (cond (eqb (get_or bs 0 0) 239) (cond (eqb (get_or bs 1 0) 187) (cond (eqb (get_or bs 2 0) 191) 3 0) 0) 0)

-- ---- the separator: that of the header, the first line with bytes or with a separator

-- while it is looked for, a semicolon (59) and a tab (9) end a field as a comma (44) does
abbrev pub as_comma : ℕ → ℕ
as_comma b = cond (eqb b 59) 44 (cond (eqb b 9) 44 b)

-- a comma is taken before a semicolon, and that before a tab; 0 is none so far
abbrev pub better : (best b : ℕ) → ℕ
better x b = cond (eqb x 44) 44 (cond (eqb b 44) 44 (cond (eqb x 59) 59 b))

-- before the header (0), in it (1), behind it (2)
abbrev pub reading_number : Reading → ℕ
reading_number Before = 0
reading_number Inside = 1
reading_number Behind = 2

abbrev pub known_after : (known token : ℕ) → ℕ
known_after n k = cond (eqb n 2) 2 (cond (eqb k 257) (cond (eqb n 0) 0 2) (cond (ltb 257 k) n 1))

abbrev pub best_after : (best known token b : ℕ) → ℕ
best_after x n k b = cond (eqb n 2) x (cond (eqb k 256) (better x b) x)

unfoldable pub separator_from : (best known : ℕ) → Mode → List ℕ → ℕ
separator_from x n m [] = x
separator_from x n m (b ∷ bs) =
    separator_from (best_after x n (step 44 m (as_comma b)).token b) (known_after n (step 44 m (as_comma b)).token) (step 44 m (as_comma b)).mode bs

-- a comma where there is none
abbrev pub chosen : (best : ℕ) → ℕ
chosen x = cond (eqb x 0) 44 x

unfoldable pub separator : List ℕ → ℕ
separator bs = chosen (separator_from 0 0 Start (drop (mark_size bs) bs))

-- of a whole text, without its byte-order mark
unfoldable pub csv_tokens : List ℕ → List ℕ
csv_tokens bs = tokens (separator bs) Start (drop (mark_size bs) bs)
