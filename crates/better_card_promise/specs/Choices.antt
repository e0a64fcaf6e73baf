-- Two cards of one book and sheet: what refuses them, which is the better one, and its bytes without front text. Definitions only.
use Rattle.std.specs.Prelude.{Bool, cond, List, [], ℕ, ◌+◌, ◌*◌, eqb, ltb, take, drop}
use Rattle.files.specs.Bytes.{body_offset}
use Rattle.files.specs.Sheet.{files_refusal}
use Rattle.method.specs.declared.Answer.{Answer}
use Rattle.card_format.specs.Format.{card_fields, card_answer}
use Rattle.card_format.specs.Checks.{card_refusal}
use Rattle.better_card_promise.specs.declared.Choice.{Choice}

-- 1 to 17 and 46 of book and sheet, then 31 to 39 of the first card, then those of the second; 0 if none applies
unfoldable pub better_refusal : (book sheet first second : List ℕ) → ℕ
better_refusal b s x y =
    cond (eqb (files_refusal b s) 0) (cond (eqb (card_refusal b s x) 0) (card_refusal b s y) (card_refusal b s x)) (files_refusal b s)

-- whether the squared distance E / W² of an answer is less than that of another, multiplied out
unfoldable pub nearer : Answer → Answer → Bool
nearer a c = ltb (a.distance * (c.weight * c.weight)) (c.distance * (a.weight * a.weight))

-- the number of the better card: 2 where the second's squared distance is the lesser, else 1
unfoldable pub better_number : (book sheet first second : List ℕ) → ℕ
better_number b s x y = cond (nearer (card_answer b s y) (card_answer b s x)) 2 1

-- the card of a number
unfoldable pub numbered : (number : ℕ) → (first second : List ℕ) → List ℕ
numbered k x y = cond (eqb k 2) y x

unfoldable pub better : (book sheet first second : List ℕ) → List ℕ
better b s x y = numbered (better_number b s x y) x y

-- how long a card's front text is: the body starts behind it
abbrev pub front_length : List ℕ → ℕ
front_length w = body_offset 36 (card_fields w).back w

-- a card without its front text: body and trailer
unfoldable pub bare : List ℕ → List ℕ
bare w = drop (front_length w) w

-- what is handed back: the better card without its front text; nothing where the files or a card are refused
unfoldable pub better_part : (book sheet first second : List ℕ) → List ℕ
better_part b s x y = cond (eqb (better_refusal b s x y) 0) (bare (better b s x y)) []

-- where that part starts in memory, as block and offset: as far behind the start of the better card as its front text is long; where the
-- files or a card are refused, at the start of the first card
unfoldable pub better_place : (book sheet first second : List ℕ) → (first-at second_at : ℕ × ℕ) → ℕ × ℕ
better_place b s x y p q =
    cond (eqb (better_refusal b s x y) 0) (cond (eqb (better_number b s x y) 2) (q.0, front_length y + q.1) (p.0, front_length x + p.1)) p

-- ---- The same as numbers

-- the part of two cards that a choice names
unfoldable pub part_of : Choice → (first second : List ℕ) → List ℕ
part_of c x y = take c.len (drop c.offset (numbered c.card x y))

-- where it starts, of two cards that start at these places
unfoldable pub place_of : Choice → (first-at second_at : ℕ × ℕ) → ℕ × ℕ
place_of c p q = let start = cond (eqb c.card 2) q p in (start.0, c.offset + start.1)

-- body and trailer of the card of a number
unfoldable pub bare_choice : (number : ℕ) → (card : List ℕ) → Choice
bare_choice k w = record { refusal = 0; card = k; offset = front_length w; len = (card_fields w).back + 36 }

-- a refusal: no bytes of the first card
unfoldable pub no_choice : (refusal : ℕ) → Choice
no_choice n = record { refusal = n; card = 1; offset = 0; len = 0 }

unfoldable pub choice : (book sheet first second : List ℕ) → Choice
choice b s x y =
    cond (eqb (better_refusal b s x y) 0) (bare_choice (better_number b s x y) (better b s x y)) (no_choice (better_refusal b s x y))
