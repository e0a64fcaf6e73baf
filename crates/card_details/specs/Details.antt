-- What is known of a refusal of a card, in one line that starts with the name of its file. Which cards each number refuses is said by
-- `check_refusal`; a line says which of its tests fails first, and both numbers that it compares. Definitions only.
use Rattle.std.specs.Prelude.{cond, List, [], ◌∷◌, ◌++◌, ℕ, zero, suc, ◌+◌, ◌*◌, ◌-◌, eqb, ltb, leb, length, take, Option, None, Some}
use Rattle.frank_wolfe.specs.Vectors.{sum}
use Rattle.files.specs.Bytes.{number, between, body_offset}
use Rattle.files.specs.Book.{boats, columns}
use Rattle.files.specs.Sheet.{sheet}
use Rattle.text.specs.Decimal.{decimal}
use Rattle.method.specs.declared.Answer.{Answer}
use Rattle.method.specs.Problem.{fixed, weight}
use Rattle.method.specs.Answers.{verdict_number}
use Rattle.card_format.specs.Format.{card_fields, pair_count, card_shares, card_answer}
use Rattle.card_format.specs.Checks.{check_refusal}
use Rattle.card_details.specs.declared.EntryFault.{EntryFault}
use Rattle.card_details.specs.declared.EntryFault.TheVariants.{NotAbove, NotInBook, NoShare}
use Rattle.card_details.specs.Words.{HAS, BYTES_BELOW, BYTES_ABOVE, NO_LETTERS, BOATS_BOOK, COLUMNS_BOOK, VERDICT, NOT_TO, STEPS_SHEET, BACK, MORE_THAN, BYTES_BEFORE, NOT_FOURS, IN_ENTRY, BOAT, NOT_ABOVE, NOT_IN_BOOK, NO_SHARE, SHARES_OF, BOATS_THAN, STEPS, TOTAL, NOT, DISTANCE, GAP, ITS_SHARES, SPENT, SHEET_HAS, TOLERANCE, SHEET}

abbrev pub NEWLINE : List ℕ
NEWLINE = 10 ∷ []

-- words behind a name, of which the first 100 bytes are told
unfoldable pub said : (name words : List ℕ) → List ℕ
said name words = take 100 name ++ words

-- two numbers with words before, between and behind them
unfoldable pub counts : (name words : List ℕ) → (a : ℕ) → (then : List ℕ) → (b : ℕ) → (end : List ℕ) → List ℕ
counts name words a then b end = said name (words ++ (decimal a ++ (then ++ (decimal b ++ end))))

-- 31: the length
unfoldable pub size_line : (name card : List ℕ) → List ℕ
size_line name w = cond (leb 36 (length w)) (said name BYTES_ABOVE) (counts name HAS (length w) BYTES_BELOW 36 NEWLINE)

-- 33: boats, else columns
unfoldable pub counts_line : (name book card : List ℕ) → List ℕ
counts_line name b w =
    let f = card_fields w in
    cond (eqb f.boats (boats b)) (counts name HAS f.columns COLUMNS_BOOK (columns b) NEWLINE) (counts name HAS f.boats BOATS_BOOK (boats b) NEWLINE)

-- 34: the verdict where it is none, else the steps
unfoldable pub steps_line : (name sheet card : List ℕ) → List ℕ
steps_line name s w =
    let f = card_fields w in
    cond (between 1 3 f.verdict) (counts name HAS f.steps STEPS_SHEET (sheet s).steps NEWLINE) (counts name VERDICT f.verdict NOT_TO 3 NEWLINE)

-- 35: the back count, with the bytes that there are where they are fewer, else with the most that it may be
unfoldable pub back_line : (name book card : List ℕ) → List ℕ
back_line name b w =
    let back = (card_fields w).back in
    cond (leb back (length w - 36)) (counts name BACK back NOT_FOURS (4 * boats b) NEWLINE) (counts name BACK back MORE_THAN (length w - 36) BYTES_BEFORE)

-- the number of what is wrong with an entry of the list, 0 where nothing is
abbrev pub fault_number : EntryFault → ℕ
fault_number NotAbove = 1
fault_number NotInBook = 2
fault_number NoShare = 3

abbrev pub option_number : Option EntryFault → ℕ
option_number None = 0
option_number (Some fault) = fault_number fault

-- what is wrong with an entry of the list, of a boat that may be from `next` on and below `boats`: 1 to 3, 0 where nothing is
unfoldable pub entry_fault : (next boats boat share : ℕ) → ℕ
entry_fault next n boat share = cond (ltb boat next) 1 (cond (leb n boat) 2 (cond (eqb share 0) 3 0))

abbrev pub fault_words : (fault : ℕ) → List ℕ
fault_words k = cond (eqb k 1) NOT_ABOVE (cond (eqb k 2) NOT_IN_BOOK NO_SHARE)

-- an entry, counted from 1; boats count from 0, as on the card
unfoldable pub entry_line : (name : List ℕ) → (place boat fault : ℕ) → List ℕ
entry_line name i boat k = counts name IN_ENTRY i BOAT boat (fault_words k)

-- 36: the first entry with a fault, of so many from `at` on behind others
unfoldable pub entries_line : (name : List ℕ) → (before count next boats at : ℕ) → (card : List ℕ) → List ℕ
entries_line name i zero next n at w = []
entries_line name i (suc k) next n at w =
    let boat = number at 2 w in
    let fault = entry_fault next n boat (number (at + 2) 2 w) in
    cond (eqb fault 0) (entries_line name (i + 1) k (boat + 1) n (at + 4) w) (entry_line name (i + 1) boat fault)

-- 37: the boats that hold shares where they are more than the steps, else the total of the shares
unfoldable pub total_line : (name book card : List ℕ) → List ℕ
total_line name b w =
    let t = (card_fields w).steps in
    cond (ltb t (pair_count w)) (counts name SHARES_OF (pair_count w) BOATS_THAN t STEPS) (counts name TOTAL (sum (card_shares (boats b) w)) NOT (weight fixed t) NEWLINE)

-- 38: E, else G, else the verdict, of the card and of its shares; else the verdict Spent before the sheet's last step
unfoldable pub numbers_line : (name sheet card : List ℕ) → Answer → List ℕ
numbers_line name s w a =
    let f = card_fields w in
    let verdict = verdict_number a.verdict in
    cond (eqb f.distance a.distance)
    (cond (eqb f.gap a.gap)
    (cond (eqb f.verdict verdict) (counts name SPENT f.steps SHEET_HAS (sheet s).steps STEPS) (counts name VERDICT f.verdict ITS_SHARES verdict NEWLINE))
    (counts name GAP f.gap ITS_SHARES a.gap NEWLINE))
    (counts name DISTANCE f.distance ITS_SHARES a.distance NEWLINE)

-- 39
unfoldable pub tolerance_line : (name sheet card : List ℕ) → List ℕ
tolerance_line name s w = counts name TOLERANCE (card_fields w).tolerance SHEET (sheet s).tolerance NEWLINE

unfoldable pub form_line : (name book sheet card : List ℕ) → (refusal : ℕ) → List ℕ
form_line name b s w r =
    cond (eqb r 31) (size_line name w)
    (cond (eqb r 32) (said name NO_LETTERS)
    (cond (eqb r 33) (counts_line name b w)
    (cond (eqb r 34) (steps_line name s w)
    (cond (eqb r 35) (back_line name b w)
    (cond (eqb r 36) (entries_line name 0 (pair_count w) 0 (boats b) (body_offset 36 (card_fields w).back w) w) [])))))

unfoldable pub truth_line : (name book sheet card : List ℕ) → (refusal : ℕ) → List ℕ
truth_line name b s w r =
    cond (eqb r 37) (total_line name b w)
    (cond (eqb r 38) (numbers_line name s w (card_answer b s w))
    (cond (eqb r 39) (tolerance_line name s w) []))

-- nothing where another number or none refuses the card; a list of 256 slots is long enough for any book
unfoldable pub card_detail : (name book sheet card : List ℕ) → (refusal : ℕ) → List ℕ
card_detail name b s w r = cond (eqb (check_refusal b s w 256) r) (cond (ltb r 37) (form_line name b s w r) (truth_line name b s w r)) []
