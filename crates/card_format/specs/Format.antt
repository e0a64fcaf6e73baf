-- Cards: the shares and the answer of a search, as bytes.
-- Body: for each boat with a share above zero, boat number (2) and share (2), boats ascending.
-- Trailer, 36 bytes: back count (4), verdict (2), steps used (2), tolerance (4), E (8), G (8), boats (2) and columns (2) of the book, the letters.
-- WCD2 is what is written, and its verdict is judged by the sharper test; WCD1 is the edition before, judged by the former.
use Rattle.std.specs.Prelude.{Bool, cond, List, [], ◌∷◌, ◌++◌, ℕ, zero, suc, ◌/◌, eqb, length, drop, set, replicate}
use Rattle.files.specs.Bytes.{number_bytes, number, same, trailer, body}
use Rattle.files.specs.Book.{boats, columns}
use Rattle.files.specs.Sheet.{sheet}
use Rattle.method.specs.declared.Test.{Test}
use Rattle.method.specs.declared.Test.TheVariants.{Former, Sharper}
use Rattle.method.specs.declared.Answer.{Answer}
use Rattle.method.specs.ReleasedBoats.{gather}
use Rattle.method.specs.Problem.{Terms, plain_terms, call_problem}
use Rattle.method.specs.Answers.{verdict_number, run_answer, run_slots}
use Rattle.method.specs.Bounds.{answer_of}

-- the bytes of the longest card that is written: 256 pairs and a trailer
abbrev pub card_limit : ℕ
card_limit = 1060

-- ---- Writing

-- a boat and its share; nothing for a share of 0
unfoldable pub pair : (boat share : ℕ) → List ℕ
pair i q = cond (eqb q 0) [] (number_bytes 2 i ++ number_bytes 2 q)

-- the shares of a list from this boat on
unfoldable pub pairs : (boat : ℕ) → (shares : List ℕ) → List ℕ
pairs i [] = []
pairs i (q ∷ qs) = pair i q ++ pairs (suc i) qs

-- the numbers in a trailer
pub record Fields : Type 0 where
  pub back : ℕ
  pub verdict : ℕ
  pub steps : ℕ
  pub tolerance : ℕ
  pub distance : ℕ
  pub gap : ℕ
  pub boats : ℕ
  pub columns : ℕ

abbrev pub WCD1 : List ℕ
WCD1 = 87 ∷ 67 ∷ 68 ∷ 49 ∷ []

abbrev pub WCD2 : List ℕ
WCD2 = 87 ∷ 67 ∷ 68 ∷ 50 ∷ []

-- the letters of the edition whose verdicts a test judges
unfoldable pub letters : Test → List ℕ
letters Former = WCD1
letters Sharper = WCD2

unfoldable pub trailer_bytes : Test → Fields → List ℕ
trailer_bytes test f =
    number_bytes 4 f.back ++ (number_bytes 2 f.verdict ++ (number_bytes 2 f.steps ++ (number_bytes 4 f.tolerance
    ++ (number_bytes 8 f.distance ++ (number_bytes 8 f.gap ++ (number_bytes 2 f.boats ++ (number_bytes 2 f.columns ++ letters test)))))))

-- an answer's numbers, after a body of so many bytes
unfoldable pub answer_fields : Answer → (back tolerance boats columns : ℕ) → Fields
answer_fields a back tolerance n c =
    record {
      back = back;
      verdict = verdict_number a.verdict;
      steps = a.steps;
      tolerance = tolerance;
      distance = a.distance;
      gap = a.gap;
      boats = n;
      columns = c;
    }

unfoldable pub card_bytes : Test → Answer → (shares : List ℕ) → (tolerance boats columns : ℕ) → List ℕ
card_bytes test a qs tolerance n c = pairs 0 qs ++ trailer_bytes test (answer_fields a (length (pairs 0 qs)) tolerance n c)

-- the card of the run of a call, of the edition WCD2; boats are numbered as in the book
unfoldable pub run_card_with : Terms → (book sheet : List ℕ) → List ℕ
run_card_with m b s = card_bytes Sharper (run_answer (call_problem m b s)) (run_slots m b s) (sheet s).tolerance (boats b) (columns b)

-- of the run of the files alone
abbrev pub run_card : (book sheet : List ℕ) → List ℕ
run_card b s = run_card_with plain_terms b s

-- ---- Reading

-- the numbers of a trailer
unfoldable pub fields : List ℕ → Fields
fields t =
    record {
      back = number 0 4 t;
      verdict = number 4 2 t;
      steps = number 6 2 t;
      tolerance = number 8 4 t;
      distance = number 12 8 t;
      gap = number 20 8 t;
      boats = number 28 2 t;
      columns = number 30 2 t;
    }

unfoldable pub card_fields : List ℕ → Fields
card_fields w = fields (trailer 36 w)

-- whether a card has the letters of the edition that a test judges
unfoldable pub lettered : Test → List ℕ → Bool
lettered test w = same (drop 32 (trailer 36 w)) (letters test)

-- the test of a card's letters: the sharper for WCD2, else the former
unfoldable pub card_test : List ℕ → Test
card_test w = cond (lettered Sharper w) Sharper Former

-- the pairs, and how many
unfoldable pub card_body : List ℕ → List ℕ
card_body w = body 36 (card_fields w).back w

unfoldable pub pair_count : List ℕ → ℕ
pair_count w = (card_fields w).back / 4

-- so many pairs put into a share list
unfoldable pub shares_into : (count : ℕ) → List ℕ → (shares : List ℕ) → List ℕ
shares_into zero bs qs = qs
shares_into (suc k) bs qs = shares_into k (drop 4 bs) (set qs (number 0 2 bs) (number 2 2 bs))

-- a card's shares, one a boat
unfoldable pub card_shares : (boats : ℕ) → List ℕ → List ℕ
card_shares n w = shares_into (pair_count w) (card_body w) (replicate n 0)

-- the answer of a card's shares and steps in a call, those of the boats that may be used, judged by the test of its letters
unfoldable pub card_answer_with : Terms → (book sheet card : List ℕ) → Answer
card_answer_with m b s w = answer_of (card_test w) (call_problem m b s) (gather m.released (card_shares (boats b) w)) (card_fields w).steps

-- with the files alone
abbrev pub card_answer : (book sheet card : List ℕ) → Answer
card_answer b s w = card_answer_with plain_terms b s w
