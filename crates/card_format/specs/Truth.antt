-- What a true card is, said without the refusals, and what an accepted card vouches for. Definitions only.
use Rattle.std.specs.Prelude.{◌≡◌, true, List, ◌++◌, ℕ, ◌+◌, ◌≤◌, ◌<◌, length, ℤ, pos, nat_abs, ◌≤ℤ◌}
use Rattle.frank_wolfe.specs.Vectors.{subtract, scale, sum, combination}
use Rattle.files.specs.Bytes.{all_bytes}
use Rattle.files.specs.Book.{columns, boats}
use Rattle.files.specs.Sheet.{sheet, files_refusal}
use Rattle.files.specs.Limits.{file_limit, total_limit, sum_limit}
use Rattle.method.specs.declared.Test.{Test}
use Rattle.method.specs.declared.Test.TheVariants.{Former}
use Rattle.method.specs.declared.Answer.{Answer}
use Rattle.method.specs.ReleasedBoats.{gather, RestsOn}
use Rattle.method.specs.Problem.{Problem, Terms, plain_terms, call_steps, fleet_problem, call_problem, problem, weight}
use Rattle.method.specs.Calls.{call_refusal}
use Rattle.method.specs.Iterates.{gaps, maximum, mixture_distance, support}
use Rattle.method.specs.Answers.{verdict_number, stops, run_answer, run_slots}
use Rattle.method.specs.Bounds.{answer_of, AnswerBounds}
use Rattle.method.specs.BookNumbers.{ReleasedAnswer}
use Rattle.card_format.specs.Format.{card_limit, Fields, pairs, trailer_bytes, card_bytes, card_fields, card_test, card_shares, card_answer_with, run_card_with}
use Rattle.card_format.specs.Checks.{card_refusal_with}

-- what a trailer says, judged by a test, is true of some shares, one a vertex of a problem
pub record FieldsTrue (test : Test) (p : Problem) (shares : List ℕ) (own : Fields) : Type 0 where
  -- ---- The shares: of the total that so many steps give, on no more vertices than steps
  pub total : sum shares ≡ weight p.schedule own.steps
  pub few_boats : support shares ≤ own.steps
  pub some_step : 1 ≤ own.steps
  pub most_steps : own.steps ≤ p.steps
  -- ---- The numbers: those of the shares
  pub distance : own.distance ≡ (answer_of test p shares own.steps).distance
  pub gap : own.gap ≡ (answer_of test p shares own.steps).gap
  pub verdict : own.verdict ≡ verdict_number (answer_of test p shares own.steps).verdict
  -- Spent only at the problem's steps
  pub stops_here : stops p.steps own.steps (answer_of test p shares own.steps).verdict ≡ true
  pub tolerance : own.tolerance ≡ p.tolerance

-- the card w is well formed, and true of the call's problem, of book b and sheet s, by the test of its edition
pub record CardTrueWith (m : Terms) (b s w : List ℕ) : Type 0 where
  -- ---- The file: front text, the pairs of the shares above zero, boats ascending, and the trailer
  -- with the letters of the edition that the test judges
  pub front : List ℕ
  pub shares : List ℕ
  pub own : Fields
  pub test : Test
  pub layout : w ≡ front ++ (pairs 0 shares ++ trailer_bytes test own)
  pub most_bytes : length w ≤ file_limit
  pub back : own.back ≡ length (pairs 0 shares)
  -- ---- Of this book: one share a boat
  pub boats : own.boats ≡ boats b
  pub columns : own.columns ≡ columns b
  pub share_count : length shares ≡ own.boats
  -- on boats that may be used
  pub rests : RestsOn m.released shares
  -- ---- What it says of their shares is true
  pub truth : FieldsTrue test (call_problem m b s) (gather m.released shares) own

-- the card w was filed before WCD2: behind front text, the WCD1 card of the answer and the shares after some steps, where the former test
-- ends a run. The shares are any that so many steps can give, whichever boat of least score each step took
pub record FiledBeforeWith (m : Terms) (b s w : List ℕ) : Type 0 where
  pub front : List ℕ
  pub shares : List ℕ
  pub steps : ℕ
  pub some_step : 1 ≤ steps
  pub most_steps : steps ≤ call_steps m s
  pub share_count : length shares ≡ boats b
  pub total : sum shares ≡ weight m.schedule steps
  pub few_boats : support shares ≤ steps
  pub rests : RestsOn m.released shares
  pub stops_here : stops (call_steps m s) steps (answer_of Former (call_problem m b s) (gather m.released shares) steps).verdict ≡ true
  pub layout : w ≡ front ++ card_bytes Former (answer_of Former (call_problem m b s) (gather m.released shares) steps) shares (sheet s).tolerance (boats b) (columns b)
  pub most_bytes : length w ≤ file_limit

-- ---- What an accepted card vouches for: a is the answer given back for it, `shares` its shares. The bound by steps is a run's alone. All of
-- it is about the problem that this call sets: with a lent table W, the total of the shares and the last step are that table's. No table is
-- on the card, so it does not say which one made it.
pub record CardVouchesWith (m : Terms) (b s w : List ℕ) (a : Answer) (shares : List ℕ) : Type 0 where
  -- the file is a true card of these shares
  pub is_true : CardTrueWith m b s w
  pub own_shares : is_true.shares ≡ shares
  pub own_test : is_true.test ≡ card_test w
  -- and the answer's numbers are the card's own
  pub own_steps : a.steps ≡ (card_fields w).steps
  pub own_distance : a.distance ≡ (card_fields w).distance
  pub own_gap : a.gap ≡ (card_fields w).gap
  pub own_verdict : verdict_number a.verdict ≡ (card_fields w).verdict
  pub own_tolerance : (sheet s).tolerance ≡ (card_fields w).tolerance
  -- which with the shares keeps what is promised of an answer, judged by the test of the card's letters
  pub answer : AnswerBounds (card_test w) (call_problem m b s) a (gather m.released shares)
  -- by the numbers of the book: other boats hold no shares, and the bounds are of any mixture of its boats that rests on released ones
  pub in_book : ReleasedAnswer m.released (fleet_problem m b s) a shares

-- ---- With the files alone

abbrev pub CardTrue : (b s w : List ℕ) → Type 0
CardTrue b s w = CardTrueWith plain_terms b s w

abbrev pub FiledBefore : (b s w : List ℕ) → Type 0
FiledBefore b s w = FiledBeforeWith plain_terms b s w

abbrev pub CardVouches : (b s w : List ℕ) → (a : Answer) → (shares : List ℕ) → Type 0
CardVouches b s w a shares = CardVouchesWith plain_terms b s w a shares

-- ---- The statements

-- a card is accepted exactly when it is true, whoever wrote it; and it is read as what it says
unfoldable pub AcceptedExactly : Type 0
AcceptedExactly =
    (m : Terms) (b s w : List ℕ) → call_refusal m b s ≡ 0 → all_bytes w ≡ true →
    (card_refusal_with m b s w ≡ 0 → CardTrueWith m b s w)
    × ((c : CardTrueWith m b s w) →
    (card_refusal_with m b s w ≡ 0) × (card_fields w ≡ c.own) × (card_shares (boats b) w ≡ c.shares) × (card_test w ≡ c.test)
    × (card_answer_with m b s w ≡ answer_of c.test (call_problem m b s) (gather m.released c.shares) c.own.steps))

-- a card that was written is accepted, also behind any front text that keeps it within 40,000 bytes, and reads back as the run's answer and shares
unfoldable pub WrittenAccepted : Type 0
WrittenAccepted =
    (m : Terms) (b s front : List ℕ) → call_refusal m b s ≡ 0 → length front + length (run_card_with m b s) ≤ file_limit →
    (card_refusal_with m b s (front ++ run_card_with m b s) ≡ 0)
    × (card_answer_with m b s (front ++ run_card_with m b s) ≡ run_answer (call_problem m b s)) × (card_shares (boats b) (front ++ run_card_with m b s) ≡ run_slots m b s)

-- a card that was filed before WCD2 is true, and so is still accepted
unfoldable pub FiledBeforeTrue : Type 0
FiledBeforeTrue = (m : Terms) (b s w : List ℕ) → call_refusal m b s ≡ 0 → FiledBeforeWith m b s w → CardTrueWith m b s w

-- a written card has at most 1,060 bytes, so it needs no front text to keep within 40,000
unfoldable pub WrittenShort : Type 0
WrittenShort = (m : Terms) (b s : List ℕ) → call_refusal m b s ≡ 0 → length (run_card_with m b s) ≤ card_limit

-- an accepted card vouches for the gap
unfoldable pub AcceptedVouches : Type 0
AcceptedVouches =
    (m : Terms) (b s w : List ℕ) → call_refusal m b s ≡ 0 → all_bytes w ≡ true → card_refusal_with m b s w ≡ 0 →
    CardVouchesWith m b s w (card_answer_with m b s w) (card_shares (boats b) w)

-- ---- Any shares of a total N above zero: N² times their duality gap, before it is clipped
unfoldable pub mixture_gap : Problem → (shares : List ℕ) → ℤ
mixture_gap p qs =
    let y = combination p.columns qs p.vertices in
    maximum (gaps p.factors (subtract y (scale (sum qs) p.target)) y (sum qs) p.vertices)

-- the gap is not below 0, and E and G keep to 62 bits for any total that a card can have
unfoldable pub SharesFit : Type 0
SharesFit =
    (b s qs : List ℕ) → files_refusal b s ≡ 0 → length qs ≡ boats b → 1 ≤ sum qs →
    (pos 0 ≤ℤ mixture_gap (problem b s) qs)
    × (sum qs ≤ total_limit → (mixture_distance (problem b s) qs < sum_limit) × (nat_abs (mixture_gap (problem b s) qs) < sum_limit))
