-- What refuses a card, 31 to 39, and the calls of the card writer and the card check.
use Rattle.std.specs.Prelude.{Bool, true, ◌&&◌, ◌||◌, not, cond, List, [], ◌∷◌, ℕ, zero, suc, ◌*◌, ◌%◌, eqb, ltb, leb, length, drop}
use Rattle.frank_wolfe.specs.Vectors.{sum}
use Rattle.files.specs.Bytes.{number, between, length_in_range, reaches}
use Rattle.files.specs.Book.{boats, columns}
use Rattle.method.specs.declared.Test.TheVariants.{Former, Sharper}
use Rattle.method.specs.declared.Answer.{Answer}
use Rattle.method.specs.ReleasedBoats.{Usable, every, only, may_use, gather}
use Rattle.method.specs.Problem.{Schedule, Problem, Terms, plain_terms, call_steps, call_problem, weight}
use Rattle.method.specs.Calls.{call_refusal}
use Rattle.method.specs.Answers.{verdict_number, stops, search_refusal_with}
use Rattle.method.specs.Bounds.{answer_of}
use Rattle.card_format.specs.Format.{card_fields, lettered, card_test, card_body, pair_count, card_shares, run_card_with}

-- whether a back count is above zero, a multiple of 4, at most 4 × boats, and starts inside the file
unfoldable pub back_fits : (boats back : ℕ) → List ℕ → Bool
back_fits n back w = (ltb 0 back && eqb (back % 4) 0) && (leb back (4 * n) && reaches 36 back w)

-- whether so many pairs are of boats in strictly ascending order, from `next` on and below `boats`, with no share of 0
unfoldable pub pairs_in_order : (count next boats : ℕ) → List ℕ → Bool
pairs_in_order zero next n bs = true
pairs_in_order (suc k) next n bs =
    (leb next (number 0 2 bs) && (ltb (number 0 2 bs) n && ltb 0 (number 2 2 bs))) && pairs_in_order k (suc (number 0 2 bs)) n (drop 4 bs)

-- whether a card's boats and columns are these
unfoldable pub counts_agree : (boats columns : ℕ) → List ℕ → Bool
counts_agree n c w = eqb (card_fields w).boats n && eqb (card_fields w).columns c

-- whether its verdict is 1 to 3 and its steps used are 1 to `steps`
unfoldable pub steps_fit : (steps : ℕ) → List ℕ → Bool
steps_fit steps w = between 1 3 (card_fields w).verdict && between 1 steps (card_fields w).steps

-- the first refusal, 31 to 36, of the form of a card for a book of so many boats and columns and a sheet of so many steps; 0 if none applies
unfoldable pub form_refusal : (boats columns steps : ℕ) → List ℕ → ℕ
form_refusal n c steps w =
    cond (not (length_in_range 36 w)) 31
    (cond (not (lettered Former w || lettered Sharper w)) 32
    (cond (not (counts_agree n c w)) 33
    (cond (not (steps_fit steps w)) 34
    (cond (not (back_fits n (card_fields w).back w)) 35
    (cond (not (pairs_in_order (pair_count w) 0 n (card_body w))) 36 0)))))

-- whether shares from this boat on rest on boats that may be used: every other boat's share is 0
unfoldable pub rests_from : Usable → (boat : ℕ) → (shares : List ℕ) → Bool
rests_from u i [] = true
rests_from u i (q ∷ qs) = (may_use u i || eqb q 0) && rests_from u (suc i) qs

abbrev pub rests : Usable → (shares : List ℕ) → Bool
rests every qs = true
rests (only set) qs = rests_from (only set) 0 qs

-- whether no more boats than steps hold shares, and they total W: t (t + 1) / 2 for the fixed shares, the first t entries of a table
unfoldable pub shares_total : Schedule → (count : ℕ) → (shares : List ℕ) → (t : ℕ) → Bool
shares_total a k qs t = leb k t && eqb (sum qs) (weight a t)

-- whether E, G and the verdict of a card are those of the answer of its shares, and the verdict ends a run of so many steps there
unfoldable pub numbers_agree : (steps : ℕ) → (card : List ℕ) → Answer → Bool
numbers_agree steps w a =
    let f = card_fields w in
    (eqb f.distance a.distance && eqb f.gap a.gap)
    && (eqb f.verdict (verdict_number a.verdict) && stops steps f.steps a.verdict)

-- whether what a card says, judged by the test of its letters, is true of some shares, one a vertex of a problem: 37 to 39; 0 if none applies
unfoldable pub truth_refusal : Problem → (shares card : List ℕ) → ℕ
truth_refusal p qs w =
    let f = card_fields w in
    cond (not (shares_total p.schedule (pair_count w) qs f.steps)) 37
    (cond (not (numbers_agree p.steps w (answer_of (card_test w) p qs f.steps))) 38
    (cond (eqb f.tolerance p.tolerance) 0 39))

-- the first refusal, 31 to 39, that applies to a card in a call whose terms and files are accepted; 0 if none does. Its form goes by the whole
-- book: 31 to 36; 36 also where it rests on a boat that may not be used; then its truth of the boats that may be, 37 to 39
unfoldable pub card_refusal_with : Terms → (book sheet card : List ℕ) → ℕ
card_refusal_with m b s w =
    let form = form_refusal (boats b) (columns b) (call_steps m s) w in
    let qs = card_shares (boats b) w in
    cond (eqb form 0) (cond (not (rests m.released qs)) 36 (truth_refusal (call_problem m b s) (gather m.released qs) w)) form

-- of the writer: what refuses the call's terms and its files, then 22, a buffer shorter than the card
unfoldable pub write_refusal_with : Terms → (book sheet : List ℕ) → (room : ℕ) → ℕ
write_refusal_with m b s room = cond (eqb (call_refusal m b s) 0) (cond (ltb room (length (run_card_with m b s))) 22 0) (call_refusal m b s)

-- of the check: what refuses the call's terms and its files, 21 of the share list, then the card's
unfoldable pub check_refusal_with : Terms → (book sheet card : List ℕ) → (slots : ℕ) → ℕ
check_refusal_with m b s w slots = cond (eqb (search_refusal_with m b s slots) 0) (card_refusal_with m b s w) (search_refusal_with m b s slots)

-- ---- With the files alone

abbrev pub card_refusal : (book sheet card : List ℕ) → ℕ
card_refusal b s w = card_refusal_with plain_terms b s w

abbrev pub write_refusal : (book sheet : List ℕ) → (room : ℕ) → ℕ
write_refusal b s room = write_refusal_with plain_terms b s room

abbrev pub check_refusal : (book sheet card : List ℕ) → (slots : ℕ) → ℕ
check_refusal b s w slots = check_refusal_with plain_terms b s w slots
