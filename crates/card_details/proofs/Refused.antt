-- What a refusal of a card by 31 to 39 gives: book and sheet were accepted, and each test before that of the number was passed.
use mathlib.Core.Path.{◌≡◌, refl}
use mathlib.Core.Bool.{Bool, true, false, ◌&&◌, ◌||◌, not, cond}
use mathlib.Core.List.{List}
use Prim.Native.Nat.{ℕ, zero, suc, ◌+◌, ◌*◌, ◌-◌, ◌≤◌}
use native.Mathlib.Omega.{arith}
use borrow.Author.Tests.{eqb-true}
use lib.Dec.{eqb, leb, ltb, eqb-suc-zero}
use lib.ListN.{length, take, drop, replicate}
use Rattle.frank_wolfe.specs.Vectors.{sum}
use Rattle.files.specs.Limits.{file_limit, step_limit}
use Rattle.files.specs.Bytes.{number, values, same, between, all_in_range, length_in_range, trailer, body_offset, body, reaches, body_refusal}
use Rattle.files.specs.Book.{boats, columns, WBK1, book_refusal}
use Rattle.files.specs.Sheet.{sheet, sheet_columns, WSH1, WSH2, sheet_lettered, sheet_back, sheet_refusal_in, sheet_refusal, files_refusal}
use Rattle.files.proofs.Refusal.{and_true, between_true}
use Rattle.method.specs.declared.Test.TheVariants.{Former, Sharper}
use Rattle.method.specs.Problem.{fixed, plain_terms, call_problem, weight}
use Rattle.listing.proofs.Outcomes.{same_refusal}
use Rattle.card_format.specs.Format.{card_fields, lettered, card_body, pair_count, shares_into, card_shares}
use Rattle.card_format.specs.Checks.{counts_agree, steps_fit, back_fits, pairs_in_order, shares_total, form_refusal, truth_refusal, card_refusal, card_refusal_with, check_refusal, check_refusal_with}
use Rattle.files.proofs.Accepted.{files_accepted}
use Rattle.card_format.proofs.Accepted.{BackFits, back_means}
use Rattle.card_input.proofs.Reading.{back_fours}
use Rattle.card_truth.specs.Readable.{CardReadable}
use Rattle.card_truth.proofs.Judging.{formed}
use Rattle.card.proofs.Checking.{pairs_asked, found_are}

-- ---- Numbers of a book or a sheet are not those of a card

abbrev NotCard : ℕ → Type 0
NotCard n = 31 ≤ n → n ≤ 39 → ⊥

other : (g : Bool) {k x : ℕ} → NotCard k → NotCard x → NotCard (cond g k x)
other true h f = h
other false h f = f

-- the later number where the first is 0
later : (n : ℕ) {x : ℕ} → NotCard n → NotCard x → NotCard (cond (eqb n 0) x n)
later n f g = other (eqb n 0) g f

body_not : (size back count place range : ℕ) (bs : List ℕ) → NotCard place → NotCard range → NotCard (body_refusal size back count place range bs)
unfolding body_refusal
body_not size back count place range bs h f = other (not (eqb (number 0 4 (trailer size bs)) back && reaches size (number 0 4 (trailer size bs)) bs)) h (other (all_in_range (values count (body size back bs))) {k = 0} (λ e g. omega arith) f)

book_not : (b : List ℕ) → NotCard (book_refusal b)
unfolding book_refusal
book_not b =
    other (not (length_in_range 12 b)) (λ e g. omega arith)
    (other (not (same (drop 8 (trailer 12 b)) WBK1)) (λ e g. omega arith)
    (other (not (between 1 256 (boats b))) (λ e g. omega arith)
    (other (not (between 1 64 (columns b))) (λ e g. omega arith)
    (body_not 12 (2 * (boats b * columns b)) (boats b * columns b) 5 6 b (λ e g. omega arith) (λ e g. omega arith)))))

sheet_not : (c : ℕ) (s : List ℕ) → NotCard (sheet_refusal c s)
unfolding sheet_refusal_in
sheet_not c s =
    let in_Body = body_refusal 16 (sheet_back s) (sheet_columns s) 16 17 s in
    other (not (length_in_range 16 s)) (λ e g. omega arith)
    (other (not (sheet_lettered WSH1 s || sheet_lettered WSH2 s)) (λ e g. omega arith)
    (other (not (between c c (sheet_columns s))) (λ e g. omega arith)
    (other (not (between 1 step_limit (sheet s).steps)) (λ e g. omega arith)
    (other (ltb 1024000000 (sheet s).tolerance) (λ e g. omega arith)
    (other (not (eqb in_Body 0)) (body_not 16 (sheet_back s) (sheet_columns s) 16 17 s (λ e g. omega arith) (λ e g. omega arith))
    (other (between 1 64 (sum (sheet s).factors)) (λ e g. omega arith) (λ e g. omega arith)))))))

files_not : (b s : List ℕ) → NotCard (files_refusal b s)
unfolding files_refusal
files_not b s = later (book_refusal b) (book_not b) (sheet_not (columns b) s)

-- ---- The files are accepted, and the number is the card's

pub record CardRefused (b s w : List ℕ) (r : ℕ) : Type 0 where
  pub files : files_refusal b s ≡ 0
  pub own : card_refusal b s w ≡ r

-- a number that is not the first is the later one's
second : (n : ℕ) {x r : ℕ} → (n ≡ r → ⊥) → cond (eqb n 0) x n ≡ r → (n ≡ 0) × (x ≡ r)
second zero d e = (refl, e)
second (suc n) d e = absurd (d (rw (eqb-suc-zero n) at e))

pub card_refused : (b s w : List ℕ) {r : ℕ} → check_refusal b s w 256 ≡ r → 31 ≤ r → r ≤ 39 → CardRefused b s w r
unfolding check_refusal_with
card_refused b s w {r} e h g =
    let k : cond (eqb (files_refusal b s) 0) (card_refusal b s w) (files_refusal b s) ≡ r = rw (same_refusal b s) at e in
    let p = second (files_refusal b s) (λ z. files_not b s (omega arith) (omega arith)) k in
    record { files = p.0; own = p.1 }

-- ---- The tests before that of the number

-- a refusal by another number passed this test
passed : (g : Bool) {k n x : ℕ} → (k ≡ n → ⊥) → cond (not g) k x ≡ n → (g ≡ true) × (x ≡ n)
passed true d e = (refl, e)
passed false d e = absurd (d e)

-- the first number where it is not 0, else the later: what the number is
split : (n : ℕ) {x r : ℕ} → cond (eqb n 0) x n ≡ r → {P : Type 0} → (n ≡ r → P) → (n ≡ 0 → x ≡ r → P) → P
split zero e f g = g refl e
split (suc n) e f g = f (rw (eqb-suc-zero n) at e)

module _ (n c steps : ℕ) (w : List ℕ) {r : ℕ} (e : form_refusal n c steps w ≡ r) where
  form_long : (31 ≡ r → ⊥) → 36 ≤ length w
  unfolding form_refusal length_in_range
  form_long d = (between_true 36 file_limit (length w) (passed (between 36 file_limit (length w)) d e).0).0

  form_back : ((k : ℕ) → 31 ≤ k → k ≤ 35 → k ≡ r → ⊥) → BackFits n (card_fields w).back w
  unfolding form_refusal
  form_back d =
      let p1 = passed (length_in_range 36 w) (d 31 (omega arith) (omega arith)) e in
      let p2 = passed (lettered Former w || lettered Sharper w) (d 32 (omega arith) (omega arith)) p1.1 in
      let p3 = passed (counts_agree n c w) (d 33 (omega arith) (omega arith)) p2.1 in
      let p4 = passed (steps_fit steps w) (d 34 (omega arith) (omega arith)) p3.1 in
      back_means n (card_fields w).back w (passed (back_fits n (card_fields w).back w) (d 35 (omega arith) (omega arith)) p4.1).0

at_most : (g : Bool) {k x m : ℕ} → k ≤ m → x ≤ m → cond g k x ≤ m
at_most true h f = h
at_most false h f = f

form_few : (n c steps : ℕ) (w : List ℕ) → form_refusal n c steps w ≤ 36
unfolding form_refusal
form_few n c steps w =
    at_most (not (length_in_range 36 w)) (omega arith)
    (at_most (not (lettered Former w || lettered Sharper w)) (omega arith)
    (at_most (not (counts_agree n c w)) (omega arith)
    (at_most (not (steps_fit steps w)) (omega arith)
    (at_most (not (back_fits n (card_fields w).back w)) (omega arith) (at_most (not (pairs_in_order (pair_count w) 0 n (card_body w))) (omega arith) (omega arith))))))

module _ (b s w : List ℕ) {r : ℕ} (e : card_refusal b s w ≡ r) where
  abbrev form : ℕ
  form = form_refusal (boats b) (columns b) (sheet s).steps w

  parts : cond (eqb form 0) (truth_refusal (call_problem plain_terms b s) (card_shares (boats b) w) w) form ≡ r
  unfolding card_refusal_with
  parts = e

  pub card_long : 32 ≤ r → 36 ≤ length w
  card_long h =
      split form parts (λ z. form_long (boats b) (columns b) (sheet s).steps w z (λ q. omega arith)) (λ z f. form_long (boats b) (columns b) (sheet s).steps w z (λ q. omega arith))

  pub card_held : 36 ≤ r → BackFits (boats b) (card_fields w).back w
  card_held h =
      split form parts (λ z. form_back (boats b) (columns b) (sheet s).steps w z (λ k i j q. omega arith)) (λ z f. form_back (boats b) (columns b) (sheet s).steps w z (λ k i j q. omega arith))

  pub card_formed : 37 ≤ r → form_refusal (boats b) (columns b) (sheet s).steps w ≡ 0
  card_formed h = split form parts (λ z. absurd (omega (arith, form_few (boats b) (columns b) (sheet s).steps w))) (λ z f. z)

  pub card_totalled : r ≡ 38 → sum (card_shares (boats b) w) ≡ weight fixed (card_fields w).steps
  unfolding truth_refusal shares_total call_problem
  card_totalled h =
      split form parts (λ z. absurd (omega (arith, form_few (boats b) (columns b) (sheet s).steps w)))
      (λ z f. eqb-true _ _ (and_true (leb (pair_count w) (card_fields w).steps) _ (passed _ (λ q. omega arith) f).0).1)

-- ---- What the lines ask for, of a card that the check refuses

module _ (b s w : List ℕ) {r : ℕ} (e : check_refusal b s w 256 ≡ r) where
  pub accepted : 31 ≤ r → r ≤ 39 → files_refusal b s ≡ 0
  accepted h g = (card_refused b s w e h g).files

  -- the sizes of the three files
  pub book_size : 31 ≤ r → r ≤ 39 → (12 ≤ length b) × (boats b ≤ 256)
  book_size h g = let p = (files_accepted b s (accepted h g)).0 in (p.at_least, p.most_boats)

  pub sheet_size : 31 ≤ r → r ≤ 39 → 16 ≤ length s
  sheet_size h g = (files_accepted b s (accepted h g)).1.at_least

  pub card_size : 32 ≤ r → r ≤ 39 → 36 ≤ length w
  card_size h g = card_long b s w (card_refused b s w e (omega arith) g).own h

  module _ {k : ℕ} (ek : k ≡ pair_count w) where
    pub entries_room : 36 ≤ r → r ≤ 39 → 4 * k ≤ length w - 36
    entries_room h g = let f = card_held b s w (card_refused b s w e (omega arith) g).own h in omega (arith, f.inside, back_fours f)

    pub entries_start : 36 ≤ r → r ≤ 39 → length w - 36 - 4 * k ≡ body_offset 36 (card_fields w).back w
    entries_start h g = let f = card_held b s w (card_refused b s w e (omega arith) g).own h in rw (ek, back_fours f)

    module _ (h : 37 ≤ r) (g : r ≤ 39) where
      right_form : form_refusal (boats b) (columns b) (sheet s).steps w ≡ 0
      right_form = card_formed b s w (card_refused b s w e (omega arith) g).own h

      pub entries_asked : (length w - 36 - 4 * k + 4 * k ≤ length w) × (pairs_in_order k 0 256 (drop (length w - 36 - 4 * k) w) ≡ true)
      entries_asked = pairs_asked plain_terms b s w (accepted (omega arith) g) right_form ek

      pub shares_are : {found : List ℕ} → found ≡ shares_into k (drop (length w - 36 - 4 * k) w) (replicate 256 0) → take (boats b) found ≡ card_shares (boats b) w
      shares_are q = found_are plain_terms b s w (accepted (omega arith) g) right_form ek q

      pub readable : CardReadable (sheet s).steps w
      readable = (formed (boats b) (columns b) (sheet s).steps w right_form).readable

      pub few_steps : (card_fields w).steps ≤ step_limit
      few_steps = omega (arith, readable.most_steps, (files_accepted b s (accepted (omega arith) g)).1.most_steps)

  pub totalled : r ≡ 38 → sum (card_shares (boats b) w) ≡ weight fixed (card_fields w).steps
  totalled h = card_totalled b s w (card_refused b s w e (omega arith) (omega arith)).own h
