-- A card is accepted exactly when it is well formed and true.
use mathlib.Core.Path.{◌≡◌, refl, sym, ap, ◌∙◌}
use mathlib.Core.Bool.{Bool, true, false, not, ◌&&◌, ◌||◌, cond}
use mathlib.Core.List.{List, [], ◌∷◌}
use Prim.Native.Nat.{ℕ, zero, suc, ◌+◌, ◌*◌, ◌-◌, ◌/◌, ◌%◌, ◌≤◌, ◌<◌}
use native.Mathlib.Nat.{zero-add, add-zero}
use native.Mathlib.Omega.{arith}
use borrow.Author.Tests.{eqb-true, eq-eqb, ne_eqb, leb-true, le-leb, ltb-true, lt-ltb}
use lib.Dec.{eqb, leb, ltb, eqb-suc-zero}
use lib.ListN.{length, get_or, take, drop, length-drop}
use lib.Seq.{length-take-le}
use Rattle.frank_wolfe.specs.Vectors.{sum}
use Rattle.files.specs.Bytes.{all_bytes, same, between, length_in_range, trailer, body_offset, body, reaches}
use Rattle.files.specs.Book.{columns, boats}
use Rattle.files.specs.Sheet.{sheet}
use Rattle.method.specs.Calls.{call_refusal}
use Rattle.files.proofs.Refusal.{and_true, between_true, between_said}
use Rattle.files.proofs.Accepted.{passed, passed_last, files_accepted}
use Rattle.method.specs.declared.Test.{Test}
use Rattle.method.specs.declared.Test.TheVariants.{Former, Sharper}
use Rattle.method.specs.declared.Verdict.{Verdict}
use Rattle.method.specs.declared.Verdict.TheVariants.{Within, Beyond, Spent}
use Rattle.method.specs.ReleasedBoats.{Usable, every, only, may_use, used_from, gather, RestsOn}
use Rattle.method.specs.Problem.{Terms, call_steps, call_problem, weight}
use Rattle.method.specs.Iterates.{support}
use Rattle.method.specs.Answers.{verdict_number, stops}
use Rattle.method.specs.Bounds.{answer_of, AnswerBounds}
use Rattle.method.proofs.ReleasedBoats.{every_used, length_gather, sum_gather, support_gather}
use Rattle.method.proofs.Accepted.{files_ok, call_schedule, well_formed, in_range, sized, vertex_count}
use Rattle.method.proofs.Bounds.{answer_bounds}
use Rattle.method.proofs.Weights.{weight_positive}
use Rattle.method.proofs.Shares.{share_most}
use Rattle.card_format.specs.Format.{Fields, letters, pairs, trailer_bytes, fields, card_fields, lettered, card_test, card_body, pair_count, card_shares, card_answer_with}
use Rattle.card_format.specs.Checks.{back_fits, pairs_in_order, counts_agree, steps_fit, form_refusal, rests_from, rests, shares_total, numbers_agree, truth_refusal, card_refusal_with}
use Rattle.card_format.specs.Truth.{CardTrueWith}
use Rattle.files.proofs.Bytes.{drop_bytes}
use Rattle.card_format.proofs.Pairs.{Parsed, parse, Readable, readable}
use Rattle.files.proofs.Letters.{same_eq}
use Rattle.files.specs.Limits.{file_limit, step_limit}
use Rattle.card_format.proofs.Trailer.{FieldsFit, length_trailer, letters_written, fields_read, fields_written, file_length, file_trailer, file_body, file_parts}

-- ---- The tests, one by one

pub record Passed (m : Terms) (b s w : List ℕ) : Type 0 where
  pub sized : length_in_range 36 w ≡ true
  pub letters : lettered Former w || lettered Sharper w ≡ true
  pub counts : counts_agree (boats b) (columns b) w ≡ true
  pub ranges : steps_fit (call_steps m s) w ≡ true
  pub back : back_fits (boats b) (card_fields w).back w ≡ true
  pub ordered : pairs_in_order (pair_count w) 0 (boats b) (card_body w) ≡ true
  pub resting : rests m.released (card_shares (boats b) w) ≡ true
  pub totals : shares_total m.schedule (pair_count w) (gather m.released (card_shares (boats b) w)) (card_fields w).steps ≡ true
  pub numbers : numbers_agree (call_steps m s) w (card_answer_with m b s w) ≡ true
  pub tolerance : eqb (card_fields w).tolerance (sheet s).tolerance ≡ true

-- the first of two numbers that is not 0 is 0
pub both_zero : (m n : ℕ) → cond (eqb m 0) n m ≡ 0 → (m ≡ 0) × (n ≡ 0)
both_zero zero n e = (refl, e)
both_zero (suc m) n e = absurd (omega (arith, rw (eqb-suc-zero m) at e))

pub all_passed : (m : Terms) (b s w : List ℕ) → card_refusal_with m b s w ≡ 0 → Passed m b s w
unfolding card_refusal_with form_refusal truth_refusal card_answer_with call_problem
all_passed m b s w e =
    let u = m.released in
    let qs = card_shares (boats b) w in
    let p = both_zero (form_refusal (boats b) (columns b) (call_steps m s) w) (cond (not (rests u qs)) 36 (truth_refusal (call_problem m b s) (gather u qs) w)) e in
    let p1 = passed (length_in_range 36 w) 30 _ p.0 in
    let p2 = passed (lettered Former w || lettered Sharper w) 31 _ p1.1 in
    let p3 = passed (counts_agree (boats b) (columns b) w) 32 _ p2.1 in
    let p4 = passed (steps_fit (call_steps m s) w) 33 _ p3.1 in
    let p5 = passed (back_fits (boats b) (card_fields w).back w) 34 _ p4.1 in
    let p6 = passed (pairs_in_order (pair_count w) 0 (boats b) (card_body w)) 35 0 p5.1 in
    let p0 = passed (rests u qs) 35 _ p.1 in
    let p7 = passed (shares_total m.schedule (pair_count w) (gather u qs) (card_fields w).steps) 36 _ p0.1 in
    let p8 = passed (numbers_agree (call_steps m s) w (card_answer_with m b s w)) 37 _ p7.1 in
    record {
      sized = p1.0;
      letters = p2.0;
      counts = p3.0;
      ranges = p4.0;
      back = p5.0;
      ordered = p6.0;
      resting = p0.0;
      totals = p7.0;
      numbers = p8.0;
      tolerance = passed_last _ 38 p8.1;
    }

passed_all : {m : Terms} {b s w : List ℕ} → Passed m b s w → card_refusal_with m b s w ≡ 0
unfolding card_refusal_with form_refusal truth_refusal card_answer_with call_problem
passed_all p = simp (p.sized, p.letters, p.counts, p.ranges, p.back, p.ordered, p.resting, p.totals, p.numbers, p.tolerance)

-- ---- What the tests say

-- shares rest on boats that may be used exactly where the test says so
rests_from_means : (u : Usable) (i : ℕ) (qs : List ℕ) → rests_from u i qs ≡ true → (j : ℕ) → may_use u (i + j) ≡ false → get_or qs j 0 ≡ 0
unfolding rests_from
rests_from_means u i [] h j t = refl
rests_from_means u i (q ∷ qs) h zero t =
    let p = and_true (may_use u i || eqb q 0) _ h in
    let e : may_use u i ≡ false = rw (add-zero i) at t in
    eqb-true q 0 (rw e at p.0)
rests_from_means u i (q ∷ qs) h (suc j) t =
    let e : i + suc j ≡ suc i + j = omega arith in
    rests_from_means u (suc i) qs (and_true (may_use u i || eqb q 0) _ h).1 j (rw e at t)

rests_from_said : (u : Usable) (i : ℕ) (qs : List ℕ) → ((j : ℕ) → may_use u (i + j) ≡ false → get_or qs j 0 ≡ 0) → rests_from u i qs ≡ true
unfolding rests_from
rests_from_said u i [] f = refl
rests_from_said u i (q ∷ qs) f =
    rw (first (may_use u i) refl) (rests_from_said u (suc i) qs (λ j t. let e : i + suc j ≡ suc i + j = omega arith in f (suc j) (rw e t)))
  where
    first : (t : Bool) → may_use u i ≡ t → may_use u i || eqb q 0 ≡ true
    first true e = rw e
    first false e = let z : q ≡ 0 = f 0 (rw (add-zero i) e) in rw (e, z)

pub rests_means : (u : Usable) (qs : List ℕ) → rests u qs ≡ true → RestsOn u qs
rests_means every qs h i t = absurd (let e = every_used i in let z : ◌≡◌ {A = ℕ} 0 1 = cc in omega arith)
rests_means (only set) qs h i t = rests_from_means (only set) 0 qs h i (rw (zero-add i) t)

pub rests_said : (u : Usable) (qs : List ℕ) → RestsOn u qs → rests u qs ≡ true
rests_said every qs r = refl
rests_said (only set) qs r = rests_from_said (only set) 0 qs (λ j t. r j (rw (zero-add j) at t))

pub record BackFits (n back : ℕ) (w : List ℕ) : Type 0 where
  pub some : 0 < back
  pub fours : back % 4 ≡ 0
  pub few : back ≤ 4 * n
  pub inside : back ≤ length w - 36

pub back_means : (n back : ℕ) (w : List ℕ) → back_fits n back w ≡ true → BackFits n back w
unfolding back_fits reaches
back_means n back w h =
    let p = and_true (ltb 0 back && eqb (back % 4) 0) _ h in
    let q = and_true (ltb 0 back) _ p.0 in
    let r = and_true (leb back (4 * n)) _ p.1 in
    record { some = ltb-true 0 back q.0; fours = eqb-true (back % 4) 0 q.1; few = leb-true back (4 * n) r.0; inside = leb-true back (length w - 36) r.1 }

back_said : {n back : ℕ} {w : List ℕ} → BackFits n back w → back_fits n back w ≡ true
unfolding back_fits reaches
back_said {n} {back} {w} h = simp (lt-ltb 0 back h.some, eq-eqb (back % 4) 0 h.fours, le-leb back (4 * n) h.few, le-leb back (length w - 36) h.inside)

take_bytes : (k : ℕ) (xs : List ℕ) → all_bytes xs ≡ true → all_bytes (take k xs) ≡ true
unfolding all_bytes
take_bytes zero xs h = refl
take_bytes (suc k) [] h = refl
take_bytes (suc k) (x ∷ xs) h =
    let p = and_true (ltb x 256) (all_bytes xs) h in
    simp (p.0, take_bytes k xs p.1)

-- ---- The edition

-- the letters of an accepted card are those of its test
letters_tested : (w : List ℕ) → lettered Former w || lettered Sharper w ≡ true → drop 32 (trailer 36 w) ≡ letters (card_test w)
unfolding lettered card_test
letters_tested w h = by (lettered Sharper w) refl h
  where
    by : (q : Bool) → lettered Sharper w ≡ q → lettered Former w || q ≡ true → drop 32 (trailer 36 w) ≡ letters (cond q Sharper Former)
    by true e k = same_eq _ _ e
    by false e k = same_eq _ _ (either (lettered Former w) k)
      where
        either : (q : Bool) → q || false ≡ true → q ≡ true
        either true k = refl
        either false k = k

-- letters tell the test that they are of
letters_told : (test : Test) (w : List ℕ) → drop 32 (trailer 36 w) ≡ letters test → (lettered Former w || lettered Sharper w ≡ true) × (card_test w ≡ test)
unfolding lettered card_test letters same
letters_told Former w e = (rw e refl, rw e refl)
letters_told Sharper w e = (rw e refl, rw e refl)

-- ---- An accepted card is true

module _ (m : Terms) (b s w : List ℕ) (all : all_bytes w ≡ true) (p : Passed m b s w) where
  own : Fields
  own = card_fields w

  long : (36 ≤ length w) × (length w ≤ file_limit)
  unfolding length_in_range
  long = between_true 36 file_limit (length w) p.sized

  fits : BackFits (boats b) (card_fields w).back w
  fits = back_means (boats b) (card_fields w).back w p.back

  body_length : length (card_body w) ≡ (card_fields w).back
  unfolding card_body body
  body_length = length-take-le (card_fields w).back _ (rw length-drop (omega (arith, long.0, fits.inside)))

  body_bytes : all_bytes (card_body w) ≡ true
  unfolding card_body body
  body_bytes = take_bytes (card_fields w).back _ (drop_bytes (body_offset 36 (card_fields w).back w) w all)

  parsed : Parsed (pair_count w) 0 (boats b) (card_body w)
  unfolding pair_count
  parsed = parse (boats b) ((card_fields w).back / 4) 0 (boats b) (card_body w) (omega arith) body_bytes (body_length ∙ (omega (arith, fits.fours))) (unfold pair_count in p.ordered)

  shares_are : card_shares (boats b) w ≡ parsed.shares
  unfolding card_shares
  shares_are = parsed.read [] refl

  written : pairs 0 (card_shares (boats b) w) ≡ card_body w
  written = rw shares_are parsed.written

  trailer_length : length (trailer 36 w) ≡ 36
  unfolding trailer
  trailer_length = length-drop (length w - 36) w ∙ (omega (arith, long.0))

  trailer_written : trailer_bytes (card_test w) (card_fields w) ≡ trailer 36 w
  unfolding card_fields
  trailer_written = fields_written (card_test w) (trailer 36 w) (unfold trailer in drop_bytes (length w - 36) w all) trailer_length (letters_tested w p.letters)

  numbers_are : (eqb (card_fields w).distance (card_answer_with m b s w).distance && eqb (card_fields w).gap (card_answer_with m b s w).gap ≡ true)
      × (eqb (card_fields w).verdict (verdict_number (card_answer_with m b s w).verdict) && stops (call_steps m s) (card_fields w).steps (card_answer_with m b s w).verdict ≡ true)
  unfolding numbers_agree
  numbers_are = and_true (eqb (card_fields w).distance (card_answer_with m b s w).distance && eqb (card_fields w).gap (card_answer_with m b s w).gap) _ p.numbers

  resting : RestsOn m.released (card_shares (boats b) w)
  resting = rests_means m.released (card_shares (boats b) w) p.resting

  passed_true : CardTrueWith m b s w
  unfolding call_problem card_answer_with counts_agree steps_fit shares_total
  passed_true =
      let counts = and_true (eqb (card_fields w).boats (boats b)) _ p.counts in
      let n : (card_fields w).boats ≡ boats b = eqb-true _ _ counts.0 in
      let ranges = and_true (between 1 3 (card_fields w).verdict) _ p.ranges in
      let steps = between_true 1 (call_steps m s) (card_fields w).steps ranges.1 in
      let totals = and_true (leb (pair_count w) (card_fields w).steps) _ p.totals in
      let eg = and_true (eqb (card_fields w).distance (card_answer_with m b s w).distance) _ numbers_are.0 in
      let vs = and_true (eqb (card_fields w).verdict (verdict_number (card_answer_with m b s w).verdict)) _ numbers_are.1 in
      record {
        front = take (length w - 36 - (card_fields w).back) w;
        shares = card_shares (boats b) w;
        own = card_fields w;
        test = card_test w;
        layout = rw (written, trailer_written) (unfold card_body in file_parts w (card_fields w).back (omega (arith, long.0, fits.inside)));
        most_bytes = long.1;
        back = sym (ap length written ∙ body_length);
        boats = n;
        columns = eqb-true _ _ counts.1;
        share_count = ap length shares_are ∙ parsed.share_count ∙ sym n;
        rests = resting;
        truth = record {
          total = eqb-true _ _ totals.1;
          few_boats = rw (support_gather m.released (card_shares (boats b) w) resting, shares_are, parsed.boats) (leb-true (pair_count w) (card_fields w).steps totals.0);
          some_step = steps.0;
          most_steps = steps.1;
          distance = eqb-true _ _ eg.0;
          gap = eqb-true _ _ eg.1;
          verdict = eqb-true _ _ vs.0;
          stops_here = vs.1;
          tolerance = eqb-true _ _ p.tolerance;
        };
      }

pub accepted_true : (m : Terms) (b s w : List ℕ) → all_bytes w ≡ true → card_refusal_with m b s w ≡ 0 → CardTrueWith m b s w
accepted_true m b s w all e = passed_true m b s w all (all_passed m b s w e)

-- ---- A true card is accepted

verdict_between : (v : Verdict) → (1 ≤ verdict_number v) × (verdict_number v ≤ 3)
unfolding verdict_number
verdict_between Within = (omega arith, omega arith)
verdict_between (Beyond f) = (omega arith, omega arith)
verdict_between (Spent n) = (omega arith, omega arith)

pub support_most : (qs : List ℕ) → support qs ≤ length qs
unfolding support
support_most [] = omega arith
support_most (zero ∷ qs) = omega (arith, support_most qs)
support_most (suc q ∷ qs) = rw (ne_eqb (suc q) 0 (λ e. omega arith)) (omega (arith, support_most qs))

support_some : (qs : List ℕ) → 1 ≤ sum qs → 1 ≤ support qs
unfolding support sum
support_some [] h = h
support_some (zero ∷ qs) h = omega (arith, support_some qs (omega arith))
support_some (suc q ∷ qs) h = rw (ne_eqb (suc q) 0 (λ e. omega arith)) (omega arith)

module _ (m : Terms) (b s w : List ℕ) (ok : call_refusal m b s ≡ 0) (c : CardTrueWith m b s w) where
  few_steps : c.own.steps ≤ step_limit
  unfolding call_problem
  few_steps = omega (arith, (call_schedule m b s ok).most_steps (sheet s).steps, c.truth.most_steps, (files_accepted b s (files_ok m b s ok)).1.most_steps)

  count : length c.shares ≡ boats b
  count = c.share_count ∙ c.boats

  -- those of the boats that may be used
  abbrev own_shares : List ℕ
  own_shares = gather m.released c.shares

  own_total : sum c.shares ≡ weight m.schedule c.own.steps
  unfolding call_problem
  own_total = sym (sum_gather m.released c.shares c.rests) ∙ c.truth.total

  own_few : support c.shares ≤ c.own.steps
  own_few = rw (support_gather m.released c.shares c.rests) at c.truth.few_boats

  own_count : length own_shares ≡ length (call_problem m b s).vertices
  own_count = length_gather m.released c.shares ∙ ap (λ n. length (used_from m.released 0 n)) count ∙ sym (vertex_count m b s ok)

  share_fits : (j : ℕ) → get_or c.shares j 0 < 65536
  share_fits j = omega (arith, share_most c.shares j, own_total, (call_schedule m b s ok).most_total c.own.steps few_steps)

  reading : Readable 0 (boats b) (support c.shares) (pairs 0 c.shares) c.shares
  reading = readable c.shares 0 (boats b) (omega (arith, count)) (omega (arith, (files_accepted b s (files_ok m b s ok)).0.most_boats)) share_fits

  pub own_bounds : AnswerBounds c.test (call_problem m b s) (answer_of c.test (call_problem m b s) own_shares c.own.steps) own_shares
  own_bounds = answer_bounds (well_formed m b s ok) (in_range m b s ok) (sized m b s ok) c.test own_shares c.own.steps own_count c.truth.total c.truth.few_boats c.truth.some_step c.truth.most_steps c.truth.stops_here

  own_fits : FieldsFit c.own
  unfolding call_problem
  own_fits =
      let book = (files_accepted b s (files_ok m b s ok)).0 in
      record {
        back = omega (arith, c.back, reading.sized, support_most c.shares, count, book.most_boats);
        verdict = omega (arith, c.truth.verdict, (verdict_between (answer_of c.test (call_problem m b s) own_shares c.own.steps).verdict).1);
        steps = omega (arith, few_steps);
        tolerance = omega (arith, c.truth.tolerance, (files_accepted b s (files_ok m b s ok)).1.most_tolerance);
        distance = omega (arith, c.truth.distance, own_bounds.distance_fits);
        gap = omega (arith, c.truth.gap, own_bounds.gap_fits);
        boats = omega (arith, c.boats, book.most_boats);
        columns = omega (arith, c.columns, book.most_columns);
      }

  trailer_is : trailer 36 w ≡ trailer_bytes c.test c.own
  trailer_is = ap (trailer 36) c.layout ∙ file_trailer c.front (pairs 0 c.shares) (trailer_bytes c.test c.own) (length_trailer c.test c.own)

  pub fields_are : card_fields w ≡ c.own
  unfolding card_fields
  fields_are = ap fields trailer_is ∙ fields_read c.test c.own own_fits

  back_is : (card_fields w).back ≡ length (pairs 0 c.shares)
  back_is = rw fields_are c.back

  body_is : card_body w ≡ pairs 0 c.shares
  unfolding card_body
  body_is =
      ap (λ n. body 36 n w) back_is ∙ ap (body 36 (length (pairs 0 c.shares))) c.layout
      ∙ file_body c.front (pairs 0 c.shares) (trailer_bytes c.test c.own) (length_trailer c.test c.own)

  count_is : pair_count w ≡ support c.shares
  unfolding pair_count
  count_is = omega (arith, back_is, reading.sized)

  pub shares_back : card_shares (boats b) w ≡ c.shares
  unfolding card_shares
  shares_back = rw (count_is, body_is, ← count) (reading.read [] refl)

  told : (lettered Former w || lettered Sharper w ≡ true) × (card_test w ≡ c.test)
  told = letters_told c.test w (ap (drop 32) trailer_is ∙ letters_written c.test c.own)

  pub test_is : card_test w ≡ c.test
  test_is = told.1

  pub answer_is : card_answer_with m b s w ≡ answer_of c.test (call_problem m b s) own_shares c.own.steps
  unfolding card_answer_with
  answer_is = rw (test_is, fields_are, shares_back)

  file_size : length w ≡ length c.front + (length (pairs 0 c.shares) + 36)
  file_size = ap length c.layout ∙ file_length c.front (pairs 0 c.shares) (trailer_bytes c.test c.own) (length_trailer c.test c.own)

  numbers_said : numbers_agree (call_steps m s) w (card_answer_with m b s w) ≡ true
  unfolding call_problem numbers_agree
  numbers_said = rw (answer_is, fields_are) (simp (eq-eqb _ _ c.truth.distance, eq-eqb _ _ c.truth.gap, eq-eqb _ _ c.truth.verdict, c.truth.stops_here))

  true_passed : Passed m b s w
  unfolding call_problem length_in_range counts_agree steps_fit shares_total
  true_passed =
      let v = verdict_between (answer_of c.test (call_problem m b s) own_shares c.own.steps).verdict in
      record {
        sized = between_said (omega (arith, file_size)) c.most_bytes;
        letters = told.0;
        counts = rw fields_are (simp (eq-eqb _ _ c.boats, eq-eqb _ _ c.columns));
        ranges = rw fields_are (simp (between_said {least = 1} {most = 3} {n = c.own.verdict} (rw c.truth.verdict v.0) (rw c.truth.verdict v.1), between_said c.truth.some_step c.truth.most_steps));
        back = back_said (rw back_is (record {
          some = omega (arith, reading.sized, support_some c.shares (rw own_total (weight_positive (call_schedule m b s ok).fits c.truth.some_step)));
          fours = omega (arith, reading.sized);
          few = omega (arith, reading.sized, support_most c.shares, count);
          inside = omega (arith, file_size);
        }));
        ordered = rw (count_is, body_is) reading.ordered;
        resting = rw shares_back (rests_said m.released c.shares c.rests);
        totals = rw (count_is, shares_back, fields_are) (simp (le-leb _ _ own_few, eq-eqb _ _ c.truth.total));
        numbers = numbers_said;
        tolerance = rw fields_are (eq-eqb _ _ c.truth.tolerance);
      }

  pub true_accepted : card_refusal_with m b s w ≡ 0
  true_accepted = passed_all true_passed
