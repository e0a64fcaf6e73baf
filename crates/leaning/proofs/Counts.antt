-- The entries of one card, as many as boats that hold shares; one card more in the counts; the check of a card refuses as its pair does.
use mathlib.Core.Path.{◌≡◌, refl, ◌∙◌}
use mathlib.Core.Bool.{true, ◌&&◌}
use mathlib.Core.List.{List, [], ◌∷◌}
use Prim.Native.Nat.{ℕ, zero, suc, ◌+◌, ◌≤◌, ◌<◌}
use native.Mathlib.Omega.{arith}
use borrow.Author.Tests.{leb-true, ltb-true, eq-eqb, ne_eqb}
use lib.Dec.{ltb, leb}
use lib.ListN.{length, drop, get_or, set, replicate, length-set, length-replicate, drop_of_length-le}
use lib.Seq.{drop-cons, get_or-set_other}
use Rattle.frank_wolfe.specs.Vectors.{sum}
use Rattle.files.specs.Bytes.{number}
use Rattle.files.specs.Book.{boats, columns, book_refusal}
use Rattle.files.specs.Sheet.{sheet_refusal, files_refusal}
use Rattle.files.proofs.Refusal.{and_true}
use Rattle.method.specs.Problem.{plain_terms}
use Rattle.method.specs.Iterates.{support}
use Rattle.method.specs.Answers.{search_refusal}
use Rattle.card_format.specs.Format.{shares_into, pair_count, card_body, card_shares}
use Rattle.card_format.specs.Checks.{pairs_in_order, card_refusal, check_refusal, check_refusal_with}
use Rattle.card_format.proofs.Accepted.{all_passed}
use Rattle.listing.proofs.Outcomes.{long_enough}
use Rattle.leaning.specs.Report.{Pair, pair_refusal, cards_on, counts_from}

-- ---- The entries of one card

-- no share from a boat on
record NoneFrom (i : ℕ) (qs : List ℕ) : Type 0 where
  none : (j : ℕ) → i ≤ j → get_or qs j 0 ≡ 0

support_new : (qs : List ℕ) (i q : ℕ) → i < length qs → get_or qs i 0 ≡ 0 → 0 < q → support (set qs i q) ≡ suc (support qs)
unfolding support
support_new [] i q h e k = absurd (omega arith)
support_new (p ∷ qs) zero q h e k = rw (e, ne_eqb q 0 (λ z. omega arith)) (omega arith)
support_new (p ∷ qs) (suc i) q h e k = omega (arith, support_new qs i q (omega arith) e k)

support_zero : (n : ℕ) → support (replicate n 0) ≡ 0
unfolding support
support_zero zero = refl
support_zero (suc n) = omega (arith, support_zero n)

zero_at : (n j : ℕ) → ◌≡◌ {A = ℕ} (get_or (replicate n 0) j 0) 0
zero_at zero j = refl
zero_at (suc n) zero = refl
zero_at (suc n) (suc j) = zero_at n j

-- each pair in order gives a boat shares that had none
support_into : (k next n : ℕ) (bs qs : List ℕ) → pairs_in_order k next n bs ≡ true → length qs ≡ n → NoneFrom next qs → support (shares_into k bs qs) ≡ k + support qs
unfolding pairs_in_order shares_into
support_into zero next n bs qs h l z = omega arith
support_into (suc k) next n bs qs h l z =
    let i = number 0 2 bs in
    let q = number 2 2 bs in
    let a = and_true (leb next i && (ltb i n && ltb 0 q)) _ h in
    let b = and_true (leb next i) _ a.0 in
    let d = and_true (ltb i n) _ b.1 in
    let from : next ≤ i = leb-true next i b.0 in
    let below : i < n = ltb-true i n d.0 in
    let e = support_into k (suc i) n (drop 4 bs) (set qs i q) a.1 (length-set qs i q ∙ l)
    (record { none = λ j m. get_or-set_other qs i j q 0 (λ x. omega arith) ∙ z.none j (omega arith) }) in
    let f = support_new qs i q (omega arith) (z.none i from) (ltb-true 0 q d.1) in
    omega (arith, e, f)

pub card_entries : (b s w : List ℕ) → card_refusal b s w ≡ 0 → support (card_shares (boats b) w) ≡ pair_count w
unfolding card_shares
card_entries b s w e =
    omega (
      arith,
      support_into (pair_count w) 0 (boats b) (card_body w) (replicate (boats b) 0) (all_passed plain_terms b s w e).ordered (length-replicate (boats b) 0)
          (record { none = λ j h. zero_at (boats b) j }),
      support_zero (boats b),
    )

length_into : (k : ℕ) (bs qs : List ℕ) → length (shares_into k bs qs) ≡ length qs
unfolding shares_into
length_into zero bs qs = refl
length_into (suc k) bs qs = length_into k (drop 4 bs) (set qs (number 0 2 bs) (number 2 2 bs)) ∙ length-set qs (number 0 2 bs) (number 2 2 bs)

pub shares_length : (n : ℕ) (w : List ℕ) → length (card_shares n w) ≡ n
unfolding card_shares
shares_length n w = length_into _ _ (replicate n 0) ∙ length-replicate n 0

-- ---- The counts of several cards

-- one card more counts where it holds shares
pub counts_more : (i n : ℕ) (q : List ℕ) (qs : List (List ℕ)) → i + n ≡ length q → sum (counts_from i n (q ∷ qs)) ≡ support (drop i q) + sum (counts_from i n qs)
unfolding counts_from cards_on sum support
counts_more i zero q qs e = rw (drop_of_length-le q {i = i} (omega arith)) (omega arith)
counts_more i (suc n) q qs e =
    rw (drop-cons q i 0 (omega arith)) (omega (arith, counts_more (suc i) n q qs (omega arith)))

pub sum_none : (i n : ℕ) → sum (counts_from i n []) ≡ 0
unfolding counts_from cards_on sum
sum_none i zero = refl
sum_none i (suc n) = omega (arith, sum_none (suc i) n)

-- with slots for the book's boats the check of a card refuses as the pair does
pub pair_checked : (b : List ℕ) (p : Pair) (room : ℕ) → book_refusal b ≡ 0 → boats b ≤ room → check_refusal b p.sheet p.card room ≡ pair_refusal b p
unfolding check_refusal_with pair_refusal files_refusal
pair_checked b p room e h =
    let f : search_refusal b p.sheet room ≡ sheet_refusal (columns b) p.sheet = long_enough b p.sheet room (λ z. h) ∙ rw (eq-eqb (book_refusal b) 0 e) in
    rw f
