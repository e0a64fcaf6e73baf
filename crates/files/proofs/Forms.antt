-- The refusals with each test written out, and the values of a book tested row by row, are those of `specs/`.
use mathlib.Core.Path.{◌≡◌, refl, sym}
use mathlib.Core.Bool.{Bool, true, false, ◌&&◌, ◌||◌, not, cond}
use mathlib.Core.List.{List, [], ◌∷◌}
use Prim.Native.Nat.{ℕ, zero, suc, ◌*◌}
use native.Mathlib.Nat.{mul_assoc}
use native.Mathlib.Omega.{arith}
use borrow.Author.Tests.{leb-true, leb-false, lt-ltb, le-ltb, le-leb, ne_eqb, eqb-true, eqb-false}
use lib.Dec.{eqb, ltb, leb}
use lib.ListN.{length, drop}
use lib.IntN.{ℤ}
use Rattle.frank_wolfe.specs.Vectors.{sum}
use Rattle.files.specs.Bytes.{number, values, same, between, all_in_range, length_in_range, trailer, body, reaches, body_refusal}
use Rattle.files.specs.Book.{boats, columns, rows_from, rows, all_rows_in_range, book_refusal}
use Rattle.files.specs.Sheet.{sheet_columns, WSH2, sheet_lettered, factor_bytes, sheet_back, sheet, sheet_refusal_in, sheet_refusal, files_refusal}
use Rattle.files.proofs.Rows.{rows_flat}
use Rattle.files.specs.Limits.{file_limit, step_limit}

-- ---- the forms
length_good : (least : ℕ) → List ℕ → Bool
length_good k bs = leb k (length bs) && leb (length bs) file_limit

pub plain_rows : List ℕ → List (List ℤ)
plain_rows bs = rows_from (boats bs) (columns bs) (body 12 (2 * boats bs * columns bs) bs)

pub plain_book_refusal : List ℕ → ℕ
plain_book_refusal bs =
    let n = boats bs in
    let c = columns bs in
    let b = number 0 4 (trailer 12 bs) in
    cond (not (length_good 12 bs)) 1
    (cond (not (same (drop 8 (trailer 12 bs)) (87 ∷ 66 ∷ 75 ∷ 49 ∷ []))) 2
    (cond (eqb n 0 || ltb 256 n) 3
    (cond (eqb c 0 || ltb 64 c) 4 (cond (not (eqb b (2 * n * c) && reaches 12 b bs)) 5 (cond (all_rows_in_range (plain_rows bs)) 0 6)))))

pub plain_sheet_refusal : (columns : ℕ) → List ℕ → ℕ
plain_sheet_refusal c bs =
    let t = trailer 16 bs in
    let b = number 0 4 t in
    let k = number 6 2 t in
    let f = sum (sheet bs).factors in
    let two = same (drop 12 t) (87 ∷ 83 ∷ 72 ∷ 50 ∷ []) in
    cond (not (length_good 16 bs)) 11
    (cond (not (same (drop 12 t) (87 ∷ 83 ∷ 72 ∷ 49 ∷ []) || two)) 12
    (cond (not (eqb (number 4 2 t) c)) 13
    (cond (eqb k 0 || ltb step_limit k) 14
    (cond (ltb 1024000000 (number 8 4 t)) 15
    (cond (not (eqb b (cond two (3 * c) (2 * c)) && reaches 16 b bs)) 16
    (cond (not (all_in_range (sheet bs).target)) 17 (cond (eqb f 0 || ltb 64 f) 46 0)))))))

-- ---- and their equations
not_leb : (t : Bool) (a b : ℕ) → leb a b ≡ t → not t ≡ ltb b a
not_leb true a b e = sym (le-ltb b a (leb-true a b e))
not_leb false a b e = sym (lt-ltb b a (leb-false a b e))

outside : (most n : ℕ) → not (between 1 most n) ≡ eqb n 0 || ltb most n
unfolding between
outside most zero = refl
outside most (suc n) = simp (le-leb 1 (suc n) (omega arith), ne_eqb (suc n) 0 (λ e. omega arith)) (not_leb _ (suc n) most refl)

pub rows_form : (b : List ℕ) → rows b ≡ plain_rows b
unfolding rows plain_rows
rows_form b = rw mul_assoc

length_form : (least : ℕ) (bs : List ℕ) → length_in_range least bs ≡ length_good least bs
unfolding length_in_range length_good between
length_form least bs = refl

flat : (b : List ℕ) → all_rows_in_range (rows b) ≡ all_in_range (values (boats b * columns b) (body 12 (2 * (boats b * columns b)) b))
unfolding rows
flat b = rows_flat (boats b) (columns b) _

pub book_form : (b : List ℕ) → book_refusal b ≡ plain_book_refusal b
unfolding book_refusal plain_book_refusal body_refusal
book_form b = rw (length_form, ← rows_form, outside, outside, mul_assoc, flat)

exactly : (c n : ℕ) → between c c n ≡ eqb n c
unfolding between
exactly c n = by (eqb n c) refl
  where
    by : (t : Bool) → eqb n c ≡ t → leb c n && leb n c ≡ t
    by true e = let q : n ≡ c = eqb-true n c e in simp (le-leb c n (omega arith), le-leb n c (omega arith))
    by false e = apart (leb c n) (leb n c) refl refl (eqb-false n c e)
      where
        apart : (x y : Bool) → leb c n ≡ x → leb n c ≡ y → (n ≡ c → ⊥) → x && y ≡ false
        apart true true p q h = absurd (h (omega (arith, leb-true c n p, leb-true n c q)))
        apart true false p q h = refl
        apart false y p q h = refl

back_form : (t : Bool) (s : List ℕ) → sheet_lettered WSH2 s ≡ t → sheet_back s ≡ cond t (3 * sheet_columns s) (2 * sheet_columns s)
unfolding factor_bytes
back_form true s e = rw e (omega arith)
back_form false s e = rw e (omega arith)

-- the tests of the body one after the other
body_then : (g h : Bool) (x : ℕ) →
    (let n = cond (not g) 16 (cond h 0 17) in cond (not (eqb n 0)) n x) ≡ cond (not g) 16 (cond (not h) 17 x)
body_then true true x = refl
body_then true false x = refl
body_then false h x = refl

inside : (most n x y : ℕ) → cond (between 1 most n) x y ≡ cond (eqb n 0 || ltb most n) y x
inside most n x y = rw (← outside most n) (by (between 1 most n))
  where
    by : (t : Bool) → cond t x y ≡ cond (not t) y x
    by true = refl
    by false = refl

-- the columns count in the body only where they are the book's
sheet_by : (t : Bool) (c : ℕ) (s : List ℕ) → eqb (number 4 2 (trailer 16 s)) c ≡ t → sheet_refusal c s ≡ plain_sheet_refusal c s
unfolding sheet_refusal_in plain_sheet_refusal sheet sheet_columns sheet_lettered body_refusal
sheet_by true c s e = rw (length_form, exactly c, outside, body_then, inside 64, ← eqb-true _ c e, back_form (same (drop 12 (trailer 16 s)) WSH2) s refl)
sheet_by false c s e = simp (length_form, exactly c, e)

pub sheet_form : (c : ℕ) (s : List ℕ) → sheet_refusal c s ≡ plain_sheet_refusal c s
sheet_form c s = sheet_by (eqb (number 4 2 (trailer 16 s)) c) c s refl

pub files_form : (b s : List ℕ) → files_refusal b s ≡ cond (eqb (plain_book_refusal b) 0) (plain_sheet_refusal (columns b) s) (plain_book_refusal b)
unfolding files_refusal
files_form b s = rw (book_form, sheet_form)
