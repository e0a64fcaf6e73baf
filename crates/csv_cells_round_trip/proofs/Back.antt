-- Written rows read back.
use mathlib.Core.Path.{◌≡◌, refl, sym, ap, ◌∙◌}
use mathlib.Core.Bool.{Bool, true, false, cond}
use mathlib.Core.List.{List, [], ◌∷◌, ◌++◌, map, append-nil, append_assoc}
use Prim.Native.Nat.{ℕ, zero, suc, ◌+◌, ◌≤◌, ◌<◌}
use native.Mathlib.Omega.{arith}
use borrow.Author.Tests.{eq-eqb, ne_eqb, eqb-true, eqb-false, ltb-true, ltb-false}
use lib.Dec.{ltb, eqb}
use lib.ListN.{length, get_or, get_or-map}
use Rattle.csv_bytes.specs.declared.Mode.TheVariants.{Start}
use Rattle.files.specs.Bytes.{all_bytes}
use Rattle.csv_bytes.specs.Tokens.{tokens, separator_from, separator, mark_size, csv_tokens}
use Rattle.csv_fleet_round_trip.specs.Writing.{quoted, line}
use Rattle.csv_fleet_round_trip.specs.Back.{All, UnitFits, none, more}
use Rattle.csv_fleet_round_trip.proofs.Marks.{first_comma, no_comma, no_mark}
use Rattle.csv_cells.specs.Cells.{Place, place_from, last_place, cell_from, cell_text, line_from, line_of}
use Rattle.csv_cells.proofs.Steps.{row_none, text_ended, moved_good, token_end}
use Rattle.csv_cells_round_trip.specs.Writing.{row_line, rows_csv}
use Rattle.csv_cells_round_trip.specs.Back.{RowFits, RowsReadBack}
use Rattle.csv_cells_round_trip.proofs.Going.{Goes, at, none_put}
use Rattle.csv_cells_round_trip.proofs.Rows.{picked, told_all, rows_go}

-- ---- what is picked is what stands there
past : (t j : ℕ) (xs : List (List ℕ)) → t < j → picked t j xs ≡ []
unfolding picked
past t j [] h = refl
past t j (x ∷ xs) h = rw (ne_eqb j t (λ e. omega arith)) (past t (j + 1) xs (omega arith))

picked_at : (xs : List (List ℕ)) (j d t : ℕ) → t ≡ j + d → picked t j xs ≡ get_or xs d []
unfolding picked
picked_at [] j d t e = refl
picked_at (x ∷ xs) j zero t e = rw (eq-eqb j t (omega arith), past t (j + 1) xs (omega arith)) (append-nil x)
picked_at (x ∷ xs) j (suc d) t e = rw (ne_eqb j t (λ q. omega arith)) (picked_at xs (j + 1) d t (omega arith))

cell_picked : (r f : ℕ) (rows : List (List (List ℕ))) → picked r 0 (map (picked f 0) rows) ≡ get_or (get_or rows r []) f []
unfolding picked
cell_picked r f rows = picked_at (map (picked f 0) rows) 0 r r (omega arith) ∙ get_or-map (picked f 0) rows r [] ∙ picked_at (get_or rows r []) 0 f f (omega arith)

-- ---- the line of a row is told by the row and by none after it
told_past : (r i c k : ℕ) → r < i → told_all r i c k ≡ k
unfolding told_all
told_past r i zero k h = refl
told_past r i (suc c) k h = rw (ne_eqb i r (λ e. omega arith)) (told_past r (i + 1) c k (omega arith))

below : (i r : ℕ) → i ≤ r → (i ≡ r → ⊥) → i + 1 ≤ r
below i r h n = by (ltb i r) refl
  where
    by : (b : Bool) → ltb i r ≡ b → i + 1 ≤ r
    by true e = omega (arith, ltb-true i r e)
    by false e = absurd (n (omega (arith, ltb-false i r e)))

told_at : (r i c k : ℕ) → i ≤ r → r < i + c → told_all r i c k ≡ r + 1
unfolding told_all
told_at r i zero k a b = absurd (omega arith)
told_at r i (suc c) k a b = by (eqb i r) refl (λ h. told_at r (i + 1) c k h (omega arith))
  where
    by : (q : Bool) → eqb i r ≡ q → (i + 1 ≤ r → told_all r (i + 1) c k ≡ r + 1) → told_all r (i + 1) c (cond q (i + 1) k) ≡ r + 1
    by true e g = let x : i ≡ r = eqb-true i r e in told_past r (i + 1) c (i + 1) (omega arith) ∙ omega arith
    by false e g = g (below i r a (eqb-false i r e))

-- ---- the separator is a comma, and there is no byte-order mark
row_comma : (g : List ℕ) (gs : List (List ℕ)) (rest : List ℕ) → 1 ≤ length g → all_bytes g ≡ true → separator (line (quoted g) (map quoted gs) ++ rest) ≡ 44
unfolding separator
row_comma g [] rest some bytes = rw (no_mark g [] rest, no_comma g rest some bytes)
row_comma g (h ∷ hs) rest some bytes = rw (no_mark g (map quoted (h ∷ hs)) rest, first_comma g rest some bytes (h ∷ hs) (omega arith))

no_rows : separator [] ≡ 44
unfolding separator separator_from
no_rows = refl

head_bytes : {g : List ℕ} {gs : List (List ℕ)} → All UnitFits (g ∷ gs) → all_bytes g ≡ true
head_bytes (more x xs) = x.bytes

comma : (rows : List (List (List ℕ))) → All RowFits rows → separator (rows_csv rows) ≡ 44
unfolding rows_csv row_line
comma [] none = no_rows
comma ([] ∷ rows) (more a bs) = absurd (omega (arith, a.some_fields))
comma ((g ∷ gs) ∷ rows) (more a bs) = row_comma g gs (rows_csv rows) a.first_filled (head_bytes a.fields_fit)

unmarked : (rows : List (List (List ℕ))) → All RowFits rows → mark_size (rows_csv rows) ≡ 0
unfolding rows_csv row_line
unmarked [] none = refl
unmarked ([] ∷ rows) (more a bs) = absurd (omega (arith, a.some_fields))
unmarked ((g ∷ gs) ∷ rows) (more a bs) = no_mark g (map quoted gs) (rows_csv rows)

-- ---- the whole text, then its end
module _ (rows : List (List (List ℕ))) (fit : All RowFits rows) where
  all_tokens : csv_tokens (rows_csv rows) ≡ tokens 44 Start (rows_csv rows ++ [])
  unfolding csv_tokens
  all_tokens = rw (comma rows fit, unmarked rows fit, append-nil (rows_csv rows))

  last : Place
  last = at (length rows + 1) (length rows) 0 0

  whole : (r f : ℕ) → Goes r f Start (at 1 0 0 0) 0 (rows_csv rows) Start last (picked r 0 (map (picked f 0) rows)) (told_all r 0 (length rows))
  unfolding last
  whole r f = let e : 0 + length rows ≡ length rows = omega arith in rw e at (rows_go r f rows fit 0 0 (λ h. refl))

  place_is : last_place (rows_csv rows) ≡ last
  unfolding last_place tokens place_from last
  place_is =
      let p = at (length rows + 1) (length rows) 0 0 in
      rw all_tokens ((whole 0 0).places [] ∙ sym (moved_good p 258 refl (token_end p 258 refl (text_ended p (row_none p refl refl)))))

  cell_is : (r f : ℕ) → cell_text r f (rows_csv rows) ≡ get_or (get_or rows r []) f []
  unfolding cell_text tokens cell_from
  cell_is r f =
      let xs = picked r 0 (map (picked f 0) rows) in
      rw all_tokens ((whole r f).bytes [] ∙ ap (λ ys. xs ++ (ys ++ [])) (sym (none_put r f (0 + length xs) last 258 (omega arith))) ∙ append-nil xs ∙ cell_picked r f rows)

  line_is : (r : ℕ) → r < length rows → line_of r (rows_csv rows) ≡ r + 1
  unfolding line_of tokens line_from last
  line_is r h =
      rw all_tokens ((whole r 0).lines 0 [] ∙ rw (ne_eqb (length rows) r (λ e. omega arith)) (told_at r 0 (length rows) 0 (omega arith) (omega arith)))

pub rows_read_back : RowsReadBack
unfolding RowsReadBack last
rows_read_back rows fit =
    let p = place_is rows fit in
    record { faultless = rw p; rows_back = rw p; cells_back = cell_is rows fit; lines_back = line_is rows fit }
