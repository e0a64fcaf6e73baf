-- Front text is never read: what stands before a file that holds its whole body changes nothing.
use mathlib.Core.Path.{◌≡◌, refl, sym, ◌∙◌}
use mathlib.Core.Bool.{Bool, true, false, ◌&&◌}
use mathlib.Core.List.{List, ◌++◌}
use Prim.Native.Nat.{ℕ, ◌+◌, ◌*◌, ◌-◌, ◌≤◌}
use native.Mathlib.Omega.{arith}
use borrow.Author.Tests.{eqb-true, le-leb}
use lib.Dec.{eqb, leb}
use lib.ListN.{length, drop, length-append}
use lib.Seq.{drop-append-add}
use Rattle.files.specs.Bytes.{number, between, length_in_range, trailer, body, reaches, body_refusal}
use Rattle.files.specs.Book.{boats, columns, BookWhole, rows, book_refusal}
use Rattle.files.specs.Sheet.{sheet_columns, WSH1, WSH2, sheet_lettered, factor_bytes, sheet_back, SheetWhole, sheet, sheet_refusal_in, files_refusal}
use Rattle.files.specs.Front.{FrontFits, BookFrontUnread, SheetFrontUnread, same_file, other_front, SameBook, SameSheet, FilesFrontUnread}
use Rattle.files.specs.Limits.{file_limit}

drop_front : (f b : List ℕ) (k m : ℕ) → m ≡ length f + k → drop m (f ++ b) ≡ drop k b
drop_front f b k m e = rw (e, drop-append-add)

-- ---- a file of any kind, with `f` before it
module _ (f b : List ℕ) (size : ℕ) (h : size ≤ length b) where
  length_front : length (f ++ b) - size ≡ length f + (length b - size)
  length_front = rw length-append (omega arith)

  trailer_front : trailer size (f ++ b) ≡ trailer size b
  unfolding trailer
  trailer_front = drop_front f b _ _ length_front

  body_front : (back : ℕ) → back + size ≤ length b → body size back (f ++ b) ≡ body size back b
  unfolding body
  body_front back k = rw (drop_front f b (length b - size - back) (length (f ++ b) - size - back) (omega (arith, length_front)))

  place_front : (t : Bool) (back n : ℕ) → eqb back n ≡ t → n + size ≤ length b → t && leb back (length (f ++ b) - size) ≡ t && leb back (length b - size)
  place_front false back n e k = refl
  place_front true back n e k =
      let q : back ≡ n = eqb-true back n e in
      le-leb back (length (f ++ b) - size) (omega (arith, length_front)) ∙ sym (le-leb back (length b - size) (omega arith))

  body_refusal_front : (back count place range : ℕ) → back + size ≤ length b → body_refusal size back count place range (f ++ b) ≡ body_refusal size back count place range b
  unfolding body_refusal reaches
  body_refusal_front back count place range k = simp (trailer_front, body_front back k, place_front _ (number 0 4 (trailer size b)) back refl k)

  length_in_range_front : FrontFits f b → length_in_range size (f ++ b) ≡ length_in_range size b
  unfolding length_in_range between
  length_in_range_front k = simp (length-append, le-leb size (length f + length b) (omega arith), le-leb (length f + length b) file_limit (omega arith), le-leb size (length b) h, le-leb (length b) file_limit (omega arith))

-- ---- a fleet book
module _ (f b : List ℕ) (w : BookWhole b) where
  book_trailer : trailer 12 (f ++ b) ≡ trailer 12 b
  book_trailer = trailer_front f b 12 (omega arith)

  boats_front : boats (f ++ b) ≡ boats b
  unfolding boats
  boats_front = rw book_trailer

  columns_front : columns (f ++ b) ≡ columns b
  unfolding columns
  columns_front = rw book_trailer

  rows_front : rows (f ++ b) ≡ rows b
  unfolding rows
  rows_front = rw (boats_front, columns_front, body_front f b 12 (omega arith) (2 * (boats b * columns b)) w)

  book_refusal_front : FrontFits f b → book_refusal (f ++ b) ≡ book_refusal b
  unfolding book_refusal
  book_refusal_front k =
      rw (length_in_range_front f b 12 (omega arith) k, book_trailer, boats_front, columns_front, body_refusal_front f b 12 (omega arith) (2 * (boats b * columns b)) (boats b * columns b) 5 6 w)

pub book_front_unread : BookFrontUnread
unfolding BookFrontUnread
book_front_unread f g b w h k = (
  boats_front f b w ∙ sym (boats_front g b w),
  columns_front f b w ∙ sym (columns_front g b w),
  rows_front f b w ∙ sym (rows_front g b w),
  book_refusal_front f b w h ∙ sym (book_refusal_front g b w k),
)

-- ---- a sheet
module _ (f s : List ℕ) (w : SheetWhole s) where
  sheet_trailer : trailer 16 (f ++ s) ≡ trailer 16 s
  sheet_trailer = trailer_front f s 16 (omega arith)

  sheet_columns_front : sheet_columns (f ++ s) ≡ sheet_columns s
  unfolding sheet_columns
  sheet_columns_front = rw sheet_trailer

  lettered_front : (ls : List ℕ) → sheet_lettered ls (f ++ s) ≡ sheet_lettered ls s
  unfolding sheet_lettered
  lettered_front ls = rw sheet_trailer

  factor_bytes_front : factor_bytes (f ++ s) ≡ factor_bytes s
  unfolding factor_bytes
  factor_bytes_front = rw (lettered_front WSH2, sheet_columns_front)

  sheet_front : sheet (f ++ s) ≡ sheet s
  unfolding sheet
  sheet_front = rw (sheet_columns_front, factor_bytes_front, lettered_front WSH2, sheet_trailer, body_front f s 16 (omega arith) (sheet_back s) w)

  sheet_refusal_front : (a z : ℕ) → FrontFits f s → sheet_refusal_in a z (f ++ s) ≡ sheet_refusal_in a z s
  unfolding sheet_refusal_in
  sheet_refusal_front a z k =
      rw (length_in_range_front f s 16 (omega arith) k, lettered_front WSH1, lettered_front WSH2, sheet_columns_front, sheet_front, factor_bytes_front, body_refusal_front f s 16 (omega arith) (sheet_back s) (sheet_columns s) 16 17 w)

pub sheet_front_unread : SheetFrontUnread
unfolding SheetFrontUnread
sheet_front_unread f g s a z w h k =
    (sheet_front f s w ∙ sym (sheet_front g s w), sheet_refusal_front f s w a z h ∙ sym (sheet_refusal_front g s w a z k))

-- ---- both, where they differ in front text alone

-- what a book is read as: boats, columns, rows and its refusal
same_book : (b b' : List ℕ) → SameBook b b' → (boats b' ≡ boats b) × (columns b' ≡ columns b) × (rows b' ≡ rows b) × (book_refusal b' ≡ book_refusal b)
unfolding BookFrontUnread
same_book b b' same_file = (refl, refl, refl, refl)
same_book b b' (other_front f g x w h k) = book_front_unread g f x w k h

same_sheet : (s s' : List ℕ) (a z : ℕ) → SameSheet s s' → (sheet s' ≡ sheet s) × (sheet_refusal_in a z s' ≡ sheet_refusal_in a z s)
unfolding SheetFrontUnread
same_sheet s s' a z same_file = (refl, refl)
same_sheet s s' a z (other_front f g x w h k) = sheet_front_unread g f x a z w k h

pub files_front_unread : FilesFrontUnread
unfolding FilesFrontUnread files_refusal
files_front_unread b s b' s' d e =
    let p = same_book b b' d in
    let q = same_sheet s s' (columns b) (columns b) e in
    record { boats = p.0; columns = p.1; rows = p.2; sheet = q.0; book_refusal = p.3; refusal = rw (p.3, p.1, q.1) }
