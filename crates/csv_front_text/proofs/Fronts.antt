-- Which front text there is room for, and each of them put.
use mathlib.Core.Path.{◌≡◌, refl, sym, ap}
use mathlib.Core.Bool.{Bool, true, false, cond}
use mathlib.Core.List.{List, ◌++◌}
use Prim.Native.Nat.{ℕ, ◌+◌, ◌-◌, ◌≤◌, ◌<◌}
use native.Mathlib.Omega.{arith}
use borrow.Author.Tests.{le-leb, lt-leb, leb-true}
use lib.Dec.{leb}
use lib.ListN.{length, take, length-append}
use lib.Seq.{take_all}
use Rattle.buffers.specs.Placed.{placed}
use Rattle.buffers.proofs.Placing.{placed_nil, placed_next, placed_length}
use Rattle.csv_front_text.specs.declared.Front.{Front}
use Rattle.csv_front_text.specs.declared.Front.TheVariants.{Whole, Names, Nothing}
use Rattle.csv_front_text.specs.declared.Written.{Written}
use Rattle.csv_front_text.specs.Front.{names_text, front_of, front_text, file_front, with_front, written_of}
use Rattle.files.specs.Limits.{file_limit}

module _ (csv : List ℕ) (room : ℕ) where
  pub front_whole : length csv ≤ room → Whole ≡ front_of room csv
  unfolding front_of
  front_whole h = rw (le-leb (length csv) room h)

  module _ (h : room < length csv) {n : ℕ} (en : n ≡ length (names_text csv)) where
    pub front_names : n ≤ room → Names ≡ front_of room csv
    unfolding front_of
    front_names k = rw (lt-leb (length csv) room h, ← en, le-leb n room k)

    pub front_nothing : room < n → Nothing ≡ front_of room csv
    unfolding front_of
    front_nothing k = rw (lt-leb (length csv) room h, ← en, lt-leb n room k)

module _ {f : Front} (csv out : List ℕ) where
  module _ (e : f ≡ Whole) where
    text_whole : front_text f csv ≡ csv
    unfolding front_text
    text_whole = rw e

    pub whole_room : length (front_text f csv) ≤ length out → 0 + length csv ≤ length out
    whole_room h = omega (arith, rw text_whole at h)

    pub whole_put : {new : List ℕ} → new ≡ placed out 0 csv → (length csv ≡ length (front_text f csv)) × (new ≡ placed out 0 (front_text f csv))
    whole_put h = rw text_whole (refl, h)

  module _ (e : f ≡ Names) where
    text_names : front_text f csv ≡ names_text csv
    unfolding front_text
    text_names = rw e

    pub names_put : length (front_text f csv) ≤ length out → {n : ℕ} {new : List ℕ} → n ≡ length (names_text csv) → new ≡ placed out 0 (take (length out) (names_text csv)) →
        (n ≡ length (front_text f csv)) × (new ≡ placed out 0 (front_text f csv))
    names_put l k h = rw text_names (k, rw (take_all (length out) (names_text csv) (rw text_names at l)) at h)

  pub nothing_put : f ≡ Nothing → (0 ≡ length (front_text f csv)) × (out ≡ placed out 0 (front_text f csv))
  unfolding front_text
  nothing_put e = rw e (refl, sym (placed_nil out 0))

-- ---- with a file
pub front_short : (room : ℕ) (csv : List ℕ) → length (front_text (front_of room csv) csv) ≤ room
unfolding front_of front_text
front_short room csv = by (leb (length csv) room) (leb (length (names_text csv)) room) refl refl
  where
    by : (a b : Bool) → leb (length csv) room ≡ a → leb (length (names_text csv)) room ≡ b → length (front_text (cond a Whole (cond b Names Nothing)) csv) ≤ room
    by true b p q = leb-true (length csv) room p
    by false true p q = leb-true (length (names_text csv)) room q
    by false false p q = omega arith

pub file_front_short : (csv file : List ℕ) → length (front_text (file_front csv file) csv) ≤ file_limit - length file
unfolding file_front
file_front_short csv file = front_short (file_limit - length file) csv

module _ (csv file out : List ℕ) (k : length file ≤ file_limit) (l : file_limit ≤ length out) {f : Front} (ef : f ≡ front_of (file_limit - length file) csv) where
  is_front : f ≡ file_front csv file
  unfolding file_front
  is_front = ef

  pub front_room : length (front_text f csv) ≤ length out
  front_room = rw is_front (omega (arith, file_front_short csv file))

  module _ {at : ℕ} (ea : at ≡ length (front_text f csv)) {o₁ : List ℕ} (e₁ : o₁ ≡ placed out 0 (front_text f csv)) where
    pub file_small : at + length file ≤ file_limit
    file_small =
        let h : length (front_text f csv) ≤ file_limit - length file = rw is_front (file_front_short csv file) in
        omega arith

    pub file_room : at + length file ≤ length o₁
    file_room =
        let h : length (front_text f csv) ≤ file_limit - length file = rw is_front (file_front_short csv file) in
        omega (arith, ap length e₁, placed_length out 0 (front_text f csv) (omega arith))

    pub file_put : {o₂ : List ℕ} → o₂ ≡ placed o₁ at file → (◌≡◌ {A = Written} (record { front = f; len = at + length file }) (written_of csv file)) × (o₂ ≡ placed out 0 (with_front csv file))
    unfolding written_of with_front
    file_put {o₂} e₂ =
        let h : length (front_text f csv) ≤ file_limit - length file = rw is_front (file_front_short csv file) in
        let p : o₂ ≡ placed out 0 (front_text f csv ++ file) = placed_next out 0 (front_text f csv) file at e₁ e₂ (omega arith) (omega arith) in
        let q : at + length file ≡ length (front_text f csv ++ file) = omega (arith, length-append (front_text f csv) file) in
        (rw (q, is_front), rw (← is_front) p)
