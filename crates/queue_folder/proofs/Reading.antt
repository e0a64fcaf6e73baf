-- Sheets read back to back: the loop of `read_sheets`, and the listing of all of them.
use mathlib.Core.Path.{◌≡◌, refl, sym, ap, ◌∙◌}
use mathlib.Core.List.{List, [], ◌∷◌, ◌++◌, map, append_assoc, append-nil}
use Prim.Native.Nat.{ℕ, ◌+◌, ◌*◌, ◌-◌, ◌≤◌, ◌<◌}
use native.Mathlib.Numerals.{add-one}
use native.Mathlib.Omega.{arith}
use borrow.Rule.Slice.PartMut.{mid_of, put_mid, same_len_mid, take_put}
use lib.ListN.{length, take, drop, set, replicate, length-append, length-set, length-drop, length-replicate}
use lib.Seq.{take-suc-set, take-add, take_at, drop_at, length-take-le}
use Rattle.file_io.specs.Counts.{IsPrefixLen}
use Rattle.text.specs.declared.Text.{Text}
use Rattle.text.specs.Texts.{Holds}
use Rattle.sheet_queue.specs.Queue.{sheets_of}
use Rattle.sheet_queue.proofs.Refusals.{accepted_few}
use Rattle.queue_listing.specs.Lines.{listing_accepted, queue_listing, ListedRight}
use Rattle.queue_folder.specs.declared.Sheets.{Sheets}
use Rattle.queue_folder.specs.Folder.{sheet_bytes, joined, ReadBehind, SomeSheets, SomeQueue}

joined_one : (ss : List (List ℕ)) (s : List ℕ) → joined (ss ++ (s ∷ [])) ≡ joined ss ++ s
unfolding joined
joined_one [] s = append-nil s
joined_one (x ∷ ss) s = ap (λ (l : List ℕ). x ++ l) (joined_one ss s) ∙ sym (append_assoc x (joined ss) s)

lengths_one : (ss : List (List ℕ)) (s : List ℕ) → map length (ss ++ (s ∷ [])) ≡ map length ss ++ (length s ∷ [])
lengths_one [] s = refl
lengths_one (x ∷ ss) s = ap (λ (l : List ℕ). length x ∷ l) (lengths_one ss s)

-- lengths tell sheets apart
told_apart : (ss : List (List ℕ)) → sheets_of (map length ss) (joined ss) ≡ ss
unfolding sheets_of joined
told_apart [] = refl
told_apart (s ∷ ss) =
    ap (λ (l : List ℕ). l ∷ sheets_of (map length ss) (drop (length s) (s ++ joined ss))) (take_at s (joined ss) (length s) refl)
    ∙ ap (λ (l : List ℕ). s ∷ sheets_of (map length ss) l) (drop_at s (joined ss) (length s) refl)
    ∙ ap (λ (l : List (List ℕ)). s ∷ l) (told_apart ss)

-- a part of a buffer that a file was read into
pub read_behind : {old : List ℕ} (ys : List ℕ) (at n : ℕ) → at + 40001 ≤ length old → IsPrefixLen n ys → length ys ≡ length (mid_of at (at + 40001 - at) old) →
    ReadBehind at old n (put_mid at (at + 40001 - at) old ys)
read_behind {old} ys at n h p l =
    let k : at + 40001 - at ≡ 40001 = omega arith in
    let m : length (take 40001 (drop at old)) ≡ 40001 = length-take-le 40001 (drop at old) (simp length-drop (omega arith)) in
    let f : length (mid_of at (at + 40001 - at) old) ≡ 40001 = rw k m in
    record {
      most = omega (arith, p.0);
      before = take_put at (at + 40001 - at) old ys (omega arith);
      long = same_len_mid at (at + 40001 - at) old ys l;
    }

-- k sheets are read, `at` bytes
pub record Going (count : ℕ) (lengths buffer : List ℕ) (at k : ℕ) : Type 0 where
  pub sheets : List (List ℕ)
  pub number : length sheets ≡ k
  pub reached : k ≤ count
  pub few : count ≤ 17
  pub room : 680017 ≤ length buffer
  pub short : at ≤ 40001 * k
  pub long : length lengths ≡ 17
  pub lengths_are : take k lengths ≡ map length sheets
  pub bytes_are : take at buffer ≡ joined sheets

module _ {count : ℕ} where
  pub going_start : {lengths buffer : List ℕ} → count ≤ 17 → 680017 ≤ length buffer → length lengths ≡ 17 → Going count lengths buffer 0 0
  unfolding joined
  going_start h r l =
      record { sheets = []; number = refl; reached = omega arith; few = h; room = r; short = omega arith; long = l; lengths_are = refl; bytes_are = refl }

  module _ {lengths old new : List ℕ} {at k n : ℕ} (g : Going count lengths old at k) (below : k < count) (p : ReadBehind at old n new) where
    pub within : at + n ≤ length new
    within = omega (arith, g.short, g.few, g.room, p.most, p.long)

    -- what was read
    sheet : List ℕ
    sheet = take n (drop at new)

    parted : take (at + n) new ≡ take at old ++ sheet
    unfolding sheet
    parted = take-add at n new ∙ ap (λ (l : List ℕ). l ++ take n (drop at new)) p.before

    front : length (take at old) ≡ at
    front = length-take-le at old (omega (arith, g.short, g.few, g.room))

    sheet_length : length sheet ≡ n
    sheet_length =
        let a : length (take (at + n) new) ≡ at + n = length-take-le (at + n) new within in
        let b : length (take at old ++ sheet) ≡ length (take at old) + length sheet = length-append (take at old) sheet in
        let c : length (take (at + n) new) ≡ length (take at old ++ sheet) = ap length parted in
        omega (arith, front)

    pub going_more : Going count (set lengths k n) new (at + n) (k + 1)
    going_more =
        record {
          sheets = g.sheets ++ (sheet ∷ []);
          number = length-append g.sheets (sheet ∷ []) ∙ omega (arith, g.number);
          reached = omega arith;
          few = g.few;
          room = omega (arith, g.room, p.long);
          short = omega (arith, g.short, p.most);
          long = length-set lengths k n ∙ g.long;
          lengths_are = rw add-one (take-suc-set lengths k n (omega (arith, g.long, g.few)) ∙ ap (λ (l : List ℕ). l ++ (n ∷ [])) g.lengths_are ∙ ap (λ (m : ℕ). map length g.sheets ++ (m ∷ [])) (sym sheet_length) ∙ sym (lengths_one g.sheets sheet));
          bytes_are = parted ∙ ap (λ (l : List ℕ). l ++ sheet) g.bytes_are ∙ sym (joined_one g.sheets sheet);
        }

  pub going_end : {lengths buffer : List ℕ} {at k : ℕ} → Going count lengths buffer at k → count ≤ k → SomeSheets count (record { len = at; lengths = lengths }) buffer
  going_end {lengths} {buffer} {at} {k} g h =
      let e : k ≡ count = omega (arith, g.reached) in
      record {
        sheets = g.sheets;
        number = g.number ∙ e;
        fits = omega (arith, g.short, g.reached, g.few, g.room);
        long = g.long;
        lengths_are = rw e at g.lengths_are;
        bytes_are = g.bytes_are;
      }

-- ---- The listing of all of them

pub all_room : (n : ℕ) → n ≤ length (replicate {A = ℕ} n 0)
all_room n = omega (arith, length-replicate {A = ℕ} n 0)

-- no more sheets are accepted than were read
pub accepted_within : {n count : ℕ} (b ls bs : List ℕ) (a : ℕ) → n ≡ listing_accepted b (take count ls) bs a → count ≤ 17 → length ls ≡ 17 → n ≤ 17
accepted_within {n} {count} b ls bs a e h l = omega (arith, e, accepted_few (length (take count ls)) b (take count ls) bs a, length-take-le count ls (omega arith))

pub some_queue : {b buffer bs : List ℕ} {count a : ℕ} {r : Sheets} {t : Text} (s : SomeSheets count r buffer) → bs ≡ take r.len buffer →
    Holds (queue_listing b (take count r.lengths) bs a) t → ListedRight b (take count r.lengths) bs a → SomeQueue b count a t
some_queue s e h p =
    let all = e ∙ s.bytes_are in
    record {
      sheets = s.sheets;
      number = s.number;
      apart = told_apart s.sheets;
      text = rw (s.lengths_are, all) at h;
      right = rw (s.lengths_are, all) at p;
    }
