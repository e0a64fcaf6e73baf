-- A list in parts of 256, one a sheet: what is put into one part leaves the others, and the parts make the whole.
use mathlib.Core.Path.{◌≡◌, refl, sym, ap, ap₂, ◌∙◌}
use mathlib.Core.Bool.{Bool, true, false}
use mathlib.Core.Logic.{◌⊎◌, inl, inr, ⊎_elim}
use mathlib.Core.List.{List, [], ◌∷◌, ◌++◌, append_assoc}
use Prim.Native.Nat.{ℕ, zero, suc, ◌+◌, ◌*◌, ◌-◌, ◌≤◌, ◌<◌}
use native.Mathlib.Omega.{arith}
use lib.ListN.{length, get_or, take, drop, length-append, length-take, length-drop, take-append-drop, get_or-append}
use lib.Seq.{length-take-le, take_at, drop_at, take-append-le, drop-append-le, drop-append-add, drop-drop, take-take, get_or-drop, get_or-take, length_front, take-nil, drop-nil}
use Rattle.method.specs.Answers.{slots_after}
use Rattle.sheet_queue.specs.Queue.{filled}
use Rattle.sheet_queue.specs.Promise.{part}
use Rattle.sheet_queue.proofs.Rounds.{below_or_not}

-- the slots of sheet i, of any numbers
abbrev pub part_of : {A : Type 0} → (i : ℕ) → List A → List A
part_of i l = take 256 (drop (256 * i) l)

-- a list with xs from a part's first slot on
abbrev pub put_at : {A : Type 0} → (i : ℕ) → (xs old : List A) → List A
put_at i xs old = take (256 * i) old ++ (xs ++ drop (length xs) (drop (256 * i) old))

module _ {A : Type 0} (i : ℕ) (xs old : List A) (few : length xs ≤ 256) (room : 256 * i + 256 ≤ length old) where
  front : length (take (256 * i) old) ≡ 256 * i
  front = length-take-le (256 * i) old (omega arith)

  pub put_length : length (put_at i xs old) ≡ length old
  put_length = simp (length-append, length-drop, front) (omega arith)

  pub put_same : part_of i (put_at i xs old) ≡ xs ++ drop (length xs) (part_of i old)
  put_same =
      let rest = drop (256 * i) old in
      let e : drop (256 * i) (put_at i xs old) ≡ xs ++ drop (length xs) rest = drop_at (take (256 * i) old) (xs ++ drop (length xs) rest) (256 * i) front in
      let l : 256 ≤ length rest = simp length-drop (omega arith) in
      rw e (cut xs rest few l)
    where
      cut : (xs rest : List A) → length xs ≤ 256 → 256 ≤ length rest → take 256 (xs ++ drop (length xs) rest) ≡ xs ++ drop (length xs) (take 256 rest)
      cut xs rest f l = go xs 256 rest f
        where
          go : (xs : List A) (n : ℕ) (rest : List A) → length xs ≤ n → take n (xs ++ drop (length xs) rest) ≡ xs ++ drop (length xs) (take n rest)
          go [] n rest f = refl
          go (x ∷ xs) zero rest f = absurd (omega arith)
          go (x ∷ xs) (suc n) [] f = ap (λ (l : List A). x ∷ l) (ap (λ (l : List A). take n (xs ++ l)) (sym (drop-nil (length xs))) ∙ go xs n [] (omega arith) ∙ ap (λ (l : List A). xs ++ l) (ap (drop (length xs)) (take-nil n) ∙ drop-nil (length xs)))
          go (x ∷ xs) (suc n) (y ∷ rest) f = ap (λ (l : List A). x ∷ l) (go xs n rest (omega arith))

  -- behind the part nothing changes
  behind : (m : ℕ) → 256 * i + 256 ≤ m → drop m (put_at i xs old) ≡ drop m old
  behind m h =
      let p = take (256 * i) old ++ xs in
      let n : length p ≡ 256 * i + length xs = simp (length-append, front) in
      let k = m - (256 * i + length xs) in
      let e : m ≡ length p + k = omega arith in
      let back : 256 * i + length xs + k ≡ m = omega arith in
      rw (← append_assoc, drop-drop (length xs) (256 * i) old) (ap (λ (z : ℕ). drop z (p ++ drop (256 * i + length xs) old)) e ∙ drop-append-add p (drop (256 * i + length xs) old) k
      ∙ drop-drop k (256 * i + length xs) old ∙ ap (λ (z : ℕ). drop z old) back)

  pub put_other : (j : ℕ) → (j ≡ i → ⊥) → part_of j (put_at i xs old) ≡ part_of j old
  put_other j d = ⊎_elim before later (below_or_not j i)
    where
      before : j < i → part_of j (put_at i xs old) ≡ part_of j old
      before h =
          let l : 256 * j ≤ length (take (256 * i) old) = omega (arith, front) in
          let m : 256 ≤ length (drop (256 * j) (take (256 * i) old)) = simp (length-drop, front) (omega arith) in
          let one : (z : List A) → part_of j (take (256 * i) old ++ z) ≡ part_of j (take (256 * i) old) = λ z. rw (drop-append-le (256 * j) (take (256 * i) old) z l) (take-append-le 256 (drop (256 * j) (take (256 * i) old)) z m) in
          one (xs ++ drop (length xs) (drop (256 * i) old)) ∙ sym (one (drop (256 * i) old)) ∙ ap (part_of j) (take-append-drop (256 * i) old)

      later : i ≤ j → part_of j (put_at i xs old) ≡ part_of j old
      later h = ap (take 256) (behind (256 * j) (omega (arith, d)))

  -- nor behind the last part
  pub put_rest : (n : ℕ) → i < n → drop (256 * n) (put_at i xs old) ≡ drop (256 * n) old
  put_rest n h = behind (256 * n) (omega arith)

-- ---- The list of all parts

next_part : {A : Type 0} (l : List A) (i : ℕ) → part_of (suc i) l ≡ part_of i (drop 256 l)
next_part l i = let e : 256 * suc i ≡ 256 + 256 * i = omega arith in ap (take 256) (ap (λ (m : ℕ). drop m l) e ∙ sym (drop-drop (256 * i) 256 l))

-- every list of shares has room in its part
pub record Roomy (qss : List (List ℕ)) (slots : List ℕ) : Type 0 where
  pub few : (i : ℕ) → i < length qss → length (get_or qss i []) ≤ 256
  pub room : 256 * length qss ≤ length slots

roomy_rest : {qs : List ℕ} {qss : List (List ℕ)} {slots : List ℕ} → Roomy (qs ∷ qss) slots → Roomy qss (drop 256 slots)
roomy_rest {slots = slots} r = record { few = λ i h. r.few (suc i) (omega arith); room = simp length-drop (omega (arith, r.room)) }

first_length : (qs : List ℕ) (qss : List (List ℕ)) (slots : List ℕ) → Roomy (qs ∷ qss) slots → length (slots_after 0 qs (take 256 slots)) ≡ 256
unfolding slots_after
first_length qs qss slots r = let l = length-take-le 256 slots (omega (arith, r.room)) in simp (length-append, length-drop, l) (omega (arith, r.few 0 (omega arith)))

pub filled_length : (qss : List (List ℕ)) (slots : List ℕ) → Roomy qss slots → length (filled qss slots) ≡ length slots
unfolding filled
filled_length [] slots r = refl
filled_length (qs ∷ qss) slots r =
    simp (length-append, first_length qs qss slots r, filled_length qss (drop 256 slots) (roomy_rest r), length-drop) (omega (arith, r.room))

pub filled_part : (qss : List (List ℕ)) (slots : List ℕ) → Roomy qss slots → (i : ℕ) → i < length qss → part i (filled qss slots) ≡ slots_after 0 (get_or qss i []) (part i slots)
unfolding filled
filled_part [] slots r i h = absurd (omega arith)
filled_part (qs ∷ qss) slots r zero h = take_at (slots_after 0 qs (take 256 slots)) (filled qss (drop 256 slots)) 256 (first_length qs qss slots r)
filled_part (qs ∷ qss) slots r (suc i) h =
    next_part (slots_after 0 qs (take 256 slots) ++ filled qss (drop 256 slots)) i
    ∙ ap (part i) (drop_at (slots_after 0 qs (take 256 slots)) (filled qss (drop 256 slots)) 256 (first_length qs qss slots r))
    ∙ filled_part qss (drop 256 slots) (roomy_rest r) i (omega arith)
    ∙ ap (slots_after 0 (get_or qss i [])) (sym (next_part slots i))

pub filled_rest : (qss : List (List ℕ)) (slots : List ℕ) → Roomy qss slots → drop (256 * length qss) (filled qss slots) ≡ drop (256 * length qss) slots
unfolding filled
filled_rest [] slots r = refl
filled_rest (qs ∷ qss) slots r =
    let n : 256 * suc (length qss) ≡ 256 + 256 * length qss = omega arith in
    rw n (sym (drop-drop (256 * length qss) 256 (slots_after 0 qs (take 256 slots) ++ filled qss (drop 256 slots)))
    ∙ ap (drop (256 * length qss)) (drop_at (slots_after 0 qs (take 256 slots)) (filled qss (drop 256 slots)) 256 (first_length qs qss slots r))
    ∙ filled_rest qss (drop 256 slots) (roomy_rest r)
    ∙ drop-drop (256 * length qss) 256 slots)

-- parts that are filled make the filled list
pub filled_by : (qss : List (List ℕ)) (slots new : List ℕ) → ((i : ℕ) → i < length qss → part i new ≡ slots_after 0 (get_or qss i []) (part i slots)) →
    drop (256 * length qss) new ≡ drop (256 * length qss) slots → new ≡ filled qss slots
unfolding filled
filled_by [] slots new each rest = rest
filled_by (qs ∷ qss) slots new each rest =
    sym (take-append-drop 256 new)
    ∙ ap₂ (λ (x y : List ℕ). x ++ y) (each 0 (omega arith))
    (filled_by qss (drop 256 slots) (drop 256 new)
    (λ i h. sym (next_part new i) ∙ each (suc i) (omega arith) ∙ ap (slots_after 0 (get_or qss i [])) (next_part slots i))
    (drop-drop (256 * length qss) 256 new ∙ ap (λ (m : ℕ). drop m new) n ∙ rest ∙ ap (λ (m : ℕ). drop m slots) (sym n) ∙ sym (drop-drop (256 * length qss) 256 slots)))
  where
    n : 256 + 256 * length qss ≡ 256 * suc (length qss)
    n = omega arith
