-- Which of a book's boats a call may use: all, or those of a set that is handed in. What refuses a set, what is listed for the released boats
-- alone, and their shares by the numbers of the book. Definitions only. Assumes nothing.
use Rattle.std.specs.Prelude.{◌≡◌, Bool, true, false, ◌&&◌, cond, List, [], ◌∷◌, ℕ, zero, suc, ◌-◌, ◌/◌, ◌%◌, ◌^◌, eqb, ltb, length, get_or, drop}
use Rattle.method.specs.declared.Released.{Released}

-- ---- The boats that may be used

pub data Usable : Type 0 where
  -- every boat of the book
  every : Usable
  -- those that a set of 32 bytes names
  only : (set : List ℕ) → Usable

-- a set counts only where the call is said to be limited to it
abbrev pub usable_by : (limited : Bool) → (set : List ℕ) → Usable
usable_by true set = only set
usable_by false set = every

abbrev pub usable : Released → Usable
usable r = usable_by r.limited r.boats

-- whether boat i may be: of a set, bit i % 8 of byte i / 8, bit 0 the lowest
unfoldable pub may_use : Usable → (boat : ℕ) → Bool
may_use every i = true
may_use (only set) i = eqb (get_or set (i / 8) 0 / 2 ^ (i % 8) % 2) 1

-- those of `count` boats from boat i on, ascending
unfoldable pub used_from : Usable → (i count : ℕ) → List ℕ
used_from u i zero = []
used_from u i (suc n) = cond (may_use u i) (i ∷ used_from u (suc i) n) (used_from u (suc i) n)

-- 52: a set that is empty, or names a boat that a book of n boats does not have. It names one of the n, and none from n to 255, or is refused
unfoldable pub set_refusal : (boats : ℕ) → Usable → ℕ
set_refusal n every = 0
set_refusal n (only set) = cond (ltb 0 (length (used_from (only set) 0 n)) && eqb (length (used_from (only set) n (256 - n))) 0) 0 52

-- ---- What is listed for each boat of a book, of the boats that may be used alone

-- from boat i on
unfoldable pub kept : {A : Type 0} → Usable → (i : ℕ) → List A → List A
kept u i [] = []
kept u i (x ∷ xs) = cond (may_use u i) (x ∷ kept u (suc i) xs) (kept u (suc i) xs)

abbrev pub gather : {A : Type 0} → Usable → List A → List A
gather every xs = xs
gather (only set) xs = kept (only set) 0 xs

-- ---- And back: a slot for each boat of a book

-- of `count` boats from boat i on: the next share where the boat may be used, else 0
unfoldable pub scatter_from : Usable → (i count : ℕ) → (shares : List ℕ) → List ℕ
scatter_from u i zero qs = []
scatter_from u i (suc n) qs = cond (may_use u i) (get_or qs 0 0) 0 ∷ scatter_from u (suc i) n (cond (may_use u i) (drop 1 qs) qs)

abbrev pub scatter : Usable → (boats : ℕ) → (shares : List ℕ) → List ℕ
scatter every n qs = qs
scatter (only set) n qs = scatter_from (only set) 0 n qs

-- shares, one a boat, that rest on boats that may be used: no other boat holds any
abbrev pub RestsOn : Usable → (shares : List ℕ) → Type 0
RestsOn u zs = (i : ℕ) → may_use u i ≡ false → get_or zs i 0 ≡ 0
