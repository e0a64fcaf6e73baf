-- The tests of `lean_start`, one after the other.
use mathlib.Core.Path.{◌≡◌, sym}
use mathlib.Core.List.{List}
use Prim.Native.Nat.{ℕ, ◌≤◌, ◌<◌}
use borrow.Author.Tests.{eq-eqb, ne_eqb, le-leb, lt-leb}
use Rattle.files.specs.Bytes.{between}
use Rattle.files.specs.Book.{book_refusal}
use Rattle.leaning.specs.Report.{most_cards, start_refusal}
use Rattle.leaning.specs.Slots.{Starts}
use Rattle.leaning.proofs.Checking.{starts}

-- what the contract says of the number that is given back
abbrev Given : (b : List ℕ) → (n r : ℕ) → Type 0
Given b n r = (r ≡ start_refusal b n) × Starts b n r

module _ {b : List ℕ} {n x : ℕ} (e : x ≡ book_refusal b) where
  given : {r : ℕ} → start_refusal b n ≡ r → Given b n r
  given f = (sym f, rw (← f) (starts b n))

  pub by_book : (x ≡ 0 → ⊥) → {r : ℕ} → r ≡ x → Given b n r
  by_book h q = rw q (given (unfold start_refusal in rw (← e, ne_eqb x 0 h)))

  pub by_few : x ≡ 0 → n < 1 → Given b n 58
  by_few z h = given (unfold start_refusal between in rw (← e, eq-eqb x 0 z, lt-leb 1 n h))

  pub by_many : x ≡ 0 → 1 ≤ n → 64 < n → Given b n 58
  by_many z l h = given (unfold start_refusal between in rw (← e, eq-eqb x 0 z, le-leb 1 n l, lt-leb n most_cards h))

  pub by_none : x ≡ 0 → 1 ≤ n → n ≤ 64 → Given b n 0
  by_none z l h = given (unfold start_refusal between in rw (← e, eq-eqb x 0 z, le-leb 1 n l, le-leb n most_cards h))
