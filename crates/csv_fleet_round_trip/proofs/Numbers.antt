-- Each value in range, written as figures, reads back.
use mathlib.Core.Path.{◌≡◌, refl, sym, ap, ◌∙◌}
use mathlib.Core.Bool.{true, false}
use mathlib.Core.List.{List, [], ◌∷◌, append-nil}
use Prim.Native.Nat.{ℕ, suc, ◌≤◌}
use native.Mathlib.Omega.{arith}
use borrow.Author.Tests.{leb-true, ltb-true, ne_eqb, lt-ltb, le-ltb}
use lib.IntN.{ℤ, pos, negsuc}
use lib.ListN.{length}
use Rattle.files.specs.Bytes.{in_range}
use Rattle.text.specs.Decimal.{decimal}
use Rattle.text.proofs.Decimals.{figures_at_most}
use Rattle.csv_bytes.specs.declared.Cell.{Cell}
use Rattle.csv_bytes.specs.Cells.{MOST, no_bytes, is_number, read_from, read, signed}
use Rattle.csv_numbers.specs.Numbers.{unsigned, minus, Says, ReadAs, NumbersRead}
use Rattle.csv_numbers.proofs.Figures.{Figures, none, one_more, figures_decimal}
use Rattle.csv_numbers.proofs.Reading.{decimal_some, numbers_read}
use Rattle.csv_fleet_tokens.specs.Table.{number_fault}
use Rattle.csv_fleet_round_trip.specs.Writing.{figures}
use Rattle.csv_fleet_round_trip.proofs.Going.{plain, all_plain}

abbrev pub cell_of : ℤ → Cell
cell_of v = read_from no_bytes (figures v)

plain_figure : (d : ℕ) → 48 ≤ d → d ≤ 57 → plain d ≡ true
unfolding plain
plain_figure d h k =
    rw (ne_eqb d 34 (λ e. omega arith), ne_eqb d 44 (λ e. omega arith), ne_eqb d 10 (λ e. omega arith), ne_eqb d 13 (λ e. omega arith), lt-ltb d 256 (omega arith))

plain_figures : {ds : List ℕ} → Figures ds → all_plain ds ≡ true
unfolding all_plain
plain_figures none = refl
plain_figures (one_more {d} {ds} h k f) = rw (plain_figure d h k) (plain_figures f)

pub record Number (v : ℤ) : Type 0 where
  pub plain_figures : all_plain (figures v) ≡ true
  pub some : 1 ≤ length (figures v)
  pub most : length (figures v) ≤ 200
  pub no_fault : number_fault (cell_of v) ≡ 0
  pub back : signed (cell_of v).negative (cell_of v).magnitude ≡ v

says_pos : (n : ℕ) → Says false n (decimal n)
says_pos n = record { before = 0; sign = []; zeros = 0; after = 0; sign_is = unsigned; text_is = sym (append-nil (decimal n)) }

says_neg : (n : ℕ) → Says true n (45 ∷ decimal n)
says_neg n = record { before = 0; sign = 45 ∷ []; zeros = 0; after = 0; sign_is = minus; text_is = ap (λ (l : List ℕ). 45 ∷ l) (sym (append-nil (decimal n))) }

short : (n : ℕ) → n ≤ 2000 → length (decimal n) ≤ 4
short n h = figures_at_most 3 n (omega arith)

faultless : (c : Cell) (n : ℕ) → is_number c ≡ true → c.magnitude ≡ n → n ≤ 2000 → number_fault c ≡ 0
unfolding number_fault
faultless c n w e h = rw (w, e, le-ltb 2000 n h)

module _ (n : ℕ) (h : n ≤ 2000) where
  read_pos : ReadAs false n (decimal n)
  unfolding NumbersRead
  read_pos = rw (le-ltb MOST n (omega arith)) at (numbers_read false n (decimal n) (says_pos n))

  read_neg : ReadAs true n (45 ∷ decimal n)
  unfolding NumbersRead
  read_neg = rw (le-ltb MOST n (omega arith)) at (numbers_read true n (45 ∷ decimal n) (says_neg n))

pub number : (v : ℤ) → in_range v ≡ true → Number v
unfolding in_range figures all_plain read plain
number (pos n) i =
    let h : n ≤ 2000 = leb-true n 2000 i in
    let r = read_pos n h in
    record {
      plain_figures = plain_figures (figures_decimal n);
      some = decimal_some n;
      most = omega (arith, short n h);
      no_fault = faultless _ n r.whole r.magnitude_read h;
      back = rw (r.sign_read, r.magnitude_read) refl;
    }
number (negsuc n) i =
    let h : suc n ≤ 2000 = omega (arith, ltb-true n 2000 i) in
    let r = read_neg (suc n) h in
    record {
      plain_figures = plain_figures (figures_decimal (suc n));
      some = omega arith;
      most = omega (arith, short (suc n) h);
      no_fault = faultless _ (suc n) r.whole r.magnitude_read h;
      back = rw (r.sign_read, r.magnitude_read) refl;
    }
