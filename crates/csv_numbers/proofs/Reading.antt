-- Spaces, a sign, figures and spaces are read as a number.
use mathlib.Core.Path.{◌≡◌, refl, sym, ap, subst, ◌∙◌}
use mathlib.Core.Bool.{Bool, true, false}
use mathlib.Core.List.{List, [], ◌∷◌, ◌++◌, append_assoc}
use Prim.Native.Nat.{ℕ, zero, suc, ◌+◌, ◌≤◌, ◌<◌}
use native.Mathlib.Omega.{arith}
use borrow.Author.Tests.{ne_eqb, le-ltb}
use lib.Dec.{eqb}
use lib.ListN.{length, replicate, length-append, length-replicate}
use Rattle.text.specs.Decimal.{leading, decimal, read_after}
use Rattle.csv_bytes.specs.declared.Cell.{Cell}
use Rattle.csv_bytes.specs.declared.Class.TheVariants.{Figure}
use Rattle.csv_bytes.specs.declared.Shape.{Shape}
use Rattle.csv_bytes.specs.declared.Shape.TheVariants.{Blank, Signed, Figures, Ended}
use Rattle.csv_bytes.specs.Cells.{class_of, after_figure, more, is_negative, with_byte, is_number, read_from, read, kept}
use Rattle.csv_numbers.specs.Numbers.{Sign, unsigned, plus, minus, Says, ReadAs, NumbersRead}
use Rattle.csv_numbers.proofs.Figures.{Figures as All-figures, none, one_more, figures_append, figures_zeros, figures_decimal, read_number, magnitude_with, magnitude_kept}

abbrev pub cell : (size : ℕ) → Shape → (negative : Bool) → (magnitude : ℕ) → Cell
cell s x g m = record { size = s; shape = x; negative = g; magnitude = m }

-- ---- a field and one byte more, and how many bytes it has
pub read_more : (c : Cell) (w : List ℕ) (k : ℕ) → read_from c (w ++ (k ∷ [])) ≡ with_byte (read_from c w) k
unfolding read_from
read_more c [] k = refl
read_more c (b ∷ w) k = read_more (with_byte c b) w k

pub read_size : (c : Cell) (w : List ℕ) → (read_from c w).size ≡ c.size + length w
unfolding read_from
read_size c [] = omega arith
read_size c (b ∷ w) = omega (arith, read_size (with_byte c b) w)

-- ---- one byte
pub negative_kept : (g : Bool) (b : ℕ) → eqb b 45 ≡ false → is_negative g b ≡ g
negative_kept true b e = refl
negative_kept false b e = e

pub class_figure : (d : ℕ) → 48 ≤ d → d ≤ 57 → class_of d ≡ Figure
class_figure d h k = rw (ne_eqb d 32 (λ e. omega arith), ne_eqb d 43 (λ e. omega arith), ne_eqb d 45 (λ e. omega arith), le-ltb d 48 h, le-ltb 57 d k)

figure_byte : (s : ℕ) (x : Shape) (g : Bool) (m d : ℕ) → 48 ≤ d → d ≤ 57 → with_byte (cell s x g m) d ≡ cell (s + 1) (after_figure x) g (more m d)
figure_byte s x g m d h k = rw (class_figure d h k, negative_kept g d (ne_eqb d 45 (λ e. omega arith)))

-- ---- runs of bytes
blank_spaces : (k s : ℕ) (t : List ℕ) → read_from (cell s Blank false 0) (replicate k 32 ++ t) ≡ read_from (cell (s + k) Blank false 0) t
unfolding read_from
blank_spaces zero s t = let e : s + 0 ≡ s = omega arith in rw e
blank_spaces (suc k) s t = let e : s + suc k ≡ s + 1 + k = omega arith in rw e (blank_spaces k (s + 1) t)

ended_spaces : (k s : ℕ) (g : Bool) (m : ℕ) → read_from (cell s Ended g m) (replicate k 32) ≡ cell (s + k) Ended g m
unfolding read_from
ended_spaces zero s g m = let e : s + 0 ≡ s = omega arith in rw e
ended_spaces (suc k) s g m =
    let e : s + suc k ≡ s + 1 + k = omega arith in
    ap (λ (h : Bool). read_from (cell (s + 1) Ended h m) (replicate k 32)) (negative_kept g 32 refl) ∙ (ended_spaces k (s + 1) g m ∙ rw e)

figures_run : {ds : List ℕ} → All-figures ds → (s : ℕ) (g : Bool) (m : ℕ) (t : List ℕ) → read_from (cell s Figures g m) (ds ++ t) ≡ read_from (cell (s + length ds) Figures g (magnitude_with m ds)) t
unfolding read_from magnitude_with
figures_run none s g m t = let e : s + 0 ≡ s = omega arith in rw e
figures_run (one_more {d} {ds} h k f) s g m t =
    let e : s + suc (length ds) ≡ s + 1 + length ds = omega arith in
    ap (λ (c : Cell). read_from c (ds ++ t)) (figure_byte s Figures g m d h k) ∙ (figures_run f (s + 1) g (more m d) t ∙ rw e)

-- what is left of a number once its first figure was read
pub record Number (c : Cell) (s : ℕ) (g : Bool) (m : ℕ) : Type 0 where
  pub whole : is_number c ≡ true
  pub size_is : c.size ≡ s
  pub sign_is : c.negative ≡ g
  pub magnitude_is : c.magnitude ≡ m

figures_spaces : (k s : ℕ) (g : Bool) (m : ℕ) → Number (read_from (cell s Figures g m) (replicate k 32)) (s + k) g m
unfolding read_from
figures_spaces zero s g m = record { whole = refl; size_is = omega arith; sign_is = refl; magnitude_is = refl }
figures_spaces (suc k) s g m =
    let e = ap (λ (h : Bool). read_from (cell (s + 1) Ended h m) (replicate k 32)) (negative_kept g 32 refl) ∙ ended_spaces k (s + 1) g m in
    subst (λ (c : Cell). Number c (s + suc k) g m) (sym e) (record { whole = refl; size_is = omega arith; sign_is = refl; magnitude_is = refl })

-- from the first figure on, after a sign or none
module _ (x : Shape) (o : after_figure x ≡ Figures) where
  pub number_run : {ds : List ℕ} → All-figures ds → 1 ≤ length ds → (s : ℕ) (g : Bool) (m k : ℕ) → Number (read_from (cell s x g m) (ds ++ replicate k 32)) (s + length ds + k) g (magnitude_with m ds)
  unfolding read_from magnitude_with
  number_run none l s g m k = absurd (omega arith)
  number_run (one_more {d} {ds} h j f) l s g m k =
      let e : s + suc (length ds) + k ≡ s + 1 + length ds + k = omega arith in
      let q = ap (λ (c : Cell). read_from c (ds ++ replicate k 32)) (figure_byte s x g m d h j ∙ ap (λ (y : Shape). cell (s + 1) y g (more m d)) o) ∙ figures_run f (s + 1) g (more m d) (replicate k 32) in
      subst (λ (c : Cell). Number c (s + suc (length ds) + k) g (magnitude_with (more m d) ds)) (sym q) (rw e (figures_spaces k (s + 1 + length ds) g (magnitude_with (more m d) ds)))

signed_run : {g : Bool} {sign : List ℕ} → Sign g sign → {ds : List ℕ} → All-figures ds → 1 ≤ length ds → (s k : ℕ) →
    Number (read_from (cell s Blank false 0) (sign ++ (ds ++ replicate k 32))) (s + length sign + length ds + k) g (magnitude_with 0 ds)
unfolding read_from
signed_run unsigned {ds} f l s k = let e : s + 0 + length ds + k ≡ s + length ds + k = omega arith in rw e (number_run Blank refl f l s false 0 k)
signed_run plus f l s k = number_run Signed refl f l (s + 1) false 0 k
signed_run minus f l s k = number_run Signed refl f l (s + 1) true 0 k

-- ---- the whole text
pub decimal_some : (n : ℕ) → 1 ≤ length (decimal n)
unfolding decimal
decimal_some n = rw length-append (omega arith)

pub numbers_read : NumbersRead
unfolding NumbersRead read
numbers_read g n text d =
    let ds = replicate d.zeros 48 ++ decimal n in
    let f = figures_append (figures_zeros d.zeros) (figures_decimal n) in
    let l : 1 ≤ length ds = rw length-append (omega (arith, decimal_some n)) in
    let p : text ≡ replicate d.before 32 ++ (d.sign ++ (ds ++ replicate d.after 32)) =
    d.text_is ∙ rw (append_assoc (replicate d.zeros 48) (decimal n) (replicate d.after 32)) refl in
    let r = signed_run d.sign_is f l (0 + d.before) d.after in
    let q : magnitude_with 0 ds ≡ kept n = magnitude_kept f 0 ∙ ap kept (read_number d.zeros n) in
    let z : length text ≡ 0 + d.before + length d.sign + length ds + d.after =
    ap length p
    ∙ rw (length-append (replicate d.before 32) (d.sign ++ (ds ++ replicate d.after 32)), length-append d.sign (ds ++ replicate d.after 32), length-append ds (replicate d.after 32), length-replicate {A = ℕ} d.before 32, length-replicate {A = ℕ} d.after 32)
    (omega arith) in
    let same : read_from (cell 0 Blank false 0) text ≡ read_from (cell (0 + d.before) Blank false 0) (d.sign ++ (ds ++ replicate d.after 32)) =
    ap (read_from (cell 0 Blank false 0)) p ∙ blank_spaces d.before 0 (d.sign ++ (ds ++ replicate d.after 32)) in
    record { whole = rw same r.whole; sign_read = rw same r.sign_is; magnitude_read = rw same (r.magnitude_is ∙ q); size_read = rw same (r.size_is ∙ sym z) }
