-- What is read as a number is spaces, a sign, figures and spaces.
use mathlib.Core.Path.{◌≡◌, refl, sym, ap, ◌∙◌}
use mathlib.Core.Bool.{Bool, true, false}
use mathlib.Core.List.{List, [], ◌∷◌, ◌++◌, append_assoc}
use Prim.Native.Nat.{ℕ, zero, suc, ◌≤◌, ◌<◌}
use native.Mathlib.Omega.{arith}
use borrow.Author.Tests.{eqb-true, eqb-false, ne_eqb, lt-ltb, le-ltb, ltb-true, ltb-false}
use lib.Dec.{eqb, ltb}
use lib.IntN.{ℤ}
use lib.ListN.{replicate}
use Rattle.text.specs.Decimal.{decimal, read_after}
use Rattle.csv_bytes.specs.declared.Cell.{Cell}
use Rattle.csv_bytes.specs.declared.Class.{Class}
use Rattle.csv_bytes.specs.declared.Class.TheVariants.{Space, Sign as SignClass, Figure, Text}
use Rattle.csv_bytes.specs.declared.Shape.{Shape}
use Rattle.csv_bytes.specs.declared.Shape.TheVariants.{Blank, Signed, Figures, Ended, Other}
use Rattle.csv_bytes.specs.Cells.{class_of, after_figure, shape_after, more, magnitude_after, is_negative, with_byte, is_number, read_from, read, no_bytes, kept, MOST, signed}
use Rattle.csv_numbers.specs.Numbers.{Sign, unsigned, plus, minus, Says, Said, ReadSaid, SaysValue}
use Rattle.csv_numbers.proofs.Figures.{Figures as All-figures, none, one_more, Zeros, all_figures, magnitude_with, magnitude_kept}
use Rattle.csv_numbers.proofs.Reading.{negative_kept, class_figure}

-- ---- what a byte is
data Kind (b : ℕ) : Type 0 where
  a_space : b ≡ 32 → Kind b
  a_plus : b ≡ 43 → Kind b
  a_minus : b ≡ 45 → Kind b
  a_figure : 48 ≤ b → b ≤ 57 → Kind b
  a_text : class_of b ≡ Text → Kind b

kind : (b : ℕ) → Kind b
kind b = by (eqb b 32) refl (eqb b 43) refl (eqb b 45) refl (ltb b 48) refl (ltb 57 b) refl
  where
    by : (p : Bool) → eqb b 32 ≡ p → (q : Bool) → eqb b 43 ≡ q → (r : Bool) → eqb b 45 ≡ r → (s : Bool) → ltb b 48 ≡ s → (t : Bool) → ltb 57 b ≡ t → Kind b
    by true e q f r g s h t i = a_space (eqb-true b 32 e)
    by false e true f r g s h t i = a_plus (eqb-true b 43 f)
    by false e false f true g s h t i = a_minus (eqb-true b 45 g)
    by false e false f false g true h t i = a_text (rw (e, f, g, h))
    by false e false f false g false h true i = a_text (rw (e, f, g, h, i))
    by false e false f false g false h false i = a_figure (ltb-false b 48 h) (ltb-false 57 b i)

-- ---- the shape after it
other_after : (k : Class) → shape_after Other k ≡ Other
other_after Space = refl
other_after SignClass = refl
other_after Figure = refl
other_after Text = refl

other_stays : (t : List ℕ) (c : Cell) → c.shape ≡ Other → is_number (read_from c t) ≡ true → ⊥
unfolding read_from
other_stays [] c e h = let z : ◌≡◌ {A = Bool} false true = rw e at h in let y : ◌≡◌ {A = ℕ} 0 1 = cc in omega arith
other_stays (b ∷ t) c e h = other_stays t (with_byte c b) (rw e (other_after (class_of b))) h

-- ---- spaces at the end
record Spaces (c : Cell) (t : List ℕ) : Type 0 where
  count : ℕ
  text_is : t ≡ replicate count 32
  sign_same : (read_from c t).negative ≡ c.negative
  magnitude_same : (read_from c t).magnitude ≡ c.magnitude

ended_said : (t : List ℕ) (c : Cell) → c.shape ≡ Ended → is_number (read_from c t) ≡ true → Spaces c t
unfolding read_from
ended_said [] c e h = record { count = 0; text_is = refl; sign_same = refl; magnitude_same = refl }
ended_said (b ∷ t) c e h = by (kind b) (λ f. ended_said t (with_byte c b) f h)
  where
    by : Kind b → ((with_byte c b).shape ≡ Ended → Spaces (with_byte c b) t) → Spaces c (b ∷ t)
    by (a_space q) next =
        let i = next (rw (q, e) refl) in
        record {
          count = suc i.count;
          text_is = ap (λ (x : List ℕ). b ∷ x) i.text_is ∙ ap (λ (x : ℕ). x ∷ replicate i.count 32) q;
          sign_same = i.sign_same ∙ rw q (negative_kept c.negative 32 refl);
          magnitude_same = i.magnitude_same ∙ rw q refl;
        }
    by (a_plus q) next = absurd (other_stays t (with_byte c b) (rw (q, e) refl) h)
    by (a_minus q) next = absurd (other_stays t (with_byte c b) (rw (q, e) refl) h)
    by (a_figure l m) next = absurd (other_stays t (with_byte c b) (rw (class_figure b l m, e) refl) h)
    by (a_text q) next = absurd (other_stays t (with_byte c b) (rw q refl) h)

-- ---- figures, then spaces
record Run (c : Cell) (t : List ℕ) : Type 0 where
  figures : List ℕ
  all : All-figures figures
  after : ℕ
  text_is : t ≡ figures ++ replicate after 32
  sign_same : (read_from c t).negative ≡ c.negative
  magnitude_is : (read_from c t).magnitude ≡ magnitude_with c.magnitude figures

module _ (b : ℕ) (c : Cell) (l : 48 ≤ b) (m : b ≤ 57) where
  figure_sign : (with_byte c b).negative ≡ c.negative
  figure_sign = negative_kept c.negative b (ne_eqb b 45 (λ e. omega arith))

  figure_magnitude : (with_byte c b).magnitude ≡ more c.magnitude b
  figure_magnitude = rw (class_figure b l m) refl

figures_said : (t : List ℕ) (c : Cell) → c.shape ≡ Figures → is_number (read_from c t) ≡ true → Run c t
unfolding read_from magnitude_with
figures_said [] c e h = record { figures = []; all = none; after = 0; text_is = refl; sign_same = refl; magnitude_is = refl }
figures_said (b ∷ t) c e h = by (kind b) (λ f. figures_said t (with_byte c b) f h)
  where
    by : Kind b → ((with_byte c b).shape ≡ Figures → Run (with_byte c b) t) → Run c (b ∷ t)
    by (a_space q) next =
        let i = ended_said t (with_byte c b) (rw (q, e) refl) h in
        record {
          figures = [];
          all = none;
          after = suc i.count;
          text_is = ap (λ (x : List ℕ). b ∷ x) i.text_is ∙ ap (λ (x : ℕ). x ∷ replicate i.count 32) q;
          sign_same = i.sign_same ∙ rw q (negative_kept c.negative 32 refl);
          magnitude_is = i.magnitude_same ∙ rw q refl;
        }
    by (a_plus q) next = absurd (other_stays t (with_byte c b) (rw (q, e) refl) h)
    by (a_minus q) next = absurd (other_stays t (with_byte c b) (rw (q, e) refl) h)
    by (a_figure l m) next =
        let i = next (rw (class_figure b l m, e) refl) in
        record {
          figures = b ∷ i.figures;
          all = one_more l m i.all;
          after = i.after;
          text_is = ap (λ (x : List ℕ). b ∷ x) i.text_is;
          sign_same = i.sign_same ∙ figure_sign b c l m;
          magnitude_is = i.magnitude_is ∙ ap (λ (x : ℕ). magnitude_with x i.figures) (figure_magnitude b c l m);
        }
    by (a_text q) next = absurd (other_stays t (with_byte c b) (rw q refl) h)

-- ---- from the first figure on
record First (c : Cell) (t : List ℕ) : Type 0 where
  first : ℕ
  least : 48 ≤ first
  most : first ≤ 57
  figures : List ℕ
  all : All-figures figures
  after : ℕ
  text_is : t ≡ (first ∷ figures) ++ replicate after 32
  sign_same : (read_from c t).negative ≡ c.negative
  magnitude_is : (read_from c t).magnitude ≡ magnitude_with c.magnitude (first ∷ figures)

first_said : (b : ℕ) (t : List ℕ) (c : Cell) → 48 ≤ b → b ≤ 57 → after_figure c.shape ≡ Figures → is_number (read_from c (b ∷ t)) ≡ true → First c (b ∷ t)
unfolding read_from magnitude_with
first_said b t c l m e h =
    let i = figures_said t (with_byte c b) (rw (class_figure b l m) e) h in
    record {
      first = b;
      least = l;
      most = m;
      figures = i.figures;
      all = i.all;
      after = i.after;
      text_is = ap (λ (x : List ℕ). b ∷ x) i.text_is;
      sign_same = i.sign_same ∙ figure_sign b c l m;
      magnitude_is = i.magnitude_is ∙ ap (λ (x : ℕ). magnitude_with x i.figures) (figure_magnitude b c l m);
    }

-- ---- after a sign
signed_said : (t : List ℕ) (c : Cell) → c.shape ≡ Signed → is_number (read_from c t) ≡ true → First c t
unfolding read_from
signed_said [] c e h = let z : ◌≡◌ {A = Bool} false true = rw e at h in let y : ◌≡◌ {A = ℕ} 0 1 = cc in absurd (omega arith)
signed_said (b ∷ t) c e h = by (kind b)
  where
    by : Kind b → First c (b ∷ t)
    by (a_space q) = absurd (other_stays t (with_byte c b) (rw (q, e) refl) h)
    by (a_plus q) = absurd (other_stays t (with_byte c b) (rw (q, e) refl) h)
    by (a_minus q) = absurd (other_stays t (with_byte c b) (rw (q, e) refl) h)
    by (a_figure l m) = first_said b t c l m (rw e refl) h
    by (a_text q) = absurd (other_stays t (with_byte c b) (rw q refl) h)

-- ---- the whole text, from a field without bytes on
record Whole (c : Cell) (t : List ℕ) : Type 0 where
  before : ℕ
  sign : List ℕ
  first : ℕ
  least : 48 ≤ first
  most : first ≤ 57
  figures : List ℕ
  all : All-figures figures
  after : ℕ
  sign_is : Sign (read_from c t).negative sign
  text_is : t ≡ replicate before 32 ++ (sign ++ ((first ∷ figures) ++ replicate after 32))
  magnitude_is : (read_from c t).magnitude ≡ magnitude_with 0 (first ∷ figures)

-- a sign or none, then the first figure
whole : {c : Cell} {t : List ℕ} {g : Bool} {sign u : List ℕ} {d : Cell} → Sign g sign → t ≡ sign ++ u → read_from c t ≡ read_from d u → d.negative ≡ g → d.magnitude ≡ 0 → First d u → Whole c t
whole {c} {t} {g} {sign} {u} {d} s et er eg em i =
    record {
      before = 0;
      sign = sign;
      first = i.first;
      least = i.least;
      most = i.most;
      figures = i.figures;
      all = i.all;
      after = i.after;
      sign_is = rw (er, i.sign_same, eg) s;
      text_is = rw (et, i.text_is) refl;
      magnitude_is = rw (er, i.magnitude_is, em) refl;
    }

blank_said : (t : List ℕ) (c : Cell) → c.shape ≡ Blank → c.negative ≡ false → c.magnitude ≡ 0 → is_number (read_from c t) ≡ true → Whole c t
unfolding read_from
blank_said [] c e n m h = let z : ◌≡◌ {A = Bool} false true = rw e at h in let y : ◌≡◌ {A = ℕ} 0 1 = cc in absurd (omega arith)
blank_said (b ∷ t) c e n m h = by (kind b) (λ f g k. blank_said t (with_byte c b) f g k h)
  where
    by : Kind b → ((with_byte c b).shape ≡ Blank → (with_byte c b).negative ≡ false → (with_byte c b).magnitude ≡ 0 → Whole (with_byte c b) t) → Whole c (b ∷ t)
    by (a_space q) next =
        let i = next (rw (q, e) refl) (rw (q, n) refl) (rw q m) in
        record {
          before = suc i.before;
          sign = i.sign;
          first = i.first;
          least = i.least;
          most = i.most;
          figures = i.figures;
          all = i.all;
          after = i.after;
          sign_is = i.sign_is;
          text_is = ap (λ (x : List ℕ). b ∷ x) i.text_is ∙ ap (λ (x : ℕ). x ∷ (replicate i.before 32 ++ (i.sign ++ ((i.first ∷ i.figures) ++ replicate i.after 32)))) q;
          magnitude_is = i.magnitude_is;
        }
    by (a_plus q) next = whole plus (rw q refl) refl (rw (q, n) refl) (rw q m) (signed_said t (with_byte c b) (rw (q, e) refl) h)
    by (a_minus q) next = whole minus (rw q refl) refl (rw (q, n) refl) (rw q m) (signed_said t (with_byte c b) (rw (q, e) refl) h)
    by (a_figure l k) next = whole unsigned refl refl n m (first_said b t c l k (rw e refl) h)
    by (a_text q) next = absurd (other_stays t (with_byte c b) (rw q refl) h)

regrouped : (t front sign fs zs ds tail : List ℕ) → t ≡ front ++ (sign ++ (fs ++ tail)) → fs ≡ zs ++ ds → t ≡ front ++ (sign ++ (zs ++ (ds ++ tail)))
regrouped t front sign fs zs ds tail e f = e ∙ rw (f, append_assoc zs ds tail) refl

pub read_said : ReadSaid
unfolding ReadSaid read
read_said text h =
    let i = blank_said text no_bytes refl refl refl h in
    let z = all_figures i.least i.most i.all in
    record {
      number = read_after 0 (i.first ∷ i.figures);
      says = record { before = i.before; sign = i.sign; zeros = z.count; after = i.after; sign_is = i.sign_is; text_is = regrouped text (replicate i.before 32) i.sign (i.first ∷ i.figures) (replicate z.count 48) _ (replicate i.after 32) i.text_is z.figures_are };
      kept_is = i.magnitude_is ∙ magnitude_kept (one_more i.least i.most i.all) 0;
    }

-- ---- a number that is not the largest is the one that the figures say
kept_small : (n : ℕ) → kept n < MOST → kept n ≡ n
kept_small n h = by (ltb MOST n) refl
  where
    by : (b : Bool) → ltb MOST n ≡ b → kept n ≡ n
    by true e = let l : kept n ≡ MOST = rw e refl in absurd (omega arith)
    by false e = rw e refl

module _ (text : List ℕ) (h : is_number (read text) ≡ true) (l : (read text).magnitude < MOST) where
  pub says_read : Says (read text).negative (read text).magnitude text
  unfolding ReadSaid
  says_read =
      let s = read_said text h in
      let e : (read text).magnitude ≡ s.number = s.kept_is ∙ kept_small s.number (rw (← s.kept_is) l) in
      rw e s.says

  pub says_value : SaysValue (signed (read text).negative (read text).magnitude) text
  says_value = record { negative = (read text).negative; magnitude = (read text).magnitude; says = says_read; value_is = refl }
