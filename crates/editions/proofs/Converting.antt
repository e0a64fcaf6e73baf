-- The conversion of an accepted sheet whose factors are all 1: it is accepted, asks for the same, goes back, and has the same outcomes.
use mathlib.Core.Path.{◌≡◌, refl, sym, ap, ◌∙◌}
use mathlib.Core.Bool.{Bool, true, false, ◌||◌, not, cond}
use mathlib.Core.Logic.{inl, inr}
use mathlib.Core.List.{List, ◌++◌}
use Prim.Native.Nat.{ℕ, ◌+◌, ◌*◌, ◌-◌, ◌≤◌}
use native.Mathlib.Omega.{arith}
use borrow.Author.Tests.{eq-eqb, le-ltb}
use lib.Dec.{eqb, ltb}
use lib.ListN.{length, take, drop, length-append}
use lib.Seq.{drop-append-add, take_at, length-take-le}
use Rattle.method.specs.Problem.{plain_terms}
use Rattle.frank_wolfe.specs.Vectors.{ones}
use Rattle.files.specs.Bytes.{all_bytes, same, number, trailer}
use Rattle.files.specs.Sheet.{Sheet, sheet, sheet_columns, WSH1, WSH2, sheet_lettered, factor_bytes, sheet_back, target_offset, sheet_refusal_in, sheet_refusal}
use Rattle.files.specs.Editions.{SameValues, Editions, EditionsAlike}
use Rattle.files.specs.Limits.{file_limit}
use Rattle.files.proofs.Editions.{editions_alike}
use Rattle.files.proofs.Fields.{sheet_letters_at}
use Rattle.factors.specs.Factors.{all_ones}
use Rattle.factors.proofs.Factors.{all_ones_are}
use Rattle.method.proofs.Promise.{same_files, same_search, same_problem}
use Rattle.card_format.proofs.Editions.{same_run_card, same_writing, same_card_refusal, same_check, same_card_answer}
use Rattle.better_card_promise.specs.Choices.{better_refusal, better_number, better, better_part, choice}
use Rattle.sheet_output.specs.Output.{values_bytes, sheet_bytes, factored_body, factored_bytes, edition_bytes}
use Rattle.sheet_output.specs.Back.{FactoredFit, EditionOf, EditionReadsBack}
use Rattle.sheet_output.specs.Front.{SameWithFront, SheetTakesFront}
use Rattle.sheet_output.proofs.Values.{length_values_bytes}
use Rattle.sheet_output.proofs.Back.{sheet_trailer_length, edition_reads_back}
use Rattle.sheet_output.proofs.Front.{sheet_takes_front}
use Rattle.editions.specs.Rewriting.{sheet_front, other_edition, edition_refusal}
use Rattle.editions.specs.Outcomes.{SameOutcomes}
use Rattle.editions.specs.Promise.{Converted}
use Rattle.editions.proofs.Again.{fits, back_is, first_by, written_again}

-- ---- Sheets of both editions that ask for the same

same_values : (a z c d : ℕ) (x y : List ℕ) → sheet_refusal_in a z x ≡ 0 → sheet_refusal_in c d y ≡ 0 → sheet_lettered WSH1 x ≡ true → sheet_lettered WSH2 y ≡ true → sheet x ≡ sheet y →
    all_ones (sheet y).factors ≡ true → SameValues x y
same_values a z c d x y ex ey lx ly q p =
    let f = (fits a z x ex).fits in
    let g = (fits c d y ey).fits in
    record {
      first = lx;
      second = ly;
      columns = sym f.target_length ∙ ap (λ s. length s.target) q ∙ g.target_length;
      target = ap (λ s. s.target) q;
      factors = all_ones_are (sheet y).factors p ∙ ap ones g.factor_count;
      steps = ap (λ s. s.steps) q;
      tolerance = ap (λ s. s.tolerance) q;
      whole = (f.whole, g.whole);
      most_bytes = (f.at_most, g.at_most);
      backs = eq-eqb _ _ (back_is a z x ex) ∙ sym (eq-eqb _ _ (back_is c d y ey));
    }

-- letters behind other bytes
lettered_front : (f t ls : List ℕ) → 16 ≤ length t → sheet_lettered ls (f ++ t) ≡ sheet_lettered ls t
lettered_front f t ls h =
    let e : length (f ++ t) - 4 ≡ length f + (length t - 4) = omega (arith, length-append f t) in
    sheet_letters_at (f ++ t) (omega (arith, length-append f t)) ls ∙ rw (e, drop-append-add) (sym (sheet_letters_at t h ls))

-- a front text is what stands before the body
front_at : (f t : List ℕ) → target_offset (f ++ t) ≡ length f → sheet_front (f ++ t) ≡ f
unfolding sheet_front
front_at f t e = take_at f t (target_offset (f ++ t)) (sym e)

not_not : (t : Bool) → not (not t) ≡ t
not_not true = refl
not_not false = refl

-- what was converted is converted into the sheet's own edition
twice : (s o : List ℕ) → sheet_front o ≡ sheet_front s → sheet_lettered WSH2 o ≡ not (sheet_lettered WSH2 s) → sheet o ≡ sheet s →
    other_edition o ≡ sheet_front s ++ edition_bytes (sheet_lettered WSH2 s) (sheet s)
unfolding other_edition
twice s o f l q = rw (f, l, q, not_not)

-- ---- Outcomes

module _ (b s o : List ℕ) (d : Editions s o) where
  same_number : (x y : List ℕ) → better_refusal b o x y ≡ better_refusal b s x y
  unfolding better_refusal
  same_number x y = rw (same_files plain_terms b s o d, same_card_refusal plain_terms b s o d x, same_card_refusal plain_terms b s o d y)

  same_chosen : (x y : List ℕ) → better_number b o x y ≡ better_number b s x y
  unfolding better_number
  same_chosen x y = rw (same_card_answer plain_terms b s o d x, same_card_answer plain_terms b s o d y)

  same_better : (x y : List ℕ) → (better_part b o x y ≡ better_part b s x y) × (choice b o x y ≡ choice b s x y)
  unfolding better_part choice better
  same_better x y = (rw (same_number x y, same_chosen x y), rw (same_number x y, same_chosen x y))

  same_outcomes : SameOutcomes b s o
  same_outcomes =
      record {
        search = λ slots. (rw (same_search plain_terms b s o (length slots) d, same_problem plain_terms b s o d), rw (same_search plain_terms b s o (length slots) d, same_problem plain_terms b s o d));
        writer = λ out. (
          rw (same_writing plain_terms b s o d (length out), same_problem plain_terms b s o d, same_run_card plain_terms b s o d),
          rw (same_writing plain_terms b s o d (length out), same_run_card plain_terms b s o d),
        );
        check = λ w slots. (
          rw (same_check plain_terms b s o d w (length slots), same_card_answer plain_terms b s o d w),
          rw (same_check plain_terms b s o d w (length slots)),
        );
        better = λ x y. (same_number x y, same_better x y);
      }

-- ---- The conversion

module _ (s : List ℕ) (e : sheet_refusal_in 1 64 s ≡ 0) (p : all_ones (sheet s).factors ≡ true) where
  abbrev other : Bool
  other = not (sheet_lettered WSH2 s)

  abbrev made : List ℕ
  made = edition_bytes other (sheet s)

  columns_are : length (sheet s).target ≡ sheet_columns s
  columns_are = (fits 1 64 s e).fits.target_length

  pub plain : (sheet s).factors ≡ ones (length (sheet s).target)
  plain = all_ones_are (sheet s).factors p ∙ ap ones ((fits 1 64 s e).fits.factor_count ∙ sym columns_are)

  asked : FactoredFit (sheet s)
  asked =
      let f = fits 1 64 s e in
      record {
        each_column = f.fits.factor_count ∙ sym columns_are;
        some_columns = omega (arith, columns_are, f.least_columns);
        most_columns = omega (arith, columns_are, f.most_columns);
        in_range = f.fits.target_in_range;
        some_factor = f.fits.some_factor;
        few_factors = f.fits.few_factors;
        some_steps = f.fits.some_steps;
        most_steps = f.fits.most_steps;
        most_tolerance = f.fits.most_tolerance;
      }

  reads : EditionOf other (sheet s) made
  unfolding EditionReadsBack
  reads = edition_reads_back other (sheet s) asked (λ _. plain)

  -- 2 bytes a column and 1 more where it has factors, behind them the trailer
  made_long : (t : Bool) → length (edition_bytes t (sheet s)) ≡ 2 * sheet_columns s + cond t (sheet_columns s) 0 + 16
  unfolding edition_bytes factored_bytes factored_body sheet_bytes
  made_long true =
      let n = length-append (values_bytes (sheet s).target) (sheet s).factors in
      length-append (values_bytes (sheet s).target ++ (sheet s).factors) _
      ∙ omega (arith, n, length_values_bytes (sheet s).target, columns_are, asked.each_column, sheet_trailer_length WSH2 (length (values_bytes (sheet s).target ++ (sheet s).factors)) (length (sheet s).target) (sheet s).steps (sheet s).tolerance refl)
  made_long false =
      length-append (values_bytes (sheet s).target) _
      ∙ omega (arith, length_values_bytes (sheet s).target, columns_are, sheet_trailer_length WSH1 (length (values_bytes (sheet s).target)) (length (sheet s).target) (sheet s).steps (sheet s).tolerance refl)

  front_long : length (sheet_front s) ≡ target_offset s
  unfolding sheet_front
  front_long = length-take-le (target_offset s) s (omega (arith, (fits 1 64 s e).fits.whole))

  -- a column's byte more, or less
  pub other_long : (t : Bool) → sheet_lettered WSH2 s ≡ t → length (other_edition s) ≡ cond t (length s - sheet_columns s) (length s + sheet_columns s)
  unfolding other_edition factor_bytes
  other_long true l =
      let b : factor_bytes s ≡ sheet_columns s = rw l in
      let k : cond other (sheet_columns s) 0 ≡ 0 = rw l in
      omega (arith, length-append (sheet_front s) made, front_long, made_long other, (fits 1 64 s e).fits.whole)
  other_long false l =
      let b : factor_bytes s ≡ 0 = rw l in
      let k : cond other (sheet_columns s) 0 ≡ sheet_columns s = rw l in
      omega (arith, length-append (sheet_front s) made, front_long, made_long other, (fits 1 64 s e).fits.whole)

  module _ (small : length (other_edition s) ≤ file_limit) where
    behind : SameWithFront (length (sheet s).target) (sheet_front s) made
    unfolding SheetTakesFront other_edition
    behind = sheet_takes_front (length (sheet s).target) (sheet_front s) made reads.accepted small

    other_sheet : sheet (other_edition s) ≡ sheet s
    unfolding other_edition
    other_sheet = behind.same_sheet ∙ reads.sheet_back

    other_accepted : sheet_refusal (length (sheet s).target) (other_edition s) ≡ 0
    unfolding other_edition
    other_accepted = behind.accepted

    other_columns : sheet_columns (other_edition s) ≡ sheet_columns s
    unfolding other_edition
    other_columns = behind.same_columns ∙ reads.columns_back ∙ columns_are

    pub other_second : sheet_lettered WSH2 (other_edition s) ≡ other
    unfolding other_edition
    other_second = lettered_front (sheet_front s) made WSH2 (omega (arith, made_long other)) ∙ reads.edition

    editions : Editions s (other_edition s)
    editions = by (sheet_lettered WSH2 s) refl
      where
        c : ℕ
        c = length (sheet s).target

        by : (t : Bool) → sheet_lettered WSH2 s ≡ t → Editions s (other_edition s)
        by true l =
            inr (same_values c c 1 64 (other_edition s) s other_accepted e (first_by c c (other_edition s) other_accepted false (other_second ∙ ap not l)) l other_sheet p)
        by false l = inl (same_values 1 64 c c s (other_edition s) e other_accepted (first_by 1 64 s e false l) (other_second ∙ ap not l) (sym other_sheet) (rw other_sheet p))

    accepted : sheet_refusal_in 1 64 (other_edition s) ≡ 0
    unfolding EditionsAlike
    accepted = sym ((editions_alike s (other_edition s) editions).1 1 64) ∙ e

    other_factor_bytes : factor_bytes (other_edition s) ≡ cond other (sheet_columns s) 0
    unfolding factor_bytes
    other_factor_bytes = rw (other_second, other_columns)

    same_front : sheet_front (other_edition s) ≡ sheet_front s
    unfolding other_edition
    same_front = front_at (sheet_front s) made (omega (arith, length-append (sheet_front s) made, made_long other, other_columns, other_factor_bytes))

    first_letters : sheet_lettered WSH1 (other_edition s) ≡ sheet_lettered WSH2 s
    first_letters = first_by 1 64 (other_edition s) accepted other other_second ∙ not_not (sheet_lettered WSH2 s)

    second_letters : sheet_lettered WSH2 (other_edition s) ≡ sheet_lettered WSH1 s
    second_letters = other_second ∙ sym (first_by 1 64 s e (sheet_lettered WSH2 s) refl)

    module _ (h : all_bytes s ≡ true) where
      back : other_edition (other_edition s) ≡ s
      back = twice s (other_edition s) same_front other_second other_sheet ∙ written_again 1 64 s e h

      back_accepted : (room : ℕ) → length s ≤ room → edition_refusal (other_edition s) room ≡ 0
      unfolding edition_refusal
      back_accepted room k =
          simp (accepted, other_sheet, p, back, le-ltb room (length s) k, le-ltb file_limit (length s) (fits 1 64 s e).fits.at_most)

      pub converted : Converted s (other_edition s)
      converted =
          record {
            first_letters = first_letters;
            second_letters = second_letters;
            accepted = accepted;
            same_sheet = other_sheet;
            same_front = same_front;
            back_accepted = back_accepted;
            back = back;
            editions = editions;
            same_outcomes = λ b. same_outcomes b s (other_edition s) editions;
          }
