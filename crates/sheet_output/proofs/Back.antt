-- A sheet of either edition that is written reads back.
use mathlib.Core.Path.{◌≡◌, refl, sym, ap, ◌∙◌}
use mathlib.Core.Bool.{true, false, ◌||◌, cond}
use mathlib.Core.List.{List, [], ◌++◌, append-nil}
use Prim.Native.Nat.{ℕ, ◌+◌, ◌*◌, ◌-◌, ◌≤◌}
use native.Mathlib.Omega.{arith}
use borrow.Author.Tests.{le-leb, eq-eqb, le-ltb}
use lib.ListN.{length, drop, length-append, length-replicate}
use lib.Seq.{drop_at, take_at}
use Rattle.frank_wolfe.specs.Vectors.{ones, sum}
use Rattle.frank_wolfe.proofs.Vectors.{sum_ones}
use Rattle.files.specs.Bytes.{number_bytes, little_endian, number, values, same, all_bytes, all_in_range, length_in_range, trailer, body, reaches, body_refusal}
use Rattle.files.specs.Sheet.{Sheet, sheet, sheet_columns, WSH1, WSH2, sheet_lettered, factor_bytes, sheet_refusal_in, sheet_refusal}
use Rattle.files.proofs.Bytes.{read_bytes}
use Rattle.files.proofs.Refusal.{between_said}
use Rattle.files.specs.Limits.{file_limit, step_limit}
use Rattle.sheet_output.specs.Output.{values_bytes, sheet_trailer, sheet_bytes, factored_body, factored_bytes, edition_bytes}
use Rattle.sheet_output.specs.Back.{SheetFit, SheetReadsBack, FactoredFit, FactoredReadsBack, EditionReadsBack}
use Rattle.sheet_output.proofs.Values.{length_values_bytes, values_back}
use Rattle.sheet_output.proofs.EachByte.{append_bytes, values_all_bytes, small_bytes, trailer_all_bytes}

-- ---- a body and a trailer of `size` bytes
module _ (bs t : List ℕ) (size : ℕ) (l : length t ≡ size) where
  pub file_length : length (bs ++ t) ≡ length bs + size
  file_length = length-append bs t ∙ ap (λ n. length bs + n) l

  pub file_trailer : trailer size (bs ++ t) ≡ t
  unfolding trailer
  file_trailer = drop_at bs t (length (bs ++ t) - size) (omega (arith, file_length))

  pub file_body : (back : ℕ) → length bs ≡ back → body size back (bs ++ t) ≡ bs
  unfolding body
  file_body back e =
      let z : length (bs ++ t) - size - back ≡ 0 = omega (arith, file_length) in
      rw z (take_at bs t back e)

  pub body_passed : (back count place range : ℕ) → length bs ≡ back → number 0 4 t ≡ back → all_in_range (values count bs) ≡ true → body_refusal size back count place range (bs ++ t) ≡ 0
  unfolding body_refusal reaches
  body_passed back count place range e b h =
      let k : back ≤ length (bs ++ t) - size = omega (arith, file_length) in
      simp (file_trailer, b, eq-eqb back back refl, le-leb _ _ k, file_body back e, h)

-- ---- a sheet's trailer
module _ (letters : List ℕ) (back c k t : ℕ) where
  pub sheet_trailer_length : length letters ≡ 4 → length (sheet_trailer letters back c k t) ≡ 16
  unfolding sheet_trailer number_bytes
  sheet_trailer_length four = omega arith

  sheet_back_at : number 0 4 (sheet_trailer letters back c k t) ≡ little_endian (number_bytes 4 back)
  unfolding number sheet_trailer number_bytes
  sheet_back_at = refl

  sheet_columns_at : number 4 2 (sheet_trailer letters back c k t) ≡ little_endian (number_bytes 2 c)
  unfolding number sheet_trailer number_bytes
  sheet_columns_at = refl

  steps_at : number 6 2 (sheet_trailer letters back c k t) ≡ little_endian (number_bytes 2 k)
  unfolding number sheet_trailer number_bytes
  steps_at = refl

  tolerance_at : number 8 4 (sheet_trailer letters back c k t) ≡ little_endian (number_bytes 4 t)
  unfolding number sheet_trailer number_bytes
  tolerance_at = refl

  letters_at : drop 12 (sheet_trailer letters back c k t) ≡ letters
  unfolding sheet_trailer number_bytes
  letters_at = refl

-- ---- a sheet
-- a body bs and letters with which a sheet asks for s
record Asks (s : Sheet) (letters bs : List ℕ) : Type 0 where
  four : length letters ≡ 4
  known : same letters WSH1 || same letters WSH2 ≡ true
  few : length bs ≤ 192
  long : 2 * length s.target + cond (same letters WSH2) (length s.target) 0 ≡ length bs
  target_there : values (length s.target) bs ≡ s.target
  factors_there : cond (same letters WSH2) (drop (2 * length s.target) bs) (ones (length s.target)) ≡ s.factors

module _ (s : Sheet) (letters bs : List ℕ) (f : FactoredFit s) (a : Asks s letters bs) where
  abbrev c : ℕ
  c = length s.target

  abbrev foot : List ℕ
  foot = sheet_trailer letters (length bs) c s.steps s.tolerance

  foot_length : length foot ≡ 16
  foot_length = sheet_trailer_length letters (length bs) c s.steps s.tolerance a.four

  foot_at : trailer 16 (bs ++ foot) ≡ foot
  foot_at = file_trailer bs foot 16 foot_length

  own_length : length (bs ++ foot) ≡ length bs + 16
  own_length = file_length bs foot 16 foot_length

  own_columns : sheet_columns (bs ++ foot) ≡ c
  unfolding sheet_columns
  own_columns = rw foot_at (sheet_columns_at letters (length bs) c s.steps s.tolerance ∙ read_bytes 2 c (omega (arith, f.most_columns)))

  own_steps : number 6 2 foot ≡ s.steps
  own_steps = steps_at letters (length bs) c s.steps s.tolerance ∙ read_bytes 2 s.steps (omega (arith, f.most_steps))

  own_tolerance : number 8 4 foot ≡ s.tolerance
  own_tolerance = tolerance_at letters (length bs) c s.steps s.tolerance ∙ read_bytes 4 s.tolerance (omega (arith, f.most_tolerance))

  own_letters : (ls : List ℕ) → sheet_lettered ls (bs ++ foot) ≡ same letters ls
  unfolding sheet_lettered
  own_letters ls = rw (foot_at, letters_at)

  own_factor_bytes : factor_bytes (bs ++ foot) ≡ cond (same letters WSH2) c 0
  unfolding factor_bytes
  own_factor_bytes = rw (own_letters WSH2, own_columns)

  own_body : body 16 (length bs) (bs ++ foot) ≡ bs
  own_body = file_body bs foot 16 foot_length (length bs) refl

  own_sheet : sheet (bs ++ foot) ≡ s
  unfolding sheet
  own_sheet = rw (own_letters WSH2, own_columns, own_factor_bytes, a.long, own_body, foot_at, a.target_there, a.factors_there, own_steps, own_tolerance)

  own_body_passes : body_refusal 16 (length bs) c 16 17 (bs ++ foot) ≡ 0
  own_body_passes =
      body_passed bs foot 16 foot_length (length bs) c 16 17 refl
      (sheet_back_at letters (length bs) c s.steps s.tolerance ∙ read_bytes 4 (length bs) (omega (arith, a.few)))
      (rw a.target_there f.in_range)

  own_accepted : sheet_refusal c (bs ++ foot) ≡ 0
  unfolding sheet_refusal_in length_in_range
  own_accepted =
      simp (
        own_length,
        own_letters WSH1,
        own_letters WSH2,
        a.known,
        own_columns,
        own_factor_bytes,
        a.long,
        own_sheet,
        between_said {least = 16} {most = file_limit} {n = length bs + 16} (omega arith) (omega (arith, a.few)),
        between_said {least = c} {most = c} {n = c} (omega arith) (omega arith),
        between_said {least = 1} {most = step_limit} {n = s.steps} f.some_steps f.most_steps,
        between_said {least = 1} {most = 64} {n = sum s.factors} f.some_factor f.few_factors,
        le-ltb 1024000000 s.tolerance f.most_tolerance,
        own_body_passes,
      )

-- ---- WSH1
-- factors of 1 are factors
plain_fit : (s : Sheet) → SheetFit s → FactoredFit s
plain_fit s f =
    let total : sum s.factors ≡ length s.target = ap sum f.plain ∙ sum_ones (length s.target) in
    record {
      each_column = ap length f.plain ∙ length-replicate (length s.target) 1;
      some_columns = f.some_columns;
      most_columns = f.most_columns;
      in_range = f.in_range;
      some_factor = omega (arith, f.some_columns);
      few_factors = omega (arith, f.most_columns);
      some_steps = f.some_steps;
      most_steps = f.most_steps;
      most_tolerance = f.most_tolerance;
    }

plain_asks : (s : Sheet) → s.factors ≡ ones (length s.target) → FactoredFit s → Asks s WSH1 (values_bytes s.target)
unfolding same
plain_asks s plain f =
    let long : length (values_bytes s.target) ≡ 2 * length s.target = length_values_bytes s.target in
    record {
      four = refl;
      known = refl;
      few = omega (arith, f.most_columns);
      long = omega arith;
      target_there = rw append-nil at (values_back s.target [] f.in_range);
      factors_there = sym plain;
    }

pub sheet_reads_back : SheetReadsBack
unfolding SheetReadsBack sheet_bytes
sheet_reads_back s f =
    let bs = values_bytes s.target in
    let g = plain_fit s f in
    let a = plain_asks s f.plain g in
    let size : length (sheet_bytes s) ≡ 2 * length s.target + 16 = own_length s WSH1 bs g a ∙ ap (λ n. n + 16) (length_values_bytes s.target) in
    record {
      size = size;
      most_bytes = omega (arith, size, f.most_columns);
      columns_back = own_columns s WSH1 bs g a;
      sheet_back = own_sheet s WSH1 bs g a;
      accepted = own_accepted s WSH1 bs g a;
    }

-- ---- WSH2
factored_long : (s : Sheet) → FactoredFit s → length (factored_body s) ≡ 3 * length s.target
unfolding factored_body
factored_long s f = rw length-append (omega (arith, length_values_bytes s.target, f.each_column))

factored_asks : (s : Sheet) → FactoredFit s → Asks s WSH2 (factored_body s)
unfolding same factored_body
factored_asks s f =
    record {
      four = refl;
      known = refl;
      few = omega (arith, factored_long s f, f.most_columns);
      long = omega (arith, factored_long s f);
      target_there = values_back s.target s.factors f.in_range;
      factors_there = drop_at (values_bytes s.target) s.factors (2 * length s.target) (length_values_bytes s.target);
    }

-- each factor is a byte, as their total is at most 64
factored_each_byte : (s : Sheet) → FactoredFit s → all_bytes (factored_bytes s) ≡ true
unfolding factored_bytes factored_body
factored_each_byte s f =
    append_bytes (values_bytes s.target ++ s.factors) _
    (append_bytes (values_bytes s.target) s.factors (values_all_bytes s.target) (small_bytes s.factors (omega (arith, f.few_factors))))
    (trailer_all_bytes _ (length s.target) s.steps s.tolerance)

pub factored_reads_back : FactoredReadsBack
unfolding FactoredReadsBack factored_bytes
factored_reads_back s f =
    let bs = factored_body s in
    let a = factored_asks s f in
    let size : length (factored_bytes s) ≡ 3 * length s.target + 16 = own_length s WSH2 bs f a ∙ ap (λ n. n + 16) (factored_long s f) in
    record {
      each_byte = factored_each_byte s f;
      size = size;
      most_bytes = omega (arith, size, f.most_columns);
      columns_back = own_columns s WSH2 bs f a;
      sheet_back = own_sheet s WSH2 bs f a;
      accepted = own_accepted s WSH2 bs f a;
    }

-- ---- either
pub edition_reads_back : EditionReadsBack
unfolding EditionReadsBack edition_bytes factored_bytes sheet_bytes same
edition_reads_back true s f plain =
    let bs = factored_body s in
    let a = factored_asks s f in
    record {
      edition = own_letters s WSH2 bs f a WSH2;
      most_bytes = omega (arith, own_length s WSH2 bs f a, factored_long s f, f.most_columns);
      columns_back = own_columns s WSH2 bs f a;
      sheet_back = own_sheet s WSH2 bs f a;
      accepted = own_accepted s WSH2 bs f a;
    }
edition_reads_back false s f plain =
    let bs = values_bytes s.target in
    let a = plain_asks s (plain refl) f in
    record {
      edition = own_letters s WSH1 bs f a WSH2;
      most_bytes = omega (arith, own_length s WSH1 bs f a, length_values_bytes s.target, f.most_columns);
      columns_back = own_columns s WSH1 bs f a;
      sheet_back = own_sheet s WSH1 bs f a;
      accepted = own_accepted s WSH1 bs f a;
    }
