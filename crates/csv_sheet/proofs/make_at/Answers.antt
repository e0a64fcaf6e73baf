-- `csv_sheet::make_at` meets its contract: a law of `Making` for each return.
use borrow.Author.Rules.{rules}
use mathlib.Core.Path.{◌≡◌, sym, ap, ◌∙◌}
use native.Mathlib.Omega.{arith}
use lib.ListN.{length, take}
use lib.Seq.{length-take-le}
use Rattle.frank_wolfe.specs.Vectors.{sum}
use Rattle.files.proofs.Refusal.{between_true}
use Rattle.csv_sheet_parts.specs.Parts.{factors_of}
use Rattle.csv_sheet.proofs.Making.{refused_is, factors_taken, factors_out, tolerance_out, sheet_out}
use Rattle.csv_sheet.proofs.make_at.Goals as goal

pub slice_bounds-total-end : goal.slice_bounds-total-end
slice_bounds-total-end c =
    let long : length c.put_factors.new.output ≡ 64 = search rules in
    sym (length-take-le _ c.put_factors.new.output (omega (arith, long, c.requires.ready.few)))

pub total-total-requires : goal.total-total-requires
total-total-requires c = omega (arith, slice_bounds-total-end c, c.requires.ready.few)

pub returns-then-not-is_between : goal.returns-then-not-is_between
returns-then-not-is_between c =
    let taken : (take (length c.args.places.now) c.put_factors.new.output ≡ factors_of c.args.places.now c.args.csv.now) = factors_taken _ _ _ c.put_factors.ensures c.requires.ready.few (search rules) in
    let total_is : (c.total-total.result ≡ sum (factors_of c.args.places.now c.args.csv.now)) = c.total-total.ensures ∙ ap sum taken in
    let q = factors_out _ _ _ total_is c.is_between.ensures c.if-not-is_between.true (refused_is _ c.without.ensures) in
    record { value = q.0; output_after = q.1 }

pub tolerance_for-tolerance-requires : goal.tolerance_for-tolerance-requires
tolerance_for-tolerance-requires c = record { csv_len_bound = omega (arith, c.requires.ready.short); csv_value = c.requires.ready.faultless; total_bound = omega (arith, c.requires.ready.few, (between_true 1 64 _ (sym c.is_between.ensures ∙ c.if-not-is_between.false)).1) }

pub returns-then-tolerance-gt1024000000 : goal.returns-then-tolerance-gt1024000000
returns-then-tolerance-gt1024000000 c =
    let taken : (take (length c.args.places.now) c.put_factors.new.output ≡ factors_of c.args.places.now c.args.csv.now) = factors_taken _ _ _ c.put_factors.ensures c.requires.ready.few (search rules) in
    let total_is : (c.total-total.result ≡ sum (factors_of c.args.places.now c.args.csv.now)) = c.total-total.ensures ∙ ap sum taken in
    let q = tolerance_out _ _ _ total_is c.is_between.ensures c.if-not-is_between.false c.tolerance_for-tolerance.ensures c.if-tolerance-gt1024000000.true (refused_is _ c.without-then-tolerance-gt1024000000.ensures) in
    record { value = q.0; output_after = q.1 }

pub slice_bounds-put_file-end : goal.slice_bounds-put_file-end
slice_bounds-put_file-end c =
    let long : length c.put_factors.new.output ≡ 64 = search rules in
    sym (length-take-le _ c.put_factors.new.output (omega (arith, long, c.requires.ready.few)))

pub put_file-len-requires : goal.put_file-len-requires
put_file-len-requires c =
    let taken : (take (length c.args.places.now) c.put_factors.new.output ≡ factors_of c.args.places.now c.args.csv.now) = factors_taken _ _ _ c.put_factors.ensures c.requires.ready.few (search rules) in
    let total_is : (c.total-total.result ≡ sum (factors_of c.args.places.now c.args.csv.now)) = c.total-total.ensures ∙ ap sum taken in
    record { ready = c.requires.ready; factors_value = taken; steps_value = c.steps_of-steps.ensures; tolerance_value = c.tolerance_for-tolerance.ensures ∙ rw total_is; file_limit_in_bounds = c.requires.file_limit_in_bounds }

pub returns : goal.returns
returns c =
    let taken : (take (length c.args.places.now) c.put_factors.new.output ≡ factors_of c.args.places.now c.args.csv.now) = factors_taken _ _ _ c.put_factors.ensures c.requires.ready.few (search rules) in
    let total_is : (c.total-total.result ≡ sum (factors_of c.args.places.now c.args.csv.now)) = c.total-total.ensures ∙ ap sum taken in
    let q = sheet_out _ _ _ total_is c.is_between.ensures c.if-not-is_between.false c.tolerance_for-tolerance.ensures c.if-tolerance-gt1024000000.false c.steps_of-steps.ensures
    c.put_file-len.ensures.value c.put_file-len.ensures.output_after in
    record { value = q.0; output_after = q.1 }
