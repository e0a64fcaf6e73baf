-- `scale_conversion::net_outcome` meets its contract: a law of `Outcomes` for each return.
use borrow.Author.Rules.{sfits_of}
use mathlib.Core.Path.{◌≡◌, sym, ◌∙◌}
use mathlib.Core.Bool.{true}
use native.Mathlib.Omega.{arith}
use mir.Syntax.{w64}
use mir.Val.{to_z, of_z}
use mir.Facts.{to_z-of_z}
use Rattle.files.specs.Bytes.{between}
use Rattle.files.proofs.Refusal.{between_true}
use Rattle.scale_readings.specs.Readings.{within_limit}
use Rattle.scale_cells.specs.Cells.{cell_value}
use Rattle.scale_conversion.specs.Outcomes.{net_cell}
use Rattle.scale_conversion.proofs.Outcomes.{kilograms_small, net_beyond, unit_outside, value_is, value_low, value_high, value_fits, value_inside}
use Rattle.scale_conversion.proofs.net_outcome.Goals as goal

pub returns-then-not-is_within_limit : goal.returns-then-not-is_within_limit
returns-then-not-is_within_limit c = net_beyond _ _ (sym c.is_within_limit.ensures ∙ c.if-not-is_within_limit.true)

pub returns-then-not-is_between : goal.returns-then-not-is_between
returns-then-not-is_between c =
    let limit-passed : within_limit c.args.net ≡ true = sym c.is_within_limit.ensures ∙ c.if-not-is_within_limit.false in
    unit_outside _ _ limit-passed (sym c.is_between.ensures ∙ c.if-not-is_between.true)

pub whole_kilograms-requires : goal.whole_kilograms-requires
whole_kilograms-requires c =
    let limit-passed : within_limit c.args.net ≡ true = sym c.is_within_limit.ensures ∙ c.if-not-is_within_limit.false in
    limit-passed

pub rounded-value-requires : goal.rounded-value-requires
rounded-value-requires c =
    let unit-passed : (between 1 10000 c.args.unit ≡ true) = sym c.is_between.ensures ∙ c.if-not-is_between.false in
    (omega (arith, (between_true 1 10000 _ unit-passed).0), kilograms_small c.whole_kilograms.result c.whole_kilograms.ensures.1)

pub returns-then-value-ltminus2000 : goal.returns-then-value-ltminus2000
returns-then-value-ltminus2000 c =
    let limit-passed : within_limit c.args.net ≡ true = sym c.is_within_limit.ensures ∙ c.if-not-is_within_limit.false in
    let value : (let a = c.args in to_z w64 (of_z w64 c.rounded-value.result) ≡ cell_value (net_cell a.net a.unit)) = to_z-of_z {w = w64} (sfits_of c.rounded-value.type_inv) ∙ value_is _ _ (to_z-of_z {w = w64} (sfits_of c.whole_kilograms.type_inv) ∙ c.whole_kilograms.ensures.0) c.rounded-value.ensures in
    value_low _ _ limit-passed value c.if-value-ltminus2000.true

pub returns-then-value-gt2000 : goal.returns-then-value-gt2000
returns-then-value-gt2000 c =
    let limit-passed : within_limit c.args.net ≡ true = sym c.is_within_limit.ensures ∙ c.if-not-is_within_limit.false in
    let value : (let a = c.args in to_z w64 (of_z w64 c.rounded-value.result) ≡ cell_value (net_cell a.net a.unit)) = to_z-of_z {w = w64} (sfits_of c.rounded-value.type_inv) ∙ value_is _ _ (to_z-of_z {w = w64} (sfits_of c.whole_kilograms.type_inv) ∙ c.whole_kilograms.ensures.0) c.rounded-value.ensures in
    value_high _ _ limit-passed value c.if-value-gt2000.true

pub overflow_cast-result : goal.overflow_cast-result
overflow_cast-result c =
    let limit-passed : within_limit c.args.net ≡ true = sym c.is_within_limit.ensures ∙ c.if-not-is_within_limit.false in
    let value : (let a = c.args in to_z w64 (of_z w64 c.rounded-value.result) ≡ cell_value (net_cell a.net a.unit)) = to_z-of_z {w = w64} (sfits_of c.rounded-value.type_inv) ∙ value_is _ _ (to_z-of_z {w = w64} (sfits_of c.whole_kilograms.type_inv) ∙ c.whole_kilograms.ensures.0) c.rounded-value.ensures in
    value_fits _ _ limit-passed value c.if-value-ltminus2000.false c.if-value-gt2000.false

pub returns : goal.returns
returns c =
    let limit-passed : within_limit c.args.net ≡ true = sym c.is_within_limit.ensures ∙ c.if-not-is_within_limit.false in
    let unit-passed : (between 1 10000 c.args.unit ≡ true) = sym c.is_between.ensures ∙ c.if-not-is_between.false in
    let value : (let a = c.args in to_z w64 (of_z w64 c.rounded-value.result) ≡ cell_value (net_cell a.net a.unit)) = to_z-of_z {w = w64} (sfits_of c.rounded-value.type_inv) ∙ value_is _ _ (to_z-of_z {w = w64} (sfits_of c.whole_kilograms.type_inv) ∙ c.whole_kilograms.ensures.0) c.rounded-value.ensures in
    value_inside _ _ limit-passed value c.if-value-ltminus2000.false c.if-value-gt2000.false unit-passed
