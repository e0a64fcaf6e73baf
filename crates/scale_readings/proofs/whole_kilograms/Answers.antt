-- `scale_readings::whole_kilograms` meets its contract: the double is within the limit, so it has bits and a small exponent.
use borrow.Author.Rules.{sfits_of}
use mathlib.Core.Path.{◌≡◌, sym, subst, ap, ◌∙◌}
use Prim.Native.Nat.{ℕ, ◌^◌, ◌≤◌}
use native.Mathlib.Nat.{mod-lt}
use lib.Dec.{T, leb}
use lib.Pow.{pow_pos}
use lib.IntN.{nat_abs}
use mathlib.Core.Bool.{true}
use lib.Ieee.{Float, binary64, fits, to_bits}
use mir.Facts.{to_z-of_z}
use Rattle.rounding.specs.Rounding.{signed}
use Rattle.rounding.proofs.Signs.{abs_signed}
use Rattle.scale_readings.proofs.Patterns.{no_nan, exponent_fits, whole_is}
use mir.Syntax.{w64}
use Rattle.scale_readings.proofs.whole_kilograms.Goals as goal

-- a double of the machine is one of the format
held : (x : Float) → fits binary64 x ≡ true → T (fits binary64 x)
held x h = subst T (sym h) tt

pub float_to_bits-bits : goal.float_to_bits-bits
float_to_bits-bits c = no_nan c.args.x c.requires

pub rounded_magnitude-size-requires : goal.rounded_magnitude-size-requires
rounded_magnitude-size-requires c = (exponent_fits c.args.x (held c.args.x c.well_formed.0.1) c.requires, mod-lt (to_bits binary64 c.args.x) (pow_pos 52))

pub returns : goal.returns
returns c =
    let x = c.args.x in
    let n = c.rounded_magnitude-size.result in
    let e = to_z-of_z {w = w64} (sfits_of c.with_sign.type_inv) ∙ c.with_sign.ensures in (
      e ∙ ap (signed (leb (2 ^ 63) (to_bits binary64 x))) c.rounded_magnitude-size.ensures.0 ∙ whole_is x (held x c.well_formed.0.1) c.requires,
      subst (λ (k : ℕ). k ≤ 9007199254740992) (sym (ap nat_abs e ∙ abs_signed (leb (2 ^ 63) (to_bits binary64 x)) n)) c.rounded_magnitude-size.ensures.1,
    )
