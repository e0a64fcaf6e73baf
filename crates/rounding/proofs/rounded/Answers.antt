-- `rounding::rounded` meets its contract.
use mathlib.Core.Path.{◌∙◌}
use borrow.Author.Rules.{sfits_of}
use mir.Syntax.{w64}
use mir.Facts.{to_z-of_z}
use Rattle.rounding.proofs.Signs.{taken_fits, size_below, size_above, cast, size_small, rounding_small, returned_below, returned_above}
use Rattle.rounding.proofs.rounded.Goals as goal

pub overflow_sub-n : goal.overflow_sub-n
overflow_sub-n c = taken_fits c.args.n c.requires.1

pub overflow_cast-n : goal.overflow_cast-n
overflow_cast-n c =
    let n = c.args.n in
    let h = c.requires.1 in
    cast n h (size_below n h c.if-n-lt0.true)

pub half_even-requires : goal.half_even-requires
half_even-requires c =
    let n = c.args.n in
    let h = c.requires.1 in
    (c.requires.0, size_small n h (size_below n h c.if-n-lt0.true))

pub with_sign-requires : goal.with_sign-requires
with_sign-requires c =
    let n = c.args.n in
    let h = c.requires.1 in
    rounding_small n h (size_below n h c.if-n-lt0.true) c.half_even.ensures.1

pub returns-then-n-lt0 : goal.returns-then-n-lt0
returns-then-n-lt0 c =
    let n = c.args.n in
    let h = c.requires.1 in
    to_z-of_z {w = w64} (sfits_of c.with_sign.type_inv)
    ∙ returned_below n h c.args.d (size_below n h c.if-n-lt0.true) _ c.half_even.ensures.0 c.if-n-lt0.true c.with_sign.ensures

pub overflow_cast-n-2 : goal.overflow_cast-n-2
overflow_cast-n-2 c =
    let n = c.args.n in
    let h = c.requires.1 in
    cast n h (size_above n h c.if-n-lt0.false)

pub half_even-requires-2 : goal.half_even-requires-2
half_even-requires-2 c =
    let n = c.args.n in
    let h = c.requires.1 in
    (c.requires.0, size_small n h (size_above n h c.if-n-lt0.false))

pub with_sign-requires-2 : goal.with_sign-requires-2
with_sign-requires-2 c =
    let n = c.args.n in
    let h = c.requires.1 in
    rounding_small n h (size_above n h c.if-n-lt0.false) c.half_even-2.ensures.1

pub returns : goal.returns
returns c =
    let n = c.args.n in
    let h = c.requires.1 in
    to_z-of_z {w = w64} (sfits_of c.with_sign-2.type_inv)
    ∙ returned_above n h c.args.d (size_above n h c.if-n-lt0.false) _ c.half_even-2.ensures.0 c.if-n-lt0.false c.with_sign-2.ensures
