-- `sums::padded_inner` meets its contract.
use mathlib.Core.Path.{◌∙◌}
use mir.Facts.{to_z-of_z}
use borrow.Author.Rules.{sfits_of}
use Rattle.sums.proofs.Blocks.{multipliable, padded_asks, padded_is}
use mir.Syntax.{w32}
use Rattle.sums.proofs.padded_inner.Goals as goal

pub wide_inner-requires : goal.wide_inner-requires
wide_inner-requires c = let q = padded_asks c.requires.span c.requires.padded.0 c.requires.padded.1 c.if-at-bytes.true in record { span = q.0; bounded = q.1 }

pub returns-then-at-bytes : goal.returns-then-at-bytes
returns-then-at-bytes c = to_z-of_z {w = w32} (sfits_of c.wide_inner.type_inv) ∙ c.wide_inner.ensures ∙ padded_is c.requires.span c.requires.padded.0 c.requires.padded.1

pub narrow_inner-requires : goal.narrow_inner-requires
narrow_inner-requires c = record { span = c.requires.span; bounded = (c.requires.padded.0.entries, multipliable c.requires.padded.0.entries c.requires.padded.1) }
