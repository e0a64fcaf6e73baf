-- `iteration::measured` meets its contract.
use mir.Facts.{to_z-of_z}
use borrow.Author.Rules.{rules, sfits_of}
use Rattle.iteration.proofs.Measuring.{measured_asks, measured_is}
use mir.Syntax.{w64}
use Rattle.iteration.proofs.measured.Goals as goal

pub answered-requires : goal.answered-requires
answered-requires c = measured_asks c.requires c.squared_norm-e.ensures c.inner_at-target_score.ensures (to_z-of_z {w = w64} (sfits_of c.inner_at-target_score.type_inv))

pub returns : goal.returns
returns c = measured_is c.requires c.squared_norm-e.ensures c.inner_at-target_score.ensures (to_z-of_z {w = w64} (sfits_of c.inner_at-target_score.type_inv)) c.args.test c.args.steps _ c.answered.ensures
