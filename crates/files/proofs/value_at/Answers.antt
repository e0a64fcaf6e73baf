-- `files::value_at` meets its contract.
use mathlib.Core.Path.{◌∙◌, ap}
use mir.Facts.{to_z-of_z}
use borrow.Author.Rules.{rules}
use Rattle.files.specs.Bytes.{value}
use Rattle.files.proofs.Values.{value_shifted, value_fits}
use Rattle.files.proofs.value_at.Goals as goal

pub overflow_sub-result : goal.overflow_sub-result
overflow_sub-result c = rw (value_shifted c.u16_at.result (search rules)) (value_fits _)

pub returns : goal.returns
returns c = to_z-of_z (overflow_sub-result c) ∙ value_shifted c.u16_at.result (search rules) ∙ ap value c.u16_at.ensures.value
