-- `text::Text::with_number` meets its contract.
use native.Mathlib.Omega.{arith}
use Rattle.text.proofs.Texts.{adds_number}
use Rattle.text.proofs.Text.with_number.Goals as goal

pub slice_bounds-with_bytes-end : goal.slice_bounds-with_bytes-end
slice_bounds-with_bytes-end c = omega arith

pub returns : goal.returns
returns c = let q = adds_number c.figures_of-f.ensures c.with_bytes.ensures in record { adds = q.0; len_bound = q.1 }
