-- `files::u32_at` meets its contract: the number in its two halves.
use native.Mathlib.Omega.{arith}
use Rattle.files.proofs.Numbers.{number_add}
use Rattle.files.proofs.u32_at.Goals as goal

pub returns : goal.returns
returns c = rw (number_add 2 2) (omega arith)
