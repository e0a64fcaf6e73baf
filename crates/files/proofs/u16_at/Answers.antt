-- `files::u16_at` meets its contract.
use native.Mathlib.Omega.{arith}
use Rattle.files.proofs.Numbers.{number_2}
use Rattle.files.proofs.u16_at.Goals as goal

pub returns : goal.returns
returns c = rw number_2 (omega arith)
