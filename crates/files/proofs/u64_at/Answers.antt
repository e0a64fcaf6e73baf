-- `files::u64_at` meets its contract: the number in its two halves.
use native.Mathlib.Omega.{arith}
use Rattle.files.proofs.Numbers.{number_add}
use Rattle.files.proofs.u64_at.Goals as goal

pub returns : goal.returns
returns c = rw (number_add 4 4) (omega arith)
