-- `files::book_body` meets its contract: the product of the counts read is that of the counts of the book.
use mathlib.Core.Path.{ap₂}
use Prim.Native.Nat.{◌*◌}
use native.Mathlib.Omega.{arith}
use Rattle.files.proofs.book_body.Goals as goal

pub overflow_mul-result : goal.overflow_mul-result
overflow_mul-result c = omega (arith, ap₂ ◌*◌ c.boats.ensures c.columns.ensures.value)

pub overflow_mul-result-2 : goal.overflow_mul-result-2
overflow_mul-result-2 c = omega (arith, ap₂ ◌*◌ c.boats.ensures c.columns.ensures.value)

pub overflow_sub-result-2 : goal.overflow_sub-result-2
overflow_sub-result-2 c = omega (arith, ap₂ ◌*◌ c.boats.ensures c.columns.ensures.value)

pub returns : goal.returns
returns c = omega (arith, ap₂ ◌*◌ c.boats.ensures c.columns.ensures.value)
