-- `better_card::nearer` meets its contract.
use native.Mathlib.Omega.{arith}
use Rattle.better_card.proofs.Parts.{squares_fit, nearer_by}
use borrow.Author.Rules.{rules}
use Rattle.better_card.proofs.nearer.Goals as goal

pub overflow_mul-w : goal.overflow_mul-w
overflow_mul-w c = let h = squares_fit c.args.a c.args.b (search rules) (search rules) in omega arith

pub overflow_mul-v : goal.overflow_mul-v
overflow_mul-v c = let h = squares_fit c.args.a c.args.b (search rules) (search rules) in omega arith

pub returns : goal.returns
returns c = nearer_by _ _ c.product_below.ensures
