-- `sums::wide_inner` meets its contract: its four blocks of 16 columns are added up.
use native.Mathlib.Omega.{arith}
use Rattle.sums.proofs.Blocks.{first_asks, next_asks, two_fit, three_fit, four_fit, four_are}
use Rattle.sums.proofs.wide_inner.Goals as goal

pub narrow_inner-first-requires : goal.narrow_inner-first-requires
narrow_inner-first-requires c = let q = first_asks c.requires.span c.requires.bounded.0 c.requires.bounded.1 16 (omega arith) in record { span = q.0; bounded = q.1 }

pub narrow_inner-second-requires : goal.narrow_inner-second-requires
narrow_inner-second-requires c = let q = next_asks c.requires.span c.requires.bounded.0 c.requires.bounded.1 16 16 (omega arith) in record { span = q.0; bounded = q.1 }

pub narrow_inner-third-requires : goal.narrow_inner-third-requires
narrow_inner-third-requires c = let q = next_asks c.requires.span c.requires.bounded.0 c.requires.bounded.1 32 16 (omega arith) in record { span = q.0; bounded = q.1 }

pub narrow_inner-fourth-requires : goal.narrow_inner-fourth-requires
narrow_inner-fourth-requires c = let q = next_asks c.requires.span c.requires.bounded.0 c.requires.bounded.1 48 16 (omega arith) in record { span = q.0; bounded = q.1 }

pub overflow_add-result : goal.overflow_add-result
overflow_add-result c = two_fit c.requires.span c.requires.bounded.0 c.requires.bounded.1 c.narrow_inner-first.ensures c.narrow_inner-second.ensures c.narrow_inner-third.ensures c.narrow_inner-fourth.ensures

pub overflow_add-result-2 : goal.overflow_add-result-2
overflow_add-result-2 c = three_fit c.requires.span c.requires.bounded.0 c.requires.bounded.1 c.narrow_inner-first.ensures c.narrow_inner-second.ensures c.narrow_inner-third.ensures c.narrow_inner-fourth.ensures

pub overflow_add-result-3 : goal.overflow_add-result-3
overflow_add-result-3 c = four_fit c.requires.span c.requires.bounded.0 c.requires.bounded.1 c.narrow_inner-first.ensures c.narrow_inner-second.ensures c.narrow_inner-third.ensures c.narrow_inner-fourth.ensures

pub returns : goal.returns
returns c = four_are c.requires.span c.requires.bounded.0 c.requires.bounded.1 c.narrow_inner-first.ensures c.narrow_inner-second.ensures c.narrow_inner-third.ensures c.narrow_inner-fourth.ensures
