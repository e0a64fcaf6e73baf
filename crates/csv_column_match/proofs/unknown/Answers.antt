-- `csv_column_match::unknown` meets its contract: columns 1 to j are columns of the fleet.
use borrow.Author.Rules.{rules}
use native.Mathlib.Omega.{arith}
use Rattle.csv_column_match.proofs.Mismatches.{unknown_start, unknown_found, unknown_passed, unknown_end}
use Rattle.csv_column_match.proofs.unknown.Goals as goal

pub loop-j-init : goal.loop-j-init
loop-j-init c = (omega arith, λ fleet csv h k. unknown_start _ fleet csv)

pub same_column-requires : goal.same_column-requires
same_column-requires c = record { room = search rules; room_2 = search rules; j_bound = search rules; n_bound = search rules }

pub returns-then-same_column-eq0 : goal.returns-then-same_column-eq0
returns-then-same_column-eq0 c = λ fleet csv h k. unknown_found _ fleet csv _ (c.loop-j.invariant.1 fleet csv h k) (c.same_column.ensures.by_index csv fleet k h) _ c.loop-j-test.true c.if-same_column-eq0.true

pub loop-j-preserved : goal.loop-j-preserved
loop-j-preserved c = (omega arith, λ fleet csv h k. unknown_passed _ fleet csv _ (c.loop-j.invariant.1 fleet csv h k) (c.same_column.ensures.by_index csv fleet k h) c.if-same_column-eq0.false)

pub returns : goal.returns
returns c = λ fleet csv h k. unknown_end _ fleet csv _ _ c.loop-j.invariant.0 c.loop-j-test.false (c.loop-j.invariant.1 fleet csv h k)
