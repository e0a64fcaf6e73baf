-- `csv_column_match::fleet_mismatch` meets its contract: columns 1 to j have no mismatch.
use borrow.Author.Rules.{rules}
use mathlib.Core.Path.{refl}
use Rattle.csv_fleet_tokens.proofs.Faults.{positive}
use native.Mathlib.Omega.{arith}
use Rattle.csv_column_match.proofs.Mismatches.{fleet_start, fleet_found, fleet_passed, fleet_end, passed_on}
use Rattle.csv_column_match.proofs.fleet_mismatch.Goals as goal

pub loop-j-init : goal.loop-j-init
loop-j-init c = (omega arith, λ fleet csv h k. fleet_start _ fleet csv)

pub column_mismatch-requires : goal.column_mismatch-requires
column_mismatch-requires c = record { room = search rules; room_2 = search rules; j_nonzero = search rules; j_bound = search rules; n_bound = search rules }

pub returns-in_err-column_mismatch : goal.returns-in_err-column_mismatch
returns-in_err-column_mismatch c = λ fleet csv h k. passed_on _ _ c.from_residual.ensures (fleet_found _ fleet csv _ (c.loop-j.invariant.1 fleet csv h k) (c.in_err-column_mismatch.ensures fleet csv h k) _ c.loop-j-test.true (positive _))

pub loop-j-preserved : goal.loop-j-preserved
loop-j-preserved c = (omega arith, λ fleet csv h k. fleet_passed _ fleet csv _ (c.loop-j.invariant.1 fleet csv h k) (c.in_ok-column_mismatch.ensures fleet csv h k) refl)

pub returns : goal.returns
returns c = λ fleet csv h k. fleet_end _ fleet csv _ _ c.loop-j.invariant.0 c.loop-j-test.false (c.loop-j.invariant.1 fleet csv h k) refl
