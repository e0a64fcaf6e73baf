-- `csv_column_match::mismatch_in` meets its contract: a law for each return.
use borrow.Author.Rules.{rules}
use mathlib.Core.Path.{refl}
use Rattle.csv_fleet_tokens.proofs.Faults.{positive}
use Rattle.csv_column_match.proofs.Mismatches.{in_fleet, in_sheet, in_none, passed_on}
use Rattle.csv_column_match.proofs.mismatch_in.Goals as goal

pub fleet_mismatch-requires : goal.fleet_mismatch-requires
fleet_mismatch-requires c = record { room = search rules; room_2 = search rules; m_bound = search rules; n_bound = search rules }

pub returns-in_err-fleet_mismatch : goal.returns-in_err-fleet_mismatch
returns-in_err-fleet_mismatch c = λ fleet csv h k. passed_on _ _ c.from_residual.ensures (in_fleet _ _ fleet csv (c.in_err-fleet_mismatch.ensures fleet csv h k) (positive _))

pub unknown-column-requires : goal.unknown-column-requires
unknown-column-requires c = record { room = search rules; room_2 = search rules; m_bound = search rules; n_bound = search rules }

pub returns-then-column-ne0 : goal.returns-then-column-ne0
returns-then-column-ne0 c = λ fleet csv h k. in_sheet _ _ fleet csv (c.in_ok-fleet_mismatch.ensures fleet csv h k) refl (c.unknown-column.ensures fleet csv h k) c.if-column-ne0.true

pub returns : goal.returns
returns c = λ fleet csv h k. in_none _ _ fleet csv (c.in_ok-fleet_mismatch.ensures fleet csv h k) refl (c.unknown-column.ensures fleet csv h k) c.if-column-ne0.false refl
