-- `csv_sheet_text::sheet_fault` meets its contract.
use mathlib.Core.Path.{refl}
use Rattle.csv_sheet_text.specs.Numbered.{by_number}
use Rattle.csv_sheet_text.proofs.Unnamed.{told_none}
use Rattle.csv_sheet_text.proofs.sheet_fault.Goals as goal

pub returns-in-Some : goal.returns-in-Some
returns-in-Some c = rw (c.in-Some.ensures.known) at c.known_fault.ensures

pub returns-in-None : goal.returns-in-None
returns-in-None c = rw (← told_none _ c.in-None.ensures.unknown _ _ (by_number c.args.finding) refl) c.no_fault.ensures
