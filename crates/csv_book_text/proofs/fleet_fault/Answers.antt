-- `csv_book_text::fleet_fault` meets its contract.
use Rattle.csv_book_text.proofs.fleet_fault.Goals as goal

pub returns : goal.returns
returns c = rw (← c.worded.ensures c.args.csv.now c.args.finding.line c.args.finding.field c.args.finding.boats c.args.finding.columns) c.known_fault.ensures
