-- `refusal_details::names_all` meets its contract.
use Rattle.refusal_details.proofs.Lines.{faulty_names, other_rows, as_many_rows}
use borrow.Author.Rules.{rules}
use Rattle.csv_fleet_tokens.proofs.Faults.{positive}
use Rattle.refusal_details.proofs.names_all.Goals as goal

pub returns-then-is_some : goal.returns-then-is_some
returns-then-is_some c = faulty_names _ _ _ c.last_place-place.ensures (search (rules, positive))

pub returns-then-place-first_boat : goal.returns-then-place-first_boat
returns-then-place-first_boat c = search (rules, other_rows)

pub returns : goal.returns
returns c = search (rules, as_many_rows)
