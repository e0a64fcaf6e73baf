-- `csv_book_text::worded` meets its contract.
use mathlib.Core.Path.{ap}
use Rattle.csv_book.specs.Books.{nothing_made}
use Rattle.csv_book_text.specs.Faults.{fleet_fault}
use Rattle.csv_book_text.proofs.Unnamed.{told_same}
use Rattle.csv_book_text.proofs.worded.Goals as goal

pub returns-in-Some : goal.returns-in-Some
returns-in-Some c = λ csv line field boats columns. ap (λ f. fleet_fault csv (nothing_made f line field boats columns)) c.in-Some.ensures.known

pub returns-in-None : goal.returns-in-None
returns-in-None c = told_same _ c.in-None.ensures.unknown
