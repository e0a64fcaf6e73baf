-- What a finding says whose fault is given by its number. Definitions only.
use Rattle.csv_book.specs.Books.{Made, nothing_made}
use Rattle.csv_book_text.specs.declared.NumberedFinding.{NumberedFinding}

abbrev pub by_number : NumberedFinding → Made
by_number f = nothing_made f.fault f.line f.field f.boats f.columns
