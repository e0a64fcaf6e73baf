-- `csv_book_words::with_front` meets its contract.
use Rattle.csv_book_words.specs.Words.{front_line}
use Rattle.csv_book_words.proofs.Wording.{front_whole, front_names, front_nothing}
use Rattle.csv_book_words.proofs.with_front.Goals as goal

pub returns-in-Whole : goal.returns-in-Whole
unfolding front_line
returns-in-Whole c = front_whole c.in-Whole.is c.with_bytes.ensures

pub returns-in-Names : goal.returns-in-Names
unfolding front_line
returns-in-Names c = front_names c.in-Names.is c.with_bytes-in-Names.ensures

pub returns-in-Nothing : goal.returns-in-Nothing
unfolding front_line
returns-in-Nothing c = front_nothing c.in-Nothing.is c.with_bytes-in-Nothing.ensures
