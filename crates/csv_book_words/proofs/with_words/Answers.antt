-- `csv_book_words::with_words` meets its contract.
use mathlib.Core.Path.{ap}
use Rattle.csv_fleet_tokens.specs.Faults.{fault_number}
use Rattle.csv_book_words.proofs.Wording.{words_6, words_7}
use Rattle.csv_book_words.proofs.with_words.Goals as goal

pub returns-in-NotWhole-clause-adds : goal.returns-in-NotWhole-clause-adds
returns-in-NotWhole-clause-adds c = (words_6 _ _ _ _ (ap fault_number c.in-NotWhole.is) c.with_shown.ensures c.with_bytes.ensures).0

pub returns-in-OutOfRange-clause-adds : goal.returns-in-OutOfRange-clause-adds
returns-in-OutOfRange-clause-adds c = (words_7 _ _ _ _ (ap fault_number c.in-OutOfRange.is) c.with_shown-in-OutOfRange.ensures c.with_bytes-in-OutOfRange.ensures).0
