-- `csv_fleet_reader::value_bits` meets its contract: a law of `Values` for each return.
use borrow.Author.Rules.{rules}
use Rattle.csv_fleet_reader.proofs.Values.{bits_negative, bits_plain}
use Rattle.csv_fleet_reader.proofs.value_bits.Goals as goal

pub returns-then-negative : goal.returns-then-negative
returns-then-negative c = search (rules, bits_negative)

pub returns : goal.returns
returns c = search (rules, bits_plain)
