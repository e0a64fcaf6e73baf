-- `csv_sheet_words::no_fault` meets its contract.
use Rattle.csv_sheet_words.proofs.Wording.{none_told}
use Rattle.csv_sheet_words.proofs.no_fault.Goals as goal

pub returns : goal.returns
returns c = none_told _ c.empty-empty.ensures c.with_bytes-begun.ensures c.with_place-placed.ensures.adds c.with_bytes.ensures
