-- `numbered_files::name_of` meets its contract.
use Rattle.numbered_files.proofs.Names.{named}
use Rattle.numbered_files.proofs.name_of.Goals as goal

pub returns : goal.returns
returns c =
    let figures = c.with_number-counted.ensures in
    named _ c.empty.ensures c.with_bytes-begun.ensures (figures.adds, figures.len_bound) c.with_bytes.ensures
