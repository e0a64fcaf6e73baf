-- `text::Text::with_line` meets its contract.
use Rattle.text.proofs.Texts.{adds_line}
use Rattle.text.proofs.Text.with_line.Goals as goal

pub returns : goal.returns
returns c =
    let n = c.with_number-numbered.ensures in
    let q = adds_line c.args.a c.with_bytes-begun.ensures (n.adds, n.len_bound) c.with_bytes.ensures in
    record { adds = q.0; len_bound = q.1 }
