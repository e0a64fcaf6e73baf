-- `text::Text::with_pair` meets its contract.
use Rattle.text.proofs.Texts.{adds_pair}
use Rattle.text.proofs.Text.with_pair.Goals as goal

pub returns : goal.returns
returns c =
    let x = c.args in
    let m = c.with_number-first.ensures in
    let n = c.with_number-second.ensures in
    let q = adds_pair x.a x.b c.with_bytes-begun.ensures (m.adds, m.len_bound) c.with_bytes-spaced.ensures (n.adds, n.len_bound) c.with_bytes.ensures in
    record { adds = q.0; len_bound = q.1 }
