-- `text::Text::with_bytes` meets its contract.
use borrow.Author.Rules.{rules}
use native.Mathlib.Omega.{arith}
use mathlib.Core.Path.{◌≡◌, refl}
use lib.ListN.{length}
use Rattle.text.specs.Texts.{text_limit}
use Rattle.text.proofs.Texts.{adds_placed}
use Rattle.text.proofs.Text.with_bytes.Goals as goal

pub put_bytes-requires : goal.put_bytes-requires
put_bytes-requires c =
    let l : length c.args.self.bytes ≡ text_limit = search rules in
    omega (arith, c.requires)

pub returns : goal.returns
returns c =
    let l : length c.args.self.bytes ≡ text_limit = search rules in
    adds_placed c.requires l c.put_bytes.ensures refl
