-- `test_card_printing::written` meets its contract.
use mathlib.Core.Path.{◌≡◌, refl, ap, ◌∙◌}
use native.Mathlib.Nat.{sub-zero}
use borrow.Author.Tests.{le-leb, lt-leb}
use lib.ListN.{length, take}
use lib.Seq.{length-take-le}
use Rattle.card_format.specs.Filing.{written_size}
use Rattle.test_card_printing.proofs.written.Goals as goal

pub returns-then-buffer-room : goal.returns-then-buffer-room
returns-then-buffer-room c = rw (lt-leb _ _ c.if-buffer-room.true) (record { value = refl; buffer_after = refl })

pub returns : goal.returns
returns c =
    let x = c.args in
    let l : length (take x.room x.buffer.now) ≡ x.room = length-take-le x.room x.buffer.now c.if-buffer-room.false in
    let v = rw (sub-zero, l) at c.write_card.ensures.value in
    let o = rw (sub-zero, l) at c.write_card.ensures.output_after in
    rw (le-leb _ _ c.if-buffer-room.false, sub-zero) (record { value = c.print_filed.ensures ∙ ap written_size v; buffer_after = rw o })
