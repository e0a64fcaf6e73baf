-- `test_card_printing::print_written` meets its contract.
use mathlib.Core.Path.{sym, ap}
use Rattle.card_format.specs.Written.{written_by}
use Rattle.card_format.specs.Filing.{written_size}
use Rattle.test_card_printing.proofs.print_written.Goals as goal

pub returns-in-Err : goal.returns-in-Err
unfolding written_size
returns-in-Err c = ap (λ x. written_size (written_by x)) (sym c.in-Err.is)

pub returns-in-Ok : goal.returns-in-Ok
unfolding written_size
returns-in-Ok c = ap (λ x. written_size (written_by x)) (sym c.in-Ok.is)
