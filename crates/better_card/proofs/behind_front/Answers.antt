-- `better_card::behind_front` meets its contract.
use native.Mathlib.Omega.{arith}
use Rattle.better_card.proofs.Parts.{back_room, bare_by}
use Rattle.better_card.proofs.behind_front.Goals as goal

pub overflow_sub-result : goal.overflow_sub-result
overflow_sub-result c = omega (arith, back_room c.args.card.now c.requires c.u32_at-back.ensures)

pub returns : goal.returns
returns c = bare_by c.args.card.now c.requires c.u32_at-back.ensures _
