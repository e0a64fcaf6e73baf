-- `queue_rounds::serve_all` meets its contract.
use mathlib.Core.Path.{refl}
use native.Mathlib.Omega.{arith}
use Rattle.files.proofs.Accepted.{files_accepted}
use Rattle.queue_rounds.proofs.Works.{boats_few, rest_both}
use Rattle.queue_rounds.proofs.Ends.{start_rest, start_works}
use Rattle.queue_rounds.proofs.serve_all.Goals as goal

pub boats-requires : goal.boats-requires
boats-requires c = (files_accepted _ _ (c.requires.accepted.each 0 c.requires.accepted.some)).0.at_least

pub clear_parts-requires : goal.clear_parts-requires
clear_parts-requires c = (omega (arith, c.boats.ensures, boats_few c.requires.accepted {i = 0} c.requires.accepted.some), c.requires.count_le_allowance.1)

pub start_all-states-requires : goal.start_all-states-requires
start_all-states-requires c = c.requires.accepted

pub serve-requires : goal.serve-requires
serve-requires c = record { working = start_works c.requires.accepted _ c.requires.count_le_allowance.1 c.boats.ensures c.clear_parts.ensures _ c.start_all-states.ensures; used_value = (refl, c.requires.count_le_allowance.0) }

pub shape_of-shares : goal.shape_of-shares
shape_of-shares c = (rest_both (start_rest c.requires.accepted _ c.requires.count_le_allowance.1 c.boats.ensures c.clear_parts.ensures) c.serve.ensures.same_rest).long

pub returns : goal.returns
returns c = record { served_all = c.serve.ensures.served_all; same_rest = rest_both (start_rest c.requires.accepted _ c.requires.count_le_allowance.1 c.boats.ensures c.clear_parts.ensures) c.serve.ensures.same_rest }
