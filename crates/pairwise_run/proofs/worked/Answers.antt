-- `pairwise_run::worked` meets its contract.
use Rattle.method.proofs.Accepted.{files_ok}
use Rattle.pairwise.specs.Call.{set_terms}
use Rattle.pairwise_run.proofs.Limited.{unlimited}
use Rattle.pairwise_run.proofs.worked.Goals as goal

pub fleet_worked-requires : goal.fleet_worked-requires
fleet_worked-requires c = files_ok (set_terms c.args.released) _ _ c.requires

pub returns : goal.returns
returns c = unlimited c.args.released _ _ c.if-released.false _ c.fleet_worked.ensures
