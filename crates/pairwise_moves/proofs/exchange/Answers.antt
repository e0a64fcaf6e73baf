-- `pairwise_moves::exchange` meets its contract.
use mathlib.Core.Path.{refl}
use Rattle.pairwise.specs.Moves.{exchange}
use Rattle.pairwise_moves.proofs.exchange.Goals as goal

pub returns : goal.returns
unfolding exchange
returns c = refl
