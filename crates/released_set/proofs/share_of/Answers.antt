-- `released_set::share_of` meets its contract.
use Rattle.released_set.proofs.share_of.Goals as goal

pub returns-then-used : goal.returns-then-used
returns-then-used c = simp c.if-used.true
