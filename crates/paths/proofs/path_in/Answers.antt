-- `paths::path_in` meets its contract.
use native.Mathlib.Omega.{arith}
use borrow.Author.Rules.{rules}
use Rattle.paths.proofs.Paths.{in_current, in_folder}
use Rattle.paths.proofs.path_in.Goals as goal

pub returns-then-folder-eq0 : goal.returns-then-folder-eq0
returns-then-folder-eq0 c = in_current _ _ (omega arith) c.joined.ensures

pub returns : goal.returns
returns c = in_folder _ _ (omega arith) c.joined-2.ensures
