-- `csv_front_text::put_names` meets its contract: `Naming` is the loop's invariant.
use Rattle.csv_front_text.proofs.Keeping.{Naming}
use Rattle.csv_fleet_tokens.specs.Table.{numbered}
use Rattle.csv_front_text.proofs.put_names.Given as goal

abbrev pub invariant-loop-i : goal.invariant-loop-i
invariant-loop-i l = Naming l.csv l.initial.output l.separator (numbered l.table) l.mode l.n l.i l.output
