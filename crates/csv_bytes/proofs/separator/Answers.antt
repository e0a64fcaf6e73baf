-- `csv_bytes::separator` meets its contract. The loop keeps `Looking`: what is left of the text decides as the whole does.
-- A turn reads one byte.
-- It ends: the bytes that are left fall by one.
use borrow.Author.Rules.{rules}
use mathlib.Core.Path.{ap}
use Rattle.csv_bytes.specs.Tokens.{reading_number}
use Rattle.csv_bytes.specs.declared.Reading.TheVariants.{Behind}
use Rattle.csv_bytes.proofs.Looking.{looking_start, looking_more, looking_over, looking_end}
use Rattle.csv_bytes.proofs.separator.Goals as goal

pub loop-i-init : goal.loop-i-init
loop-i-init c = looking_start c.mark_size-i.ensures

pub returns-then-eq : goal.returns-then-eq
returns-then-eq c =
    looking_over c.loop-i.invariant c.loop-i-test.true c.as_comma.ensures c.read_byte-step.ensures c.best_after-best.ensures c.known_after-known.ensures
    (ap reading_number {y = Behind} (search rules)) c.chosen.ensures

pub loop-i-preserved : goal.loop-i-preserved
loop-i-preserved c =
    looking_more c.loop-i.invariant c.loop-i-test.true c.as_comma.ensures c.read_byte-step.ensures c.best_after-best.ensures c.known_after-known.ensures

pub returns : goal.returns
returns c = search (rules, looking_end)
