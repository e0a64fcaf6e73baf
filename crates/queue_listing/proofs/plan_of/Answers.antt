-- `queue_listing::plan_of` meets its contract: the first lengths are those that are given.
use mathlib.Core.Path.{refl}
use Rattle.queue_listing.proofs.Listing.{few_planned, many_planned}
use Rattle.queue_listing.proofs.plan_of.Goals as goal

pub returns-then-count-gt-MOST_SHEETS : goal.returns-then-count-gt-MOST_SHEETS
returns-then-count-gt-MOST_SHEETS c = many_planned c.if-count-gt-MOST_SHEETS.true refl

pub returns : goal.returns
returns c = few_planned c.if-count-gt-MOST_SHEETS.false c.copy_from_slice.ensures.after
