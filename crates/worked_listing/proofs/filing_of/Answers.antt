-- `worked_listing::filing_of` meets its contract.
use mathlib.Core.Path.{sym, ap}
use lib.Seq.{length-take-le}
use Rattle.card_format.specs.Written.{written}
use Rattle.worked_listing.proofs.Working.{refused_said, size_fits, filed_said}
use Rattle.worked_listing.proofs.filing_of.Goals as goal

pub slice_bounds-judged_text-end : goal.slice_bounds-judged_text-end
slice_bounds-judged_text-end c = sym (length-take-le _ c.args.buffer.now (size_fits _ _ (ap written c.in-Ok.is) c.requires.written_in_bounds))

pub judged_text-requires : goal.judged_text-requires
judged_text-requires c = c.requires.served _ _ (ap written c.in-Ok.is)

pub returns-in-Err : goal.returns-in-Err
returns-in-Err c = refused_said _ _ _ _ (ap written c.in-Err.is) c.reason_listing.ensures

pub returns-in-Ok : goal.returns-in-Ok
returns-in-Ok c = filed_said _ _ c.args.buffer.now _ _ (ap written c.in-Ok.is) c.judged_text.ensures
