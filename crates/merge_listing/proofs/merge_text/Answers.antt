-- `merge_listing::merge_text` meets its contract.
use mathlib.Core.Path.{refl}
use Rattle.merge_listing.proofs.Listings.{merge_listed, reason_listed}
use Rattle.merge_listing.proofs.merge_text.Goals as goal

pub merge_known-merged-requires : goal.merge_known-merged-requires
merge_known-merged-requires c = c.book_refusal-of_first.ensures

pub book_line-text-requires : goal.book_line-text-requires
book_line-text-requires c = (c.in-Ok.ensures.merge_right.wrote refl).accepted

pub returns-in-Ok-clause-holds : goal.returns-in-Ok-clause-holds
returns-in-Ok-clause-holds c = merge_listed _ _ _ c.in-Ok.ensures.value c.merge_known-merged.ensures.output_after c.book_line-text.ensures

pub returns-in-Err-clause-holds : goal.returns-in-Err-clause-holds
returns-in-Err-clause-holds c = reason_listed _ _ c.in-Err.refusal c.in-Err.ensures.value c.empty.ensures (rw c.number.ensures at c.with_line-text.ensures.adds)
