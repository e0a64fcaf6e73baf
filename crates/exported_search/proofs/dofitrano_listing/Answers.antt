-- `exported_search::dofitrano_listing` meets its contract.
use Rattle.exported_search.proofs.Putting.{as_long, inside, left_alone, put, listed}
use borrow.Author.Rules.{rules}
use native.Mathlib.Omega.{arith}
use Rattle.exported_search.proofs.dofitrano_listing.Goals as goal

pub returns-then-output-count : goal.returns-then-output-count
returns-then-output-count c =
    let q = listed _ _ c.search_listing.ensures.holds _ (left_alone c.search_listing.ensures.holds _ c.if-output-count.true) c.search_listing.ensures.outcome_right in
    record { value = q.0; output_after = q.1.0; outcome_right = q.1.1 }

pub slice_bounds-bytes-end : goal.slice_bounds-bytes-end
slice_bounds-bytes-end c = inside c.search_listing.ensures.holds

pub slice_bounds-put_bytes-end : goal.slice_bounds-put_bytes-end
slice_bounds-put_bytes-end c = as_long c.search_listing.ensures.holds

pub put_bytes-requires : goal.put_bytes-requires
put_bytes-requires c = omega (arith, as_long c.search_listing.ensures.holds, c.if-output-count.false)

pub returns : goal.returns
returns c =
    let q = listed _ _ c.search_listing.ensures.holds _ (put c.search_listing.ensures.holds _ c.if-output-count.false c.put_bytes.ensures) c.search_listing.ensures.outcome_right in
    record { value = q.0; output_after = q.1.0; outcome_right = q.1.1 }
