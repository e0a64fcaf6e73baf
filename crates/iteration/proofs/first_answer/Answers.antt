-- `iteration::first_answer` meets its contract.
use native.Mathlib.Omega.{arith}
use mir.Syntax.{w32}
use mir.Val.{to_z, of_z}
use Rattle.method.proofs.Schedules.{schedule_sized}
use Rattle.iteration.proofs.Steps.{scan_asks, least_right, product_there}
use Rattle.iteration.proofs.States.{book_fits}
use Rattle.iteration.proofs.First.{times_fits, times_read, pick_below, first_gives, share_most, first_moves, target_cast, least_size, first_answerable, first_right}
use borrow.Author.Rules.{rules}
use Rattle.iteration.proofs.first_answer.Goals as goal

pub products_of-target-requires : goal.products_of-target-requires
products_of-target-requires c =
    let S = schedule_sized _ c.requires.table_value in
    let h = pick_below _ _ c.requires.sheet_value S c.requires.boat_value in
    record { sheet_value = c.requires.sheet_value; layout_value = c.requires.layout_value; boat_bound = h; book_in_bounds = (book_fits _ _ c.requires.sheet_value).most_boats }

pub offset_bounds-products-boat : goal.offset_bounds-products-boat
offset_bounds-products-boat c =
    let S = schedule_sized _ c.requires.table_value in
    let h = pick_below _ _ c.requires.sheet_value S c.requires.boat_value in
    record { fits = omega (arith, h, (book_fits _ _ c.requires.sheet_value).most_boats) }

pub bounds-products-boat : goal.bounds-products-boat
bounds-products-boat c =
    let S = schedule_sized _ c.requires.table_value in
    let h = pick_below _ _ c.requires.sheet_value S c.requires.boat_value in
    omega (arith, h, (book_fits _ _ c.requires.sheet_value).most_boats)

pub least_product-pick-requires : goal.least_product-pick-requires
least_product-pick-requires c =
    let S = schedule_sized _ c.requires.table_value in
    let h = pick_below _ _ c.requires.sheet_value S c.requires.boat_value in
    scan_asks _ _ c.requires.sheet_value c.requires.layout_value h _ c.products_of-target.ensures.to_after

pub share-k-requires : goal.share-k-requires
share-k-requires c =
    let S = schedule_sized _ c.requires.table_value in
    let h = pick_below _ _ c.requires.sheet_value S c.requires.boat_value in
    first_gives _ _ c.requires.sheet_value S c.requires.boat_value

pub distance_after-e-requires : goal.distance_after-e-requires
distance_after-e-requires c =
    let S = schedule_sized _ c.requires.table_value in
    let h = pick_below _ _ c.requires.sheet_value S c.requires.boat_value in
    let own = product_there _ _ c.requires.sheet_value c.requires.layout_value h _ c.products_of-target.ensures.to_after h in
    record { k_bound = share_most _ _ c.requires.sheet_value S c.requires.boat_value c.share-k.ensures own c.products_of-target.ensures.value; moves = first_moves _ _ c.requires.sheet_value S c.requires.boat_value c.share-k.ensures own c.products_of-target.ensures.value }

pub overflow_cast-target_score : goal.overflow_cast-target_score
overflow_cast-target_score c =
    let S = schedule_sized _ c.requires.table_value in
    let h = pick_below _ _ c.requires.sheet_value S c.requires.boat_value in
    let own = product_there _ _ c.requires.sheet_value c.requires.layout_value h _ c.products_of-target.ensures.to_after h in
    target_cast _ _ c.requires.sheet_value S c.requires.boat_value c.share-k.ensures own c.products_of-target.ensures.value

pub overflow_mul-target_score : goal.overflow_mul-target_score
overflow_mul-target_score c =
    let S = schedule_sized _ c.requires.table_value in
    let h = pick_below _ _ c.requires.sheet_value S c.requires.boat_value in
    let own = product_there _ _ c.requires.sheet_value c.requires.layout_value h _ c.products_of-target.ensures.to_after h in
    times_fits (share_most _ _ c.requires.sheet_value S c.requires.boat_value c.share-k.ensures own c.products_of-target.ensures.value) (to_z w32 (of_z w32 c.products_of-target.result)) (first_moves _ _ c.requires.sheet_value S c.requires.boat_value c.share-k.ensures own c.products_of-target.ensures.value).target_size

pub overflow_mul-least : goal.overflow_mul-least
overflow_mul-least c =
    let S = schedule_sized _ c.requires.table_value in
    let h = pick_below _ _ c.requires.sheet_value S c.requires.boat_value in
    let own = product_there _ _ c.requires.sheet_value c.requires.layout_value h _ c.products_of-target.ensures.to_after h in
    let pick = least_right _ _ c.requires.sheet_value c.requires.layout_value h _ c.products_of-target.ensures.to_after c.least_product-pick.ensures in
    times_fits (share_most _ _ c.requires.sheet_value S c.requires.boat_value c.share-k.ensures own c.products_of-target.ensures.value) c.least_product-pick.result.score (least_size _ _ c.requires.sheet_value S c.requires.boat_value c.share-k.ensures own c.products_of-target.ensures.value pick)

pub answered-requires : goal.answered-requires
answered-requires c =
    let S = schedule_sized _ c.requires.table_value in
    let h = pick_below _ _ c.requires.sheet_value S c.requires.boat_value in
    let own = product_there _ _ c.requires.sheet_value c.requires.layout_value h _ c.products_of-target.ensures.to_after h in
    let pick = least_right _ _ c.requires.sheet_value c.requires.layout_value h _ c.products_of-target.ensures.to_after c.least_product-pick.ensures in
    let few = share_most _ _ c.requires.sheet_value S c.requires.boat_value c.share-k.ensures own c.products_of-target.ensures.value in
    let target = times_read few (to_z w32 (of_z w32 c.products_of-target.result)) (first_moves _ _ c.requires.sheet_value S c.requires.boat_value c.share-k.ensures own c.products_of-target.ensures.value).target_size in
    let score = times_read few c.least_product-pick.result.score (least_size _ _ c.requires.sheet_value S c.requires.boat_value c.share-k.ensures own c.products_of-target.ensures.value pick) in
    first_answerable _ _ c.requires.sheet_value S c.requires.boat_value c.share-k.ensures own c.products_of-target.ensures.value c.distance_after-e.ensures target pick score

pub returns : goal.returns
returns c =
    let S = schedule_sized _ c.requires.table_value in
    let h = pick_below _ _ c.requires.sheet_value S c.requires.boat_value in
    let own = product_there _ _ c.requires.sheet_value c.requires.layout_value h _ c.products_of-target.ensures.to_after h in
    let pick = least_right _ _ c.requires.sheet_value c.requires.layout_value h _ c.products_of-target.ensures.to_after c.least_product-pick.ensures in
    let few = share_most _ _ c.requires.sheet_value S c.requires.boat_value c.share-k.ensures own c.products_of-target.ensures.value in
    let target = times_read few (to_z w32 (of_z w32 c.products_of-target.result)) (first_moves _ _ c.requires.sheet_value S c.requires.boat_value c.share-k.ensures own c.products_of-target.ensures.value).target_size in
    let score = times_read few c.least_product-pick.result.score (least_size _ _ c.requires.sheet_value S c.requires.boat_value c.share-k.ensures own c.products_of-target.ensures.value pick) in
    first_right _ _ c.requires.sheet_value S c.requires.boat_value c.share-k.ensures own c.products_of-target.ensures.value c.distance_after-e.ensures target pick score c.answered.ensures
