-- `sheet_turn::derived_turn` meets its contract: what holds on the files of the plain twin holds on the bytes that are derived.
use mathlib.Core.Path.{refl, sym}
use Prim.Native.Nat.{ℕ}
use native.Mathlib.Nat.{le_refl, le_of_eq}
use lib.ListN.{length-replicate}
use lib.Seq.{length-take-le}
use Rattle.factored_run.proofs.Factored.{whole, book_derivable, sheet_derivable, book_inside, sheet_inside, derived_passed}
use Rattle.sheet_turn.proofs.Derived.{holds_there, holds_back, shares_there, shares_back, scores_there, scores_back}
use Rattle.sheet_turn.proofs.derived_turn.Goals as goal

pub factors_of-factors-requires : goal.factors_of-factors-requires
factors_of-factors-requires c = (whole _ _ c.requires.sheet_value, c.requires.sheet_value_2)

pub slice_bounds-put_book-end : goal.slice_bounds-put_book-end
slice_bounds-put_book-end c = sym (length-replicate {A = ℕ} 32780 0)

pub put_book-n-requires : goal.put_book-n-requires
put_book-n-requires c =
    let d = book_derivable _ _ c.requires.sheet_value c.factors_of-factors.ensures in
    record { book_value = d.0; factors_len = d.1.0; factors_bound = d.1.1; in_bounds = le_of_eq (sym (length-replicate {A = ℕ} 32780 0)) }

pub slice_bounds-put_sheet-end : goal.slice_bounds-put_sheet-end
slice_bounds-put_sheet-end c = refl

pub put_sheet-m-requires : goal.put_sheet-m-requires
put_sheet-m-requires c =
    let d = sheet_derivable _ _ c.requires.sheet_value c.factors_of-factors.ensures in
    record { sheet_fits = d.0; factors_len_bound = d.1.0; factors_bound = d.1.1; in_bounds = le_refl 144 }

pub slice_bounds-own_book-end : goal.slice_bounds-own_book-end
slice_bounds-own_book-end c = book_inside _ _ c.requires.sheet_value c.factors_of-factors.ensures c.put_book-n.ensures.output_after c.put_book-n.ensures.value

pub slice_bounds-plain_turn-end : goal.slice_bounds-plain_turn-end
slice_bounds-plain_turn-end c = sym (length-take-le _ _ (book_inside _ _ c.requires.sheet_value c.factors_of-factors.ensures c.put_book-n.ensures.output_after c.put_book-n.ensures.value))

pub slice_bounds-own_sheet-end : goal.slice_bounds-own_sheet-end
slice_bounds-own_sheet-end c = sheet_inside _ _ c.requires.sheet_value c.factors_of-factors.ensures c.put_book-n.ensures.output_after c.put_book-n.ensures.value c.put_sheet-m.ensures.output_after c.put_sheet-m.ensures.value

pub slice_bounds-plain_turn-end-2 : goal.slice_bounds-plain_turn-end-2
slice_bounds-plain_turn-end-2 c = sym (length-take-le _ _ (sheet_inside _ _ c.requires.sheet_value c.factors_of-factors.ensures c.put_book-n.ensures.output_after c.put_book-n.ensures.value c.put_sheet-m.ensures.output_after c.put_sheet-m.ensures.value))

pub plain_turn-requires : goal.plain_turn-requires
plain_turn-requires c = record { sheet_value = derived_passed _ _ c.requires.sheet_value c.factors_of-factors.ensures c.put_book-n.ensures.output_after c.put_book-n.ensures.value c.put_sheet-m.ensures.output_after c.put_sheet-m.ensures.value; holds = holds_there _ _ c.requires.sheet_value c.factors_of-factors.ensures c.put_book-n.ensures.output_after c.put_book-n.ensures.value c.put_sheet-m.ensures.output_after c.put_sheet-m.ensures.value c.requires.holds; steps_bound = c.requires.steps_bound; shares_at = shares_there _ _ c.requires.sheet_value c.factors_of-factors.ensures c.put_book-n.ensures.output_after c.put_book-n.ensures.value c.put_sheet-m.ensures.output_after c.put_sheet-m.ensures.value c.requires.shares_at; scores_at = scores_there _ _ c.requires.sheet_value c.factors_of-factors.ensures c.put_book-n.ensures.output_after c.put_book-n.ensures.value c.put_sheet-m.ensures.output_after c.put_sheet-m.ensures.value c.requires.scores_at }

pub shape_of-shares : goal.shape_of-shares
shape_of-shares c = c.plain_turn.auto.shares

pub shape_of-scores : goal.shape_of-scores
shape_of-scores c = c.plain_turn.auto.scores

pub returns : goal.returns
returns c = record { holds_2 = holds_back _ _ c.requires.sheet_value c.factors_of-factors.ensures c.put_book-n.ensures.output_after c.put_book-n.ensures.value c.put_sheet-m.ensures.output_after c.put_sheet-m.ensures.value c.plain_turn.ensures.holds_2; shares_after = shares_back _ _ c.requires.sheet_value c.factors_of-factors.ensures c.put_book-n.ensures.output_after c.put_book-n.ensures.value c.put_sheet-m.ensures.output_after c.put_sheet-m.ensures.value _ _ c.plain_turn.ensures.shares_after; scores_at_2 = scores_back _ _ c.requires.sheet_value c.factors_of-factors.ensures c.put_book-n.ensures.output_after c.put_book-n.ensures.value c.put_sheet-m.ensures.output_after c.put_sheet-m.ensures.value c.plain_turn.ensures.scores_at_2 }
