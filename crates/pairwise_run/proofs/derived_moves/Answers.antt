-- `pairwise_run::derived_moves` meets its contract: the laws of `Factors` say what the derived files have of the others.
use borrow.Author.Rules.{rules}
use mathlib.Core.Path.{sym}
use lib.Seq.{length-take-le}
use Rattle.factored_run.proofs.Factored.{whole, book_derivable, sheet_derivable, book_inside, sheet_inside, derived_passed}
use Rattle.pairwise_run.proofs.Factors.{derived_total, derived_moves}
use Rattle.pairwise_run.proofs.derived_moves.Goals as goal

pub factors_of-factors-requires : goal.factors_of-factors-requires
factors_of-factors-requires c = (whole _ _ c.requires.sheet_value, c.requires.sheet_value_2)

pub put_book-n-requires : goal.put_book-n-requires
put_book-n-requires c =
    let d = book_derivable _ _ c.requires.sheet_value c.factors_of-factors.ensures in
    record { book_value = d.0; factors_len = d.1.0; factors_bound = d.1.1; in_bounds = search rules }

pub put_sheet-m-requires : goal.put_sheet-m-requires
put_sheet-m-requires c =
    let d = sheet_derivable _ _ c.requires.sheet_value c.factors_of-factors.ensures in
    record { sheet_fits = d.0; factors_len_bound = d.1.0; factors_bound = d.1.1; in_bounds = search rules }

pub slice_bounds-own_book-end : goal.slice_bounds-own_book-end
slice_bounds-own_book-end c = book_inside _ _ c.requires.sheet_value c.factors_of-factors.ensures c.put_book-n.ensures.output_after c.put_book-n.ensures.value

pub slice_bounds-plain_moves-end : goal.slice_bounds-plain_moves-end
slice_bounds-plain_moves-end c = sym (length-take-le _ _ (book_inside _ _ c.requires.sheet_value c.factors_of-factors.ensures c.put_book-n.ensures.output_after c.put_book-n.ensures.value))

pub slice_bounds-own_sheet-end : goal.slice_bounds-own_sheet-end
slice_bounds-own_sheet-end c = sheet_inside _ _ c.requires.sheet_value c.factors_of-factors.ensures c.put_book-n.ensures.output_after c.put_book-n.ensures.value c.put_sheet-m.ensures.output_after c.put_sheet-m.ensures.value

pub slice_bounds-plain_moves-end-2 : goal.slice_bounds-plain_moves-end-2
slice_bounds-plain_moves-end-2 c = sym (length-take-le _ _ (sheet_inside _ _ c.requires.sheet_value c.factors_of-factors.ensures c.put_book-n.ensures.output_after c.put_book-n.ensures.value c.put_sheet-m.ensures.output_after c.put_sheet-m.ensures.value))

pub plain_moves-requires : goal.plain_moves-requires
plain_moves-requires c = record { sheet_value = derived_passed _ _ c.requires.sheet_value c.factors_of-factors.ensures c.put_book-n.ensures.output_after c.put_book-n.ensures.value c.put_sheet-m.ensures.output_after c.put_sheet-m.ensures.value; shares_value = derived_total _ _ c.requires.sheet_value c.factors_of-factors.ensures c.put_book-n.ensures.output_after c.put_book-n.ensures.value c.put_sheet-m.ensures.output_after c.put_sheet-m.ensures.value _ c.requires.shares_value }

pub returns : goal.returns
returns c = derived_moves _ _ c.requires.sheet_value c.factors_of-factors.ensures c.put_book-n.ensures.output_after c.put_book-n.ensures.value c.put_sheet-m.ensures.output_after c.put_sheet-m.ensures.value _ _ c.plain_moves.ensures
