-- `factored_run::derived_answer` meets its contract: the laws of `Factored` say what the derived files have of the others.
use Rattle.std.specs.Prelude.{option_copied}
use mathlib.Core.Path.{refl, sym}
use Prim.Native.Nat.{ℕ}
use native.Mathlib.Nat.{le_refl, le_of_eq}
use lib.ListN.{length-replicate}
use lib.Seq.{length-take-le}
use Rattle.method.specs.Calls.{terms}
use Rattle.factored_run.proofs.Factored.{whole, book_derivable, sheet_derivable, book_inside, sheet_inside, derived_passed, derived_answer, derived_total}
use Rattle.factored_run.proofs.derived_answer.Goals as goal

pub factors_of-factors-requires : goal.factors_of-factors-requires
factors_of-factors-requires c = (whole _ _ c.requires.sheet_value, c.requires.sheet_value_2)

pub slice_bounds-put_book-end : goal.slice_bounds-put_book-end
slice_bounds-put_book-end c = sym (length-replicate {A = ℕ} 32780 0)

pub put_book-n-requires : goal.put_book-n-requires
put_book-n-requires c =
    let d = book_derivable _ _ c.requires.sheet_value c.factors_of-factors.ensures in
    record { book_value = d.0; factors_len = d.1.0; factors_bound = d.1.1; in_bounds = le_of_eq (sym (length-replicate {A = ℕ} 32780 0)) }

pub slice_bounds-put_sheet-end : goal.slice_bounds-put_sheet-end
slice_bounds-put_sheet-end c = refl

pub put_sheet-m-requires : goal.put_sheet-m-requires
put_sheet-m-requires c =
    let d = sheet_derivable _ _ c.requires.sheet_value c.factors_of-factors.ensures in
    record { sheet_fits = d.0; factors_len_bound = d.1.0; factors_bound = d.1.1; in_bounds = le_refl 144 }

pub slice_bounds-own_book-end : goal.slice_bounds-own_book-end
slice_bounds-own_book-end c = book_inside _ _ c.requires.sheet_value c.factors_of-factors.ensures c.put_book-n.ensures.output_after c.put_book-n.ensures.value

pub slice_bounds-plain_answer-end : goal.slice_bounds-plain_answer-end
slice_bounds-plain_answer-end c = sym (length-take-le _ _ (book_inside _ _ c.requires.sheet_value c.factors_of-factors.ensures c.put_book-n.ensures.output_after c.put_book-n.ensures.value))

pub slice_bounds-own_sheet-end : goal.slice_bounds-own_sheet-end
slice_bounds-own_sheet-end c = sheet_inside _ _ c.requires.sheet_value c.factors_of-factors.ensures c.put_book-n.ensures.output_after c.put_book-n.ensures.value c.put_sheet-m.ensures.output_after c.put_sheet-m.ensures.value

pub slice_bounds-plain_answer-end-2 : goal.slice_bounds-plain_answer-end-2
slice_bounds-plain_answer-end-2 c = sym (length-take-le _ _ (sheet_inside _ _ c.requires.sheet_value c.factors_of-factors.ensures c.put_book-n.ensures.output_after c.put_book-n.ensures.value c.put_sheet-m.ensures.output_after c.put_sheet-m.ensures.value))

pub plain_answer-requires : goal.plain_answer-requires
plain_answer-requires c = record { sheet_value = derived_passed _ _ c.requires.sheet_value c.factors_of-factors.ensures c.put_book-n.ensures.output_after c.put_book-n.ensures.value c.put_sheet-m.ensures.output_after c.put_sheet-m.ensures.value; table_value = c.requires.table_value; fact = c.requires.fact; shares_value = derived_total _ _ c.requires.sheet_value c.factors_of-factors.ensures c.put_book-n.ensures.output_after c.put_book-n.ensures.value c.put_sheet-m.ensures.output_after c.put_sheet-m.ensures.value (terms (option_copied c.args.table)) _ _ c.requires.shares_value }

pub returns : goal.returns
returns c = derived_answer _ _ c.requires.sheet_value c.factors_of-factors.ensures c.put_book-n.ensures.output_after c.put_book-n.ensures.value c.put_sheet-m.ensures.output_after c.put_sheet-m.ensures.value (terms (option_copied c.args.table)) _ _ _ c.plain_answer.ensures
