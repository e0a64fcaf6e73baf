-- `released_run::limited_run` meets its contract: the laws of `Limited` say what the book of the released boats has of the call.
use Rattle.std.specs.Prelude.{option_copied}
use mathlib.Core.Path.{sym}
use native.Mathlib.Omega.{arith}
use lib.Seq.{length-take-le}
use Rattle.files.proofs.Accepted.{book_accepted}
use Rattle.released_run.proofs.Limited.{book_ok, few_boats, own_inside, own_files, own_few, own_schedule, limited_answer, limited_slots}
use borrow.Author.Rules.{rules}
use Rattle.released_run.proofs.limited_run.Goals as goal

pub put_book-n-requires : goal.put_book-n-requires
put_book-n-requires c = record { book_value = book_ok c.args.released (option_copied c.args.table) _ _ c.requires.sheet_value; in_bounds = search rules }

pub slice_bounds-own_book-end : goal.slice_bounds-own_book-end
slice_bounds-own_book-end c = own_inside c.args.released (option_copied c.args.table) _ _ c.requires.sheet_value c.put_book-n.ensures.output_after c.put_book-n.ensures.value

pub slice_bounds-run-end : goal.slice_bounds-run-end
slice_bounds-run-end c = sym (length-take-le _ _ (own_inside c.args.released (option_copied c.args.table) _ _ c.requires.sheet_value c.put_book-n.ensures.output_after c.put_book-n.ensures.value))

pub run-answer-requires : goal.run-answer-requires
run-answer-requires c = record { sheet_value = own_files c.args.released (option_copied c.args.table) _ _ c.requires.sheet_value c.put_book-n.ensures.output_after c.put_book-n.ensures.value; table_value = own_schedule c.args.released (option_copied c.args.table) _ _ c.requires.sheet_value c.put_book-n.ensures.output_after c.put_book-n.ensures.value; book_in_bounds = own_few c.args.released (option_copied c.args.table) _ _ c.requires.sheet_value c.put_book-n.ensures.output_after c.put_book-n.ensures.value }

pub boats-requires : goal.boats-requires
boats-requires c = (book_accepted _ (book_ok c.args.released (option_copied c.args.table) _ _ c.requires.sheet_value)).at_least

pub scatter-requires : goal.scatter-requires
scatter-requires c =
    let h = few_boats c.args.released (option_copied c.args.table) _ _ c.requires.sheet_value in
    record { boats_bound = omega (arith, c.boats.ensures); boats_in_bounds = (omega (arith, c.boats.ensures, c.run-answer.auto), omega (arith, c.boats.ensures, c.requires.book_in_bounds)) }

pub returns : goal.returns
returns c = record { value = limited_answer c.args.released (option_copied c.args.table) _ _ c.requires.sheet_value c.put_book-n.ensures.output_after c.put_book-n.ensures.value c.run-answer.ensures.value; shares_after = limited_slots c.args.released (option_copied c.args.table) _ _ c.requires.sheet_value c.put_book-n.ensures.output_after c.put_book-n.ensures.value c.requires.limited_value _ _ c.run-answer.ensures.shares_after c.boats.ensures c.scatter.ensures }
