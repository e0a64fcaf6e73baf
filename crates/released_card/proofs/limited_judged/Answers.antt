-- `released_card::limited_judged` meets its contract: the laws of `Limited` say what the book of the released boats has of the call.
use Rattle.std.specs.Prelude.{option_copied}
use mathlib.Core.Path.{sym}
use native.Mathlib.Omega.{arith}
use lib.Seq.{length-take-le}
use Rattle.files.proofs.Accepted.{book_accepted}
use Rattle.released_run.proofs.Limited.{book_ok, few_boats, own_inside, own_files, own_schedule}
use Rattle.released_card.proofs.Judging.{limited_judgement}
use borrow.Author.Rules.{rules}
use Rattle.released_card.proofs.limited_judged.Goals as goal

pub put_book-n-requires : goal.put_book-n-requires
put_book-n-requires c = record { book_value = book_ok c.args.released (option_copied c.args.table) _ _ c.requires.sheet_value; in_bounds = search rules }

pub boats-requires : goal.boats-requires
boats-requires c = (book_accepted _ (book_ok c.args.released (option_copied c.args.table) _ _ c.requires.sheet_value)).at_least

pub gather-own-requires : goal.gather-own-requires
gather-own-requires c = omega (arith, c.boats.ensures, few_boats c.args.released (option_copied c.args.table) _ _ c.requires.sheet_value)

pub slice_bounds-own_book-end : goal.slice_bounds-own_book-end
slice_bounds-own_book-end c = own_inside c.args.released (option_copied c.args.table) _ _ c.requires.sheet_value c.put_book-n.ensures.output_after c.put_book-n.ensures.value

pub slice_bounds-plain_judged-end : goal.slice_bounds-plain_judged-end
slice_bounds-plain_judged-end c = sym (length-take-le _ _ (own_inside c.args.released (option_copied c.args.table) _ _ c.requires.sheet_value c.put_book-n.ensures.output_after c.put_book-n.ensures.value))

pub plain_judged-requires : goal.plain_judged-requires
plain_judged-requires c = record { sheet_value = own_files c.args.released (option_copied c.args.table) _ _ c.requires.sheet_value c.put_book-n.ensures.output_after c.put_book-n.ensures.value; table_value = own_schedule c.args.released (option_copied c.args.table) _ _ c.requires.sheet_value c.put_book-n.ensures.output_after c.put_book-n.ensures.value; card_readable = c.requires.card_readable }

pub returns : goal.returns
returns c = limited_judgement c.args.released (option_copied c.args.table) _ _ c.requires.sheet_value _ _ c.put_book-n.ensures.output_after c.put_book-n.ensures.value c.boats.ensures (search (rules, c.gather-own.type_inv)) c.gather-own.ensures c.plain_judged.ensures
