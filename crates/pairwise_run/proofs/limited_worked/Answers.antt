-- `pairwise_run::limited_worked` meets its contract: the laws of `Limited` say what the book of the released boats has of the call.
use mathlib.Core.Path.{◌≡◌, sym}
use Rattle.std.specs.Prelude.{None}
use native.Mathlib.Omega.{arith}
use lib.ListN.{length}
use lib.Seq.{length-take-le}
use Rattle.files.proofs.Accepted.{book_accepted}
use Rattle.released_run.proofs.Limited.{book_ok, few_boats, own_inside, own_files}
use Rattle.pairwise_run.proofs.Limited.{refused_own, limited}
use borrow.Author.Rules.{rules}
use Rattle.pairwise_run.proofs.limited_worked.Goals as goal

pub put_book-n-requires : goal.put_book-n-requires
put_book-n-requires c = record { book_value = book_ok c.args.released None _ _ c.requires.sheet_value; in_bounds = search rules }

pub slice_bounds-own_book-end : goal.slice_bounds-own_book-end
slice_bounds-own_book-end c = own_inside c.args.released None _ _ c.requires.sheet_value c.put_book-n.ensures.output_after c.put_book-n.ensures.value

pub slice_bounds-fleet_worked-end : goal.slice_bounds-fleet_worked-end
slice_bounds-fleet_worked-end c = sym (length-take-le _ _ (own_inside c.args.released None _ _ c.requires.sheet_value c.put_book-n.ensures.output_after c.put_book-n.ensures.value))

pub fleet_worked-requires : goal.fleet_worked-requires
fleet_worked-requires c = own_files c.args.released None _ _ c.requires.sheet_value c.put_book-n.ensures.output_after c.put_book-n.ensures.value

pub boats-requires : goal.boats-requires
boats-requires c = (book_accepted _ (book_ok c.args.released None _ _ c.requires.sheet_value)).at_least

pub scatter-requires : goal.scatter-requires
scatter-requires c =
    let h = few_boats c.args.released None _ _ c.requires.sheet_value in
    let l : length c.in_ok-own.own.shares ≡ 256 = search rules in
    record { boats_bound = omega (arith, c.boats.ensures, h); boats_in_bounds = (omega (arith, c.boats.ensures, h, l), omega (arith, c.boats.ensures, h)) }

pub returns-in_err-own : goal.returns-in_err-own
returns-in_err-own c = refused_own c.args.released _ _ c.requires.sheet_value c.put_book-n.ensures.output_after c.put_book-n.ensures.value _ c.in_err-own.ensures c.from_residual.ensures

pub returns : goal.returns
returns c = limited c.args.released _ _ c.requires.sheet_value c.put_book-n.ensures.output_after c.put_book-n.ensures.value c.requires.limited_value _ c.in_ok-own.ensures c.boats.ensures _ c.scatter.ensures
