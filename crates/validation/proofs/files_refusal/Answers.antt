-- `validation::files_refusal` meets its contract: the book is accepted where its columns are read.
use mathlib.Core.Path.{refl, sym}
use borrow.Author.Rules.{rules}
use Rattle.files.proofs.Accepted.{book_accepted}
use Rattle.files.proofs.Refusal.{book_refused, book_passed}
use Rattle.refusals.proofs.Numbers.{positive, passed_on}
use Rattle.validation.proofs.files_refusal.Goals as goal

pub returns-in_err-book_refusal : goal.returns-in_err-book_refusal
returns-in_err-book_refusal c = passed_on _ _ c.from_residual.ensures (book_refused _ _ _ c.in_err-book_refusal.ensures (positive _))

pub columns-requires : goal.columns-requires
columns-requires c = (book_accepted _ (sym c.in_ok-book_refusal.ensures)).at_least

pub returns : goal.returns
returns c = book_passed _ _ _ c.in_ok-book_refusal.ensures refl _ _ c.columns.ensures.value c.sheet_refusal.ensures
