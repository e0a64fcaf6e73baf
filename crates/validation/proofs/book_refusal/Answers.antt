-- `validation::book_refusal` meets its contract: a law of `Refusal` for each return. The passed tests bound what the calls require.
use native.Mathlib.Omega.{arith}
use mathlib.Core.Path.{ap, ◌∙◌}
use mathlib.Core.Bool.{not}
use borrow.Author.Rules.{rules}
use Rattle.files.proofs.Refusal.{at_least, few_values, book_length_out, book_letters_differ, boats_out, columns_out, book_body}
use Rattle.refusals.specs.Numbers.{number}
use Rattle.validation.proofs.Reasons.{numbered}
use Rattle.validation.proofs.book_refusal.Goals as goal

pub returns-then-not-is_between : goal.returns-then-not-is_between
returns-then-not-is_between c = book_length_out _ _ c.is_between.ensures (ap not c.if-not-is_between.true)

pub ends_with-requires : goal.ends_with-requires
ends_with-requires c = omega (arith, at_least _ _ _ _ c.is_between.ensures (ap not c.if-not-is_between.false))

pub returns-then-not-ends_with : goal.returns-then-not-ends_with
returns-then-not-ends_with c = book_letters_differ _ _ c.is_between.ensures (ap not c.if-not-is_between.false) _ c.ends_with.ensures (ap not c.if-not-ends_with.true)

pub boats-n-requires : goal.boats-n-requires
boats-n-requires c = search (rules, at_least)

pub returns-then-not-is_between-2 : goal.returns-then-not-is_between-2
returns-then-not-is_between-2 c = boats_out _ _ c.is_between.ensures (ap not c.if-not-is_between.false) _ c.ends_with.ensures (ap not c.if-not-ends_with.false) _ c.boats-n.ensures _ c.is_between-2.ensures (ap not c.if-not-is_between-2.true)

pub columns-c-requires : goal.columns-c-requires
columns-c-requires c = search (rules, at_least)

pub returns-then-not-is_between-3 : goal.returns-then-not-is_between-3
returns-then-not-is_between-3 c = columns_out _ _ c.is_between.ensures (ap not c.if-not-is_between.false) _ c.ends_with.ensures (ap not c.if-not-ends_with.false) _ c.boats-n.ensures _ c.is_between-2.ensures (ap not c.if-not-is_between-2.false) _ c.columns-c.ensures.value _ c.is_between-3.ensures (ap not c.if-not-is_between-3.true)

pub overflow_mul-count : goal.overflow_mul-count
overflow_mul-count c = omega (arith, few_values _ _ _ _ c.is_between-2.ensures (ap not c.if-not-is_between-2.false) c.is_between-3.ensures (ap not c.if-not-is_between-3.false))

pub overflow_mul-count-2 : goal.overflow_mul-count-2
overflow_mul-count-2 c = omega (arith, few_values _ _ _ _ c.is_between-2.ensures (ap not c.if-not-is_between-2.false) c.is_between-3.ensures (ap not c.if-not-is_between-3.false))

pub body_refusal-requires : goal.body_refusal-requires
body_refusal-requires c = (search rules, search (rules, at_least), omega (arith, few_values _ _ _ _ c.is_between-2.ensures (ap not c.if-not-is_between-2.false) c.is_between-3.ensures (ap not c.if-not-is_between-3.false)))

pub returns : goal.returns
returns c = book_body _ _ c.is_between.ensures (ap not c.if-not-is_between.false) _ c.ends_with.ensures (ap not c.if-not-ends_with.false) _ c.boats-n.ensures _ c.is_between-2.ensures (ap not c.if-not-is_between-2.false) _ c.columns-c.ensures.value _ c.is_between-3.ensures (ap not c.if-not-is_between-3.false) _ (numbered _ ∙ c.body_refusal.ensures number)
