-- A turn tests byte i and reads it as one figure more; a byte that is none, or a value above 32 bits, ends the function.
use Rattle.std.proofs.Common.{refl, sym, ◌∙◌}
use Rattle.arguments.proofs.Numbers.{empty_text, figure_least, other_byte, too_large, reading_more, reading_end}
use borrow.Author.Rules.{rules}
use Rattle.arguments.proofs.number_in.Goals as goal

pub returns-then-is_empty : goal.returns-then-is_empty
returns-then-is_empty c = search (rules, empty_text)

pub returns-then-not-is_figure : goal.returns-then-not-is_figure
returns-then-not-is_figure c =
    other_byte c.loop-byte.invariant c.loop-byte-test.true refl (sym c.is_figure.ensures ∙ c.if-not-is_figure.true)

pub overflow_sub-value : goal.overflow_sub-value
overflow_sub-value c =
    figure_least c.loop-byte.invariant c.loop-byte-test.true refl (sym c.is_figure.ensures ∙ c.if-not-is_figure.false)

pub returns-then-value-gt4294967295 : goal.returns-then-value-gt4294967295
returns-then-value-gt4294967295 c =
    too_large c.loop-byte.invariant c.loop-byte-test.true refl (sym c.is_figure.ensures ∙ c.if-not-is_figure.false)
    c.if-value-gt4294967295.true

pub loop-byte-preserved : goal.loop-byte-preserved
loop-byte-preserved c =
    reading_more c.loop-byte.invariant c.loop-byte-test.true refl (sym c.is_figure.ensures ∙ c.if-not-is_figure.false)
    c.if-value-gt4294967295.false

pub returns : goal.returns
returns c = reading_end c.loop-byte.invariant c.loop-byte-test.false
