-- `card_listing::filed_text` meets its contract.
use mathlib.Core.Path.{◌≡◌}
use native.Mathlib.Omega.{arith}
use lib.ListN.{length}
use Rattle.search_listing.proofs.Searches.{listed_right}
use Rattle.card_format.specs.Format.{card_limit}
use Rattle.card_listing.proofs.Filed.{written_is, length_fits, promised, left_is, card_is}
use borrow.Author.Rules.{rules}
use Rattle.card_listing.proofs.filed_text.Goals as goal

pub filing_of-requires : goal.filing_of-requires
filing_of-requires c =
    let x = c.args in
    let room : length c.write_card-reply.new.output ≡ card_limit = search rules in
    let fits = length_fits x.book.now x.sheet.now x.output.now (search rules) c.write_card-reply.ensures.value in record { written_value = written_is x.book.now x.sheet.now x.output.now (search rules) c.write_card-reply.ensures.value; written_in_bounds = omega (arith, fits, room); buffer_value = card_is x.book.now x.sheet.now x.output.now (search rules) c.write_card-reply.ensures.value c.write_card-reply.ensures.output_after }

pub returns : goal.returns
returns c =
    let x = c.args in
    let left = left_is x.book.now x.sheet.now x.output.now (search rules) c.write_card-reply.ensures.value c.write_card-reply.ensures.output_after in
    let right = promised x.book.now x.sheet.now x.output.now (search rules) c.write_card-reply.ensures.value c.write_card-reply.ensures.filing_right in
    record { refusal_value = c.filing_of.ensures.0; len_value = c.filing_of.ensures.1.0; holds = c.filing_of.ensures.1.1; outcome_right = listed_right _ _; output_after = left; filing_right = right }
