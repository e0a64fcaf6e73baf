-- `worked_listing::worked_text` meets its contract.
use mathlib.Core.Path.{◌≡◌}
use Prim.Native.Nat.{◌≤◌}
use native.Mathlib.Omega.{arith}
use lib.ListN.{length}
use Rattle.card_format.specs.Format.{card_limit}
use Rattle.card_format.specs.Written.{written}
use Rattle.card_format.specs.Filing.{written_size}
use Rattle.worked_listing.proofs.Working.{served, size_most, worked_said}
use borrow.Author.Rules.{rules}
use Rattle.worked_listing.proofs.worked_text.Goals as goal

pub filing_of-requires : goal.filing_of-requires
filing_of-requires c =
    let x = c.args in
    let most : written_size (written c.work_over-reply.result) ≤ card_limit =
    size_most x.book.now x.sheet.now x.moves x.output.now _ (search rules) c.work_over-reply.ensures.value c.work_over-reply.ensures.working_right in
    let room : length c.work_over-reply.new.output ≡ card_limit = search rules in
    record { served = served x.book.now x.sheet.now x.moves x.output.now _ (search rules) c.work_over-reply.ensures.value c.work_over-reply.ensures.working_right; written_in_bounds = omega arith }

pub returns : goal.returns
returns c =
    let x = c.args in
    let q = worked_said x.book.now x.sheet.now x.moves x.output.now _ (search rules) c.work_over-reply.ensures.value c.work_over-reply.ensures.working_right c.work_over-reply.ensures.output_after c.filing_of.ensures in
    record { refusal_value = q.0; len_value = q.1.0; holds = q.1.1.0; output_after = q.1.1.1.0; working_right = q.1.1.1.1 }
