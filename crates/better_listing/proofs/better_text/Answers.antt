-- `better_listing::better_text` meets its contract.
use mathlib.Core.List.{[]}
use Rattle.better_listing.proofs.Listings.{files_accepted, better_listed}
use borrow.Author.Rules.{rules}
use Rattle.better_listing.proofs.better_text.Goals as goal

pub part_text-text-requires : goal.part_text-text-requires
part_text-text-requires c = files_accepted _ _ _ _ [] c.judge_both-ruling.ensures.choice_value

pub returns : goal.returns
returns c = record { wrong_value = c.judge_both-ruling.ensures.wrong_value; choice_value = c.judge_both-ruling.ensures.choice_value; holds = better_listed _ _ _ _ _ c.judge_both-ruling.ensures.choice_value c.judge_both-ruling.ensures.better_right c.part_of-part.ensures.result_value c.part_text-text.ensures; better_right = c.judge_both-ruling.ensures.better_right; len_in_bounds = c.judge_both-ruling.ensures.len_in_bounds }
