-- The reply that the exported functions give back: an answer or a refusal as plain numbers. Definitions only. Assumes nothing.
use Rattle.std.specs.Prelude.{ℕ, ℤ, pos}
use Rattle.method.specs.declared.Verdict.{Verdict}
use Rattle.method.specs.declared.Verdict.TheVariants.{Within, Beyond, Spent}
use Rattle.method.specs.Searched.{Searched}
use Rattle.method.specs.Searched.{Refused, Answered}
use Rattle.method.specs.Answers.{verdict_number}
use Rattle.card_format.specs.Written.{Written}
use Rattle.card_format.specs.Written as written
use Rattle.exported_types.specs.declared.Reply.{Reply}
use Rattle.exported_types.specs.declared.CardReply.{CardReply}
use Rattle.editions.specs.Rewritten.{Rewritten}
use Rattle.editions.specs.Rewritten as rewritten
use Rattle.exported_types.specs.declared.EditionReply.{EditionReply}

-- what Beyond carries, E - 2 G, and 0 for the others
unfoldable pub floor_of : Verdict → ℤ
floor_of Within = pos 0
floor_of (Beyond floor) = floor
floor_of (Spent shortfall) = pos 0

-- what Spent carries, E - tolerance × W², and 0 for the others
unfoldable pub shortfall_of : Verdict → ℕ
shortfall_of Within = 0
shortfall_of (Beyond floor) = 0
shortfall_of (Spent shortfall) = shortfall

-- a refusal leaves every other field 0: there is no answer to give. An answer's refusal is 0
unfoldable pub reply_of : Searched → Reply
reply_of (Refused n) = record { refusal = n; verdict = 0; steps = 0; weight = 0; distance = 0; gap = 0; floor = pos 0; shortfall = 0 }
reply_of (Answered a) =
    record {
      refusal = 0;
      verdict = verdict_number a.verdict;
      steps = a.steps;
      weight = a.weight;
      distance = a.distance;
      gap = a.gap;
      floor = floor_of a.verdict;
      shortfall = shortfall_of a.verdict;
    }

-- of the card writer: a refusal writes no bytes
unfoldable pub card_reply_of : Written → CardReply
card_reply_of (written.Refused n) = record { reply = reply_of (Refused n); bytes = 0 }
card_reply_of (written.Filed a size) = record { reply = reply_of (Answered a); bytes = size }

-- of a conversion: a refusal writes no bytes
unfoldable pub edition_reply_of : Rewritten → EditionReply
edition_reply_of (rewritten.Refused n) = record { refusal = n; edition = 0; bytes = 0 }
edition_reply_of (rewritten.Wrote edition size) = record { refusal = 0; edition = edition; bytes = size }
