-- The reply of an answer, field by field, and that of the card writer are those of the definitions. Assumes nothing.
use mathlib.Core.Path.{◌≡◌}
use Prim.Native.Nat.{ℕ}
use lib.IntN.{ℤ}
use Rattle.method.specs.declared.Answer.{Answer}
use Rattle.method.specs.Searched.{Searched}
use Rattle.method.specs.Searched.{Refused, Answered}
use Rattle.method.specs.Answers.{verdict_number}
use Rattle.card_format.specs.Written.{Written}
use Rattle.card_format.specs.Written as written
use Rattle.editions.specs.Rewritten.{Rewritten}
use Rattle.editions.specs.Rewritten as rewritten
use Rattle.exported_types.specs.declared.Reply.{Reply}
use Rattle.exported_types.specs.Replies.{floor_of, shortfall_of, reply_of, card_reply_of, edition_reply_of}

-- the floor comes back from its bits, `bits`
pub answered : {found : Searched} {a : Answer} → found ≡ Answered a →
    {n : ℕ} → n ≡ verdict_number a.verdict → {floor bits : ℤ} → bits ≡ floor → floor ≡ floor_of a.verdict → {m : ℕ} → m ≡ shortfall_of a.verdict →
    record { refusal = 0; verdict = n; steps = a.steps; weight = a.weight; distance = a.distance; gap = a.gap; floor = bits; shortfall = m } ≡ reply_of found
unfolding reply_of
answered e en eb ef em = rw (e, en, eb, ef, em)

pub write_refused : {w : Written} {n : ℕ} → w ≡ written.Refused n → {r : Reply} → r ≡ reply_of (Refused n) → record { reply = r; bytes = 0 } ≡ card_reply_of w
unfolding card_reply_of
write_refused e er = rw (e, er)

pub filed : {w : Written} {a : Answer} {size : ℕ} → w ≡ written.Filed a size → {r : Reply} → r ≡ reply_of (Answered a) → record { reply = r; bytes = size } ≡ card_reply_of w
unfolding card_reply_of
filed e er = rw (e, er)

pub edition_refused : {w : Rewritten} {n : ℕ} → w ≡ rewritten.Refused n → record { refusal = n; edition = 0; bytes = 0 } ≡ edition_reply_of w
unfolding edition_reply_of
edition_refused e = rw e

pub edition_wrote : {w : Rewritten} {edition size : ℕ} → w ≡ rewritten.Wrote edition size → record { refusal = 0; edition = edition; bytes = size } ≡ edition_reply_of w
unfolding edition_reply_of
edition_wrote e = rw e
