-- What an entry promises of what it gave back, said of the outcome by which the contracts give it. Assumes nothing.
use mathlib.Core.Path.{◌≡◌, ap, subst, ◌∙◌}
use mathlib.Core.List.{List}
use Prim.Native.Nat.{ℕ}
use lib.ListN.{length}
use Rattle.std.specs.Prelude.{Option}
use Rattle.files.specs.Book.{boats}
use Rattle.method.specs.declared.Released.{Released}
use Rattle.method.specs.Searched.{Searched}
use Rattle.method.specs.Problem.{Terms, call_problem}
use Rattle.method.specs.Calls.{terms_in}
use Rattle.method.specs.Answers.{outcome, slots_after, run_answer}
use Rattle.card_format.specs.Written.{Written}
use Rattle.card_format.specs.Format.{card_shares, card_answer_with, run_card_with}
use Rattle.card_format.specs.Checks.{write_refusal_with, check_refusal_with}
use Rattle.card_format.specs.Checking.{CheckRightWith}
use Rattle.card_format.specs.Filing.{filing, FilingRightWith}
use Rattle.exported_types.specs.declared.Reply.{Reply}
use Rattle.exported_types.specs.declared.CardReply.{CardReply}
use Rattle.exported_types.specs.Replies.{reply_of, card_reply_of}
use Rattle.pairwise.specs.Call.{WorkingRight}

pub checked_right : (m : Terms) (b s w : List ℕ) {r o : Searched} {slots after : List ℕ} → r ≡ o → slots ≡ after → CheckRightWith m b s w r slots → CheckRightWith m b s w o slots
checked_right m b s w {slots = q} e f h = subst (λ x. CheckRightWith m b s w x q) e h

pub filed_right : (m : Terms) (b s : List ℕ) {r o : Written} {output after : List ℕ} → r ≡ o → output ≡ after → FilingRightWith m b s r output → FilingRightWith m b s o output
filed_right m b s {output = q} e f h = subst (λ x. FilingRightWith m b s x q) e h

pub worked_right : (m : Terms) (b s : List ℕ) (n : ℕ) {r o : Written} {output after : List ℕ} → r ≡ o → output ≡ after → WorkingRight m b s n r output → WorkingRight m b s n o output
worked_right m b s n {output = q} e f h = subst (λ x. WorkingRight m b s n x q) e h

-- a call with a table that is lent beside a flag is the call with the table that these come to
module _ (set : Released) {own table : Option (List ℕ)} (e : own ≡ table) (b s : List ℕ) where
  pub lent_check : (w slots : List ℕ) {x : Reply} {r : Searched} {after : List ℕ} → x ≡ reply_of r →
      r ≡ outcome (check_refusal_with (terms_in set own) b s w (length slots)) (card_answer_with (terms_in set own) b s w) →
      after ≡ slots_after (check_refusal_with (terms_in set own) b s w (length slots)) (card_shares (boats b) w) slots → CheckRightWith (terms_in set own) b s w r after →
      (x ≡ reply_of (outcome (check_refusal_with (terms_in set table) b s w (length slots)) (card_answer_with (terms_in set table) b s w)))
      × ((after ≡ slots_after (check_refusal_with (terms_in set table) b s w (length slots)) (card_shares (boats b) w) slots)
      × CheckRightWith (terms_in set table) b s w (outcome (check_refusal_with (terms_in set table) b s w (length slots)) (card_answer_with (terms_in set table) b s w)) after)
  lent_check w slots ex er ea h = rw (← e) (ex ∙ ap reply_of er, (ea, checked_right (terms_in set own) b s w er ea h))

  pub lent_filing : (out : List ℕ) {x : CardReply} {r : Written} {after : List ℕ} → x ≡ card_reply_of r →
      r ≡ filing (write_refusal_with (terms_in set own) b s (length out)) (run_answer (call_problem (terms_in set own) b s)) (length (run_card_with (terms_in set own) b s)) →
      after ≡ slots_after (write_refusal_with (terms_in set own) b s (length out)) (run_card_with (terms_in set own) b s) out → FilingRightWith (terms_in set own) b s r after →
      (x ≡ card_reply_of (filing (write_refusal_with (terms_in set table) b s (length out)) (run_answer (call_problem (terms_in set table) b s)) (length (run_card_with (terms_in set table) b s))))
      × ((after ≡ slots_after (write_refusal_with (terms_in set table) b s (length out)) (run_card_with (terms_in set table) b s) out)
      × FilingRightWith (terms_in set table) b s
      (filing (write_refusal_with (terms_in set table) b s (length out)) (run_answer (call_problem (terms_in set table) b s)) (length (run_card_with (terms_in set table) b s))) after)
  lent_filing out ex er ea h = rw (← e) (ex ∙ ap card_reply_of er, (ea, filed_right (terms_in set own) b s er ea h))
