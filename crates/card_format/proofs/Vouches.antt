-- A card is accepted exactly when it is true, and what an accepted card vouches for.
use mathlib.Core.Path.{◌≡◌, refl, sym, ap, ◌∙◌}
use mathlib.Core.List.{List}
use Prim.Native.Nat.{ℕ}
use Rattle.method.specs.Calls.{call_refusal}
use Rattle.files.proofs.Accepted.{files_accepted}
use Rattle.method.specs.ReleasedBoats.{gather}
use Rattle.method.specs.Problem.{Terms, call_problem}
use Rattle.method.specs.Answers.{answer_at}
use Rattle.method.specs.Bounds.{answer_of}
use Rattle.method.proofs.Accepted.{files_ok, fleet_formed}
use Rattle.method.proofs.BookNumbers.{released_answer}
use Rattle.card_format.specs.Truth.{CardTrueWith, CardVouchesWith, AcceptedExactly, AcceptedVouches}
use Rattle.card_format.proofs.Accepted.{accepted_true, own_bounds, fields_are, shares_back, test_is, answer_is, true_accepted}

pub accepted_exactly : AcceptedExactly
unfolding AcceptedExactly
accepted_exactly m b s w ok all =
    (accepted_true m b s w all, λ c. (true_accepted m b s w ok c, fields_are m b s w ok c, shares_back m b s w ok c, test_is m b s w ok c, answer_is m b s w ok c))

-- a true card vouches
true_vouches : (m : Terms) (b s w : List ℕ) → call_refusal m b s ≡ 0 → (c : CardTrueWith m b s w) → CardVouchesWith m b s w (answer_of c.test (call_problem m b s) (gather m.released c.shares) c.own.steps) c.shares
unfolding call_problem answer_at
true_vouches m b s w ok c =
    let own = fields_are m b s w ok c in
    record {
      is_true = c;
      own_shares = refl;
      own_test = sym (test_is m b s w ok c);
      own_steps = sym (ap (λ f. f.steps) own);
      own_distance = sym (ap (λ f. f.distance) own ∙ c.truth.distance);
      own_gap = sym (ap (λ f. f.gap) own ∙ c.truth.gap);
      own_verdict = sym (ap (λ f. f.verdict) own ∙ c.truth.verdict);
      own_tolerance = sym (ap (λ f. f.tolerance) own ∙ c.truth.tolerance);
      answer = rw (test_is m b s w ok c) (own_bounds m b s w ok c);
      in_book =
          released_answer m.released (fleet_formed m b s ok) c.shares (c.share_count ∙ c.boats ∙ sym (files_accepted b s (files_ok m b s ok)).0.row_count) c.rests c.test
          (own_bounds m b s w ok c);
    }

pub accepted_vouches : AcceptedVouches
unfolding AcceptedVouches
accepted_vouches m b s w ok all e =
    let c = accepted_true m b s w all e in
    rw (answer_is m b s w ok c, shares_back m b s w ok c) (true_vouches m b s w ok c)
