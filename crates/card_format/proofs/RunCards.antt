-- The card of a run is true, so it is accepted and reads back as the run's answer and shares, behind any front text that it has room for;
-- and a card that was filed before WCD2 is true.
use mathlib.Core.Path.{◌≡◌, refl, sym, ap, ◌∙◌}
use mathlib.Core.Bool.{true}
use mathlib.Core.List.{List, ◌++◌}
use Prim.Native.Nat.{ℕ, ◌+◌, ◌*◌, ◌≤◌, ◌<◌}
use native.Mathlib.Omega.{arith}
use lib.ListN.{length, get_or, length-append}
use Rattle.files.specs.Book.{columns, boats}
use Rattle.files.specs.Sheet.{sheet}
use Rattle.method.specs.Calls.{call_refusal}
use Rattle.files.proofs.Accepted.{files_accepted}
use Rattle.files.specs.Limits.{file_limit}
use Rattle.method.specs.declared.Test.{Test}
use Rattle.method.specs.declared.Test.TheVariants.{Former, Sharper}
use Rattle.frank_wolfe.specs.Vectors.{sum}
use Rattle.method.specs.declared.Answer.{Answer}
use Rattle.method.specs.Problem.{Terms, call_steps, call_problem, weight}
use Rattle.method.specs.Iterates.{support}
use Rattle.method.specs.ReleasedBoats.{gather, RestsOn}
use Rattle.method.specs.Answers.{verdict_number, stops, answer_at, run_iterate, run_answer, run_slots}
use Rattle.method.specs.Bounds.{answer_of, AnswerBounds}
use Rattle.method.proofs.Shares.{share_most}
use Rattle.method.proofs.Accepted.{files_ok, call_schedule, well_formed, in_range, sized}
use Rattle.method.proofs.ReleasedBoats.{sum_gather, support_gather}
use Rattle.method.proofs.Bounds.{run_is, run_bounds}
use Rattle.method.proofs.Promise.{run_slot_count, run_gathered, run_in_book}
use Rattle.card_format.specs.Format.{pairs, trailer_bytes, answer_fields, card_bytes, run_card_with}
use Rattle.card_format.specs.Truth.{CardTrueWith, FiledBeforeTrue, WrittenAccepted, WrittenShort}
use Rattle.card_format.proofs.Pairs.{readable}
use Rattle.card_format.proofs.Trailer.{length_trailer}
use Rattle.card_format.proofs.Accepted.{support_most, shares_back, answer_is, true_accepted}

module _ (m : Terms) (b s : List ℕ) (ok : call_refusal m b s ≡ 0) where
  bounds : AnswerBounds Sharper (call_problem m b s) (run_answer (call_problem m b s)) (run_iterate (call_problem m b s)).shares
  bounds = (run_bounds (well_formed m b s ok) (in_range m b s ok) (sized m b s ok)).answer

  -- a slot for each boat, with the run's shares
  pub run_shares : length (run_slots m b s) ≡ boats b
  run_shares = run_slot_count m b s ok

  slots_total : sum (run_slots m b s) ≡ weight m.schedule (run_answer (call_problem m b s)).steps
  unfolding call_problem
  slots_total = (run_in_book m b s ok).answer.total

  share_fits : (j : ℕ) → get_or (run_slots m b s) j 0 < 65536
  unfolding call_problem
  share_fits j =
      omega (arith, share_most (run_slots m b s) j, slots_total, (call_schedule m b s ok).most_total (run_answer (call_problem m b s)).steps (omega (arith, (call_schedule m b s ok).most_steps (sheet s).steps, bounds.most_steps, (files_accepted b s (files_ok m b s ok)).1.most_steps)))

  -- 4 bytes for each boat that holds shares
  pub run_pairs_length : length (pairs 0 (run_slots m b s)) ≡ 4 * support (run_slots m b s)
  run_pairs_length = (readable (run_slots m b s) 0 (boats b) (omega (arith, run_shares)) (omega (arith, (files_accepted b s (files_ok m b s ok)).0.most_boats)) share_fits).sized

  -- and the trailer
  pub run_card_length : length (run_card_with m b s) ≡ 4 * support (run_slots m b s) + 36
  unfolding run_card_with card_bytes
  run_card_length =
      let qs = run_slots m b s in
      length-append (pairs 0 qs) (trailer_bytes Sharper (answer_fields (run_answer (call_problem m b s)) (length (pairs 0 qs)) (sheet s).tolerance (boats b) (columns b)))
      ∙ (omega (arith, length_trailer Sharper (answer_fields (run_answer (call_problem m b s)) (length (pairs 0 qs)) (sheet s).tolerance (boats b) (columns b)), run_pairs_length))

-- ---- The card of an answer and its shares, by either test

module _ (m : Terms) (b s : List ℕ) (test : Test) {a : Answer} (qs : List ℕ) (rests : RestsOn m.released qs) (own : a ≡ answer_of test (call_problem m b s) (gather m.released qs) a.steps) where
  -- it is true where the test ends a run, of shares that so many steps can give
  unfoldable pub answer_card_true : length qs ≡ boats b → sum qs ≡ weight m.schedule a.steps → support qs ≤ a.steps → 1 ≤ a.steps → a.steps ≤ call_steps m s → stops (call_steps m s) a.steps a.verdict ≡ true →
      (front : List ℕ) → length (front ++ card_bytes test a qs (sheet s).tolerance (boats b) (columns b)) ≤ file_limit →
      CardTrueWith m b s (front ++ card_bytes test a qs (sheet s).tolerance (boats b) (columns b))
  unfolding call_problem card_bytes answer_fields
  answer_card_true count total few some most here front h =
      record {
        front = front;
        shares = qs;
        own = answer_fields a (length (pairs 0 qs)) (sheet s).tolerance (boats b) (columns b);
        test = test;
        layout = refl;
        most_bytes = h;
        back = refl;
        boats = refl;
        columns = refl;
        share_count = count;
        rests = rests;
        truth = record {
          total = sum_gather m.released qs rests ∙ total;
          few_boats = rw (support_gather m.released qs rests) few;
          some_step = some;
          most_steps = most;
          distance = ap (λ x. x.distance) own;
          gap = ap (λ x. x.gap) own;
          verdict = ap (λ x. verdict_number x.verdict) own;
          stops_here = sym (ap (λ x. stops (call_steps m s) a.steps x.verdict) own) ∙ here;
          tolerance = refl;
        };
      }

pub filed_before_true : FiledBeforeTrue
unfolding FiledBeforeTrue answer_at
filed_before_true m b s w ok c =
    rw c.layout
    (answer_card_true m b s Former c.shares c.rests refl c.share_count c.total c.few_boats c.some_step c.most_steps c.stops_here c.front (rw c.layout at c.most_bytes))

-- ---- The card of a run

module _ (m : Terms) (b s : List ℕ) (ok : call_refusal m b s ≡ 0) where
  pub run_card_true : (front : List ℕ) → length front + length (run_card_with m b s) ≤ file_limit → CardTrueWith m b s (front ++ run_card_with m b s)
  unfolding call_problem run_card_with
  run_card_true front h =
      let c = bounds m b s ok in
      let k = (run_in_book m b s ok).answer in
      answer_card_true m b s Sharper (run_slots m b s) k.rests (rw (run_gathered m b s ok) (run_is (well_formed m b s ok))) (run_shares m b s ok) k.total k.few_boats c.some_step c.most_steps c.stops_here front
      (omega (arith, length-append front (run_card_with m b s)))

pub written_short : WrittenShort
unfolding WrittenShort
written_short m b s ok = omega (arith, run_card_length m b s ok, support_most (run_slots m b s), run_shares m b s ok, (files_accepted b s (files_ok m b s ok)).0.most_boats)

pub written_accepted : WrittenAccepted
unfolding WrittenAccepted run_card_true answer_card_true
written_accepted m b s front ok h =
    let c = run_card_true m b s ok front h in
    let w = front ++ run_card_with m b s in
    (true_accepted m b s w ok c, answer_is m b s w ok c ∙ (rw (run_gathered m b s ok) (sym (run_is (well_formed m b s ok)))), shares_back m b s w ok c)
