-- An accepted card without its front text is a card that the check accepts, with the same answer and shares.
use mathlib.Core.Path.{◌≡◌, refl, sym, ap, ◌∙◌}
use mathlib.Core.Bool.{true}
use mathlib.Core.List.{List, [], ◌++◌}
use Prim.Native.Nat.{ℕ, ◌+◌, ◌≤◌}
use native.Mathlib.Omega.{arith}
use lib.ListN.{length, drop, length-append}
use lib.Seq.{drop_at, drop-append-add}
use Rattle.files.specs.Bytes.{all_bytes}
use Rattle.files.specs.Book.{boats}
use Rattle.files.specs.Sheet.{files_refusal}
use Rattle.files.specs.Front.{same_file, other_front}
use Rattle.method.specs.Problem.{problem, plain_terms, call_problem}
use Rattle.method.proofs.Weights.{fixed_fits, weight_positive}
use Rattle.card_format.specs.Format.{pairs, trailer_bytes, card_fields, card_shares, card_answer}
use Rattle.card_format.specs.Checks.{card_refusal}
use Rattle.card_format.specs.Truth.{CardTrue, AcceptedExactly, AcceptedVouches}
use Rattle.card_format.specs.Front.{CardWhole, SameCard}
use Rattle.files.proofs.Bytes.{drop_bytes}
use Rattle.card_format.proofs.Trailer.{length_trailer, file_length}
use Rattle.card_format.proofs.Front.{fields_front}
use Rattle.card_format.proofs.Vouches.{accepted_exactly, accepted_vouches}
use Rattle.card_format.specs.Filing.{ReadsBack}
use Rattle.better_card_promise.specs.Choices.{front_length, bare}
use Rattle.better_card_promise.specs.Promise.{IsDistance}
use Rattle.better_card_promise.proofs.Distances.{squared_distance, distance_is}

-- cards that differ in front text alone are the same without it
bare_front : (f w : List ℕ) → CardWhole w → bare (f ++ w) ≡ bare w
unfolding bare
bare_front f w h =
    let m : front_length (f ++ w) ≡ length f + front_length w = rw (fields_front f w h) (omega (arith, length-append f w)) in
    ap (λ k. drop k (f ++ w)) m ∙ drop-append-add f w (front_length w)

pub bare_behind : (w w' : List ℕ) → SameCard w w' → bare w' ≡ bare w
bare_behind w w' same_file = refl
bare_behind w w' (other_front f g x h i j) = bare_front g x h ∙ sym (bare_front f x h)

module _ (b s w : List ℕ) (ok : files_refusal b s ≡ 0) (all : all_bytes w ≡ true) (e : card_refusal b s w ≡ 0) where
  is_true : CardTrue b s w
  unfolding AcceptedExactly
  is_true = (accepted_exactly plain_terms b s w ok all).0 e

  fields_are : card_fields w ≡ is_true.own
  unfolding AcceptedExactly
  fields_are = ((accepted_exactly plain_terms b s w ok all).1 is_true).1

  abbrev rest : List ℕ
  rest = pairs 0 is_true.shares ++ trailer_bytes is_true.test is_true.own

  back_is : (card_fields w).back ≡ length (pairs 0 is_true.shares)
  back_is = ap (λ f. f.back) fields_are ∙ is_true.back

  whole : length w ≡ length is_true.front + (length (pairs 0 is_true.shares) + 36)
  whole = ap length is_true.layout ∙ file_length is_true.front (pairs 0 is_true.shares) (trailer_bytes is_true.test is_true.own) (length_trailer is_true.test is_true.own)

  pub inside : (card_fields w).back + 36 ≤ length w
  inside = omega (arith, whole, back_is)

  front_is : front_length w ≡ length is_true.front
  front_is = omega (arith, whole, back_is)

  bare_is : bare w ≡ rest
  unfolding bare
  bare_is = ap (drop (front_length w)) is_true.layout ∙ drop_at is_true.front rest (front_length w) (sym front_is)

  pub front_of : List ℕ
  front_of = is_true.front

  pub ends : front_of ++ bare w ≡ w
  unfolding front_of
  ends = rw bare_is (sym is_true.layout)

  pub size : length (bare w) ≡ (card_fields w).back + 36
  size = omega (arith, ap length bare_is, length-append (pairs 0 is_true.shares) (trailer_bytes is_true.test is_true.own), length_trailer is_true.test is_true.own, back_is)

  bare_bytes : all_bytes (bare w) ≡ true
  unfolding bare
  bare_bytes = drop_bytes (front_length w) w all

  -- the same card with no front text is true
  bare_true : CardTrue b s (bare w)
  bare_true =
      let t = is_true in
      record {
        front = [];
        shares = t.shares;
        own = t.own;
        test = t.test;
        layout = bare_is;
        most_bytes = omega (arith, t.most_bytes, size, inside);
        back = t.back;
        boats = t.boats;
        columns = t.columns;
        share_count = t.share_count;
        rests = t.rests;
        truth = t.truth;
      }

  pub reads_back : ReadsBack b s (bare w) (card_answer b s w) (card_shares (boats b) w)
  unfolding AcceptedExactly bare_true
  reads_back =
      let t = (accepted_exactly plain_terms b s w ok all).1 is_true in
      let u = (accepted_exactly plain_terms b s (bare w) ok bare_bytes).1 bare_true in
      record { accepted = u.0; answer = u.4 ∙ sym t.4; shares = u.2 ∙ sym t.2 }

  some_weight : 1 ≤ (card_answer b s w).weight
  unfolding AcceptedVouches call_problem
  some_weight = let v = (accepted_vouches plain_terms b s w ok all e).answer in omega (arith, v.weight, weight_positive fixed_fits v.some_step)

  pub own_distance : IsDistance (squared_distance (card_answer b s w)) (card_answer b s w)
  own_distance = distance_is (card_answer b s w) some_weight
