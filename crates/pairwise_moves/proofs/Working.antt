-- The loop of the moves: what is kept of shares and scores from one move to the next, over an accepted fleet book b and sheet s. Assumes nothing.
use mathlib.Core.Path.{◌≡◌, refl, sym, ap, ap₂, ◌∙◌}
use mathlib.Core.Bool.{Bool, true, false, cond}
use mathlib.Core.List.{List, [], ◌∷◌, ◌++◌}
use Prim.Native.Nat.{ℕ, zero, suc, ◌+◌, ◌*◌, ◌-◌, ◌≤◌, ◌<◌}
use native.Mathlib.Nat.{mul-le-mul_right}
use native.Mathlib.Omega.{arith}
use borrow.Author.Tests.{eqb-false, ne_eqb}
use lib.Dec.{eqb}
use lib.IntN.{ℤ, pos, nat_abs, ◌+ℤ◌, ◌-ℤ◌, ◌*ℤ◌}
use lib.ListN.{length, get_or, take, drop, set, replicate, length-set, take-append-drop, get_or-append}
use lib.Seq.{length-take-le, length_front, get_or-take, take-set-lt, drop-set-lt, get_or-set_same, get_or-set_other}
use mir.Syntax.{w64}
use mir.Val.{Fits, to_z, of_z}
use Rattle.integers.proofs.Bounds.{read}
use Rattle.integers.proofs.Solver.{con, ◌⊕◌, ◌⊗◌, ◌⊝◌, x₀, x₁, solve}
use Rattle.integers.proofs.Facts.{◌≼◌, known, derive}
use Rattle.files.specs.Book.{boats, columns, rows, rows_from}
use Rattle.files.specs.Sheet.{sheet, files_refusal}
use Rattle.files.specs.Limits.{total_limit, entry_limit}
use Rattle.files.proofs.Access.{rows_at}
use Rattle.frank_wolfe.specs.Vectors.{subtract, scale, squared_norm, weighted, ones, sum, combination}
use Rattle.frank_wolfe.proofs.Vectors.{norm_ones, length_subtract}
use Rattle.method.specs.Problem.{Problem, fixed, weight}
use Rattle.method.specs.Plain.{plain_problem}
use Rattle.method.specs.Iterates as M
use Rattle.method.specs.Iterates.{row, natural}
use Rattle.method.proofs.Weights.{fixed_fits, weight_positive, weight_most}
use Rattle.method.proofs.Schedules.{fixed_sized}
use Rattle.method.proofs.Argmin.{score_at, length_scores}
use Rattle.method.proofs.Shares.{share_most}
use Rattle.method.proofs.Plain.{well_formed, in_range}
use Rattle.sums.specs.Operands.{Bounded, Grid}
use Rattle.iteration.specs.declared.Layout.{Layout}
use Rattle.iteration.specs.States.{file_layout, boat_products}
use Rattle.iteration.proofs.States.{book_fits, sheet_fits, product_count}
use Rattle.pairwise.specs.Moves.{greater, less, shares_residual, shares_scores, giver, taker, slope, apart, amount_of, amount, exchange, moved, moves}
use Rattle.pairwise.specs.Worked.{MoveRight}
use Rattle.pairwise.proofs.Foremost.{some_in, positive, foremost_agree}
use Rattle.pairwise.proofs.Moves.{gives, takes, some_apart, amount_held, score_moved, move_right}
use Rattle.pairwise.proofs.Loop.{moves_stop, moves_next, score_fits, slope_most, apart_most}
use Rattle.pairwise_moves.specs.declared.Pair.{Pair}
use Rattle.pairwise_moves.specs.Passes.{pair_of, held_moved, Listed, HeldProducts, SlopeSized, Differ, ApartSized, Divisible, Exchangeable, MovableScores}
use Rattle.mixture_answer.proofs.Answering.{all_rows, entries}
use Rattle.pairwise_moves.proofs.Listing.{fewer_hold}
use Rattle.pairwise_moves.proofs.Remembering.{row_room, row_at}
use Rattle.pairwise_moves.proofs.Rows.{products_differ, memory_differ, memory_apart, memory_sized}
use Rattle.pairwise_moves.proofs.Rescoring.{moved_at, length_moved, subtract_at}

-- ---- An exchange among the first slots

module _ (n from to m : ℕ) (l : List ℕ) (hf : from < n) (ht : to < n) where
  exchange_take : take n (exchange from to m l) ≡ exchange from to m (take n l)
  unfolding exchange
  exchange_take =
      take-set-lt n (set l from (get_or l from 0 - m)) to (get_or (set l from (get_or l from 0 - m)) to 0 + m) ht
      ∙ rw (take-set-lt n l from (get_or l from 0 - m) hf, get_or-take n l from 0 hf, slot)
    where
      slot : get_or (set l from (get_or l from 0 - m)) to 0 ≡ get_or (set (take n l) from (get_or l from 0 - m)) to 0
      slot = sym (get_or-take n (set l from (get_or l from 0 - m)) to 0 ht) ∙ ap (λ (k : List ℕ). get_or k to 0) (take-set-lt n l from (get_or l from 0 - m) hf)

  exchange_drop : drop n (exchange from to m l) ≡ drop n l
  unfolding exchange
  exchange_drop = drop-set-lt n (set l from (get_or l from 0 - m)) to (get_or (set l from (get_or l from 0 - m)) to 0 + m) ht ∙ drop-set-lt n l from (get_or l from 0 - m) hf

  exchange_slots : length (exchange from to m l) ≡ length l
  unfolding exchange
  exchange_slots = length-set (set l from (get_or l from 0 - m)) to (get_or (set l from (get_or l from 0 - m)) to 0 + m) ∙ length-set l from (get_or l from 0 - m)

-- what held none holds none after an exchange between two that hold some
exchange_none : (from to m : ℕ) (l : List ℕ) → 1 ≤ get_or l from 0 → 1 ≤ get_or l to 0 → (x : ℕ) → get_or l x 0 ≡ 0 → get_or (exchange from to m l) x 0 ≡ 0
unfolding exchange
exchange_none from to m l hf ht x e =
    get_or-set_other (set l from (get_or l from 0 - m)) to x (get_or (set l from (get_or l from 0 - m)) to 0 + m) 0 (other to ht)
    ∙ get_or-set_other l from x (get_or l from 0 - m) 0 (other from hf) ∙ e
  where
    other : (k : ℕ) → 1 ≤ get_or l k 0 → x ≡ k → ⊥
    other k h f = let g : get_or l k 0 ≡ 0 = rw f at e in omega (arith, g, h)

-- a move of no shares
still : (qs : List ℕ) (xs ps : List ℤ) → held_moved 0 qs xs ps ≡ ps
unfolding held_moved
still [] xs ps = refl
still (q ∷ qs) [] ps = refl
still (q ∷ qs) (x ∷ xs) [] = refl
still (q ∷ qs) (x ∷ xs) (p ∷ ps) = ap₂ ◌∷◌ (by (eqb q 0)) (still qs xs ps)
  where
    by : (t : Bool) → cond t p (p +ℤ pos 0 *ℤ x) ≡ p
    by true = refl
    by false = solve (p ∷ x ∷ []) (x₀ ⊕ con (pos 0) ⊗ x₁) x₀ tt

-- ---- The loop

-- after so many moves: the moves left lead to where all lead, the scores of the boats that hold shares are those of the shares, these boats
-- are in the list and their products in the memory, and the next move's two boats are known
pub record Working (b s : List ℕ) (start : List ℕ) (allowed : ℕ) (list : List ℕ) (memory : List ℤ) (made : ℕ) (held : List ℕ) (scores : List ℤ) (pr : Pair) : Type 0 where
  pub within : made ≤ allowed
  pub later : moves (allowed - made) (plain_problem fixed b s) (take (boats b) held) ≡ moves allowed (plain_problem fixed b s) (take (boats b) start)
  pub rest : drop (boats b) held ≡ drop (boats b) start
  pub slots : length held ≡ 256
  pub total : sum (take (boats b) held) ≡ weight fixed (sheet s).steps
  pub score_slots : length scores ≡ 256
  pub scored : (i : ℕ) → 1 ≤ get_or (take (boats b) held) i 0 → get_or scores i (pos 0) ≡ get_or (shares_scores (plain_problem fixed b s) (take (boats b) held)) i (pos 0)
  pub sizes : (i : ℕ) → i < boats b → nat_abs (get_or scores i (pos 0)) ≤ 33269760000000
  pub list_slots : length list ≡ 257
  pub listed : Listed held (boats b) list
  pub remembered : HeldProducts b s held memory
  pub pair : pr ≡ pair_of (take (boats b) held) (take (boats b) scores)

module _ (b s : List ℕ) (ok : files_refusal b s ≡ 0) where
  abbrev p : Problem
  p = plain_problem fixed b s

  abbrev n : ℕ
  n = boats b

  -- ---- Any shares, one a boat, of the total of the sheet's steps

  module _ (qs : List ℕ) (count : length qs ≡ boats b) (total : sum qs ≡ weight fixed (sheet s).steps) where
    vertex_count : length qs ≡ length (plain_problem fixed b s).vertices
    unfolding plain_problem
    vertex_count = count ∙ sym (book_fits b s ok).row_count

    plain_total : sum qs ≡ weight (plain_problem fixed b s).schedule (sheet s).steps
    unfolding plain_problem
    plain_total = total

    few_total : sum qs ≤ 64980
    few_total = rw total (weight_most (sheet_fits b s ok).most_steps)

    some_total : 1 ≤ sum qs
    some_total = rw total (weight_positive fixed_fits (sheet_fits b s ok).some_steps)

    score_is : (i : ℕ) → i < boats b → nat_abs (get_or (shares_scores (plain_problem fixed b s) qs) i (pos 0)) ≤ 33269760000000
    unfolding shares_scores
    score_is i h =
        rw (score_at (plain_problem fixed b s).factors (shares_residual (plain_problem fixed b s) qs) (plain_problem fixed b s).vertices i)
        (omega (arith, score_fits (well_formed b s ok fixed_sized) (in_range b s ok fixed_sized) (sheet s).steps qs vertex_count plain_total some_total i (rw count h), few_total))

  -- ---- A turn of the loop

  module _ {start : List ℕ} {allowed : ℕ} {list : List ℕ} {memory : List ℤ} {made : ℕ} {held : List ℕ} {scores : List ℤ} {pr : Pair} (w : Working b s start allowed list memory made held scores pr) where
    abbrev qs : List ℕ
    qs = take (boats b) held

    slots_of : length (take (boats b) held) ≡ boats b
    slots_of = length-take-le (boats b) held (omega (arith, w.slots, (book_fits b s ok).most_boats))

    whole : held ≡ take (boats b) held ++ drop (boats b) held
    whole = sym (take-append-drop (boats b) held)

    result : take (boats b) held ≡ moves allowed (plain_problem fixed b s) (take (boats b) start) → held ≡ moves allowed (plain_problem fixed b s) (take (boats b) start) ++ drop (boats b) start
    result e = whole ∙ rw (e, w.rest)

    -- the moves allowed are made
    pub finished : allowed ≤ made → held ≡ moves allowed (plain_problem fixed b s) (take (boats b) start) ++ drop (boats b) start
    unfolding moves
    finished h = let z : allowed - made ≡ 0 = omega arith in result (rw z at w.later)

    score_read : (i : ℕ) → i < boats b → to_z w64 (of_z w64 (get_or scores i (pos 0))) ≡ get_or scores i (pos 0)
    score_read i h = read w64 33269760000000 (w.sizes i h) tt

    bounded : Bounded 33269760000000 (boats b) scores
    bounded = record { long = omega (arith, w.score_slots, (book_fits b s ok).most_boats); each = w.sizes }

    module _ {l : Layout} (e : l ≡ file_layout b s) where
      count : length qs ≡ length (plain_problem fixed b s).vertices
      count = vertex_count qs slots_of w.total

      some : 1 ≤ sum qs
      some = some_total qs slots_of w.total

      agree : (i : ℕ) → 1 ≤ get_or qs i 0 → get_or (take (boats b) scores) i (pos 0) ≡ get_or (shares_scores (plain_problem fixed b s) qs) i (pos 0)
      agree i h = get_or-take (boats b) scores i (pos 0) (rw slots_of at (some_in qs i h)) ∙ w.scored i h

      from_is : pr.from ≡ giver (plain_problem fixed b s) qs
      unfolding pair_of giver
      from_is = ap (λ (x : Pair). x.from) w.pair ∙ foremost_agree greater (length qs) qs (take (boats b) scores) (shares_scores (plain_problem fixed b s) qs) agree

      to_is : pr.to ≡ taker (plain_problem fixed b s) qs
      unfolding pair_of taker
      to_is = ap (λ (x : Pair). x.to) w.pair ∙ foremost_agree less (length qs) qs (take (boats b) scores) (shares_scores (plain_problem fixed b s) qs) agree

      from_holds : 1 ≤ get_or qs pr.from 0
      from_holds = rw from_is (gives (well_formed b s ok fixed_sized) qs count some).holds

      to_holds : 1 ≤ get_or qs pr.to 0
      to_holds = rw to_is (takes (well_formed b s ok fixed_sized) qs count some).holds

      pub from_below : pr.from < boats b
      from_below = rw slots_of at (some_in qs pr.from from_holds)

      pub to_below : pr.to < boats b
      to_below = rw slots_of at (some_in qs pr.to to_holds)

      -- ---- The rows

      from_has : 1 ≤ get_or held pr.from 0
      from_has = rw (← get_or-take (boats b) held pr.from 0 from_below) from_holds

      to_has : 1 ≤ get_or held pr.to 0
      to_has = rw (← get_or-take (boats b) held pr.to 0 to_below) to_holds

      row_slots : (i : ℕ) → i < boats b → i * boats b ≤ 65536
      row_slots i h = omega (arith, mul-le-mul_right (boats b) (most i h), (book_fits b s ok).most_boats)
        where
          most : (x : ℕ) → x < boats b → x ≤ 256
          most x g = omega (arith, (book_fits b s ok).most_boats)

      pub from_fits : Fits w64 (pr.from * l.boats)
      unfolding file_layout
      from_fits = rw e (record { fits = omega (arith, row_slots pr.from from_below) })

      pub to_fits : Fits w64 (pr.to * l.boats)
      unfolding file_layout
      to_fits = rw e (record { fits = omega (arith, row_slots pr.to to_below) })

      pub apart_asks : ApartSized memory (pr.to * l.boats) (pr.from * l.boats) pr.from pr.to
      unfolding file_layout
      apart_asks = rw e (memory_sized b s ok w.remembered pr.to pr.from to_below from_below to_has from_has)

      long_row : {i j : ℕ} → i ≡ j → i < boats b → length (row (rows b) j) ≡ columns b
      unfolding row
      long_row f h = (book_fits b s ok).row_length _ (rw f at h)

      -- ---- The slope

      abbrev top : ℤ
      top = to_z w64 (of_z w64 (get_or scores pr.from (pos 0)))

      abbrev bottom : ℤ
      bottom = to_z w64 (of_z w64 (get_or scores pr.to (pos 0)))

      top_is : top ≡ get_or (shares_scores (plain_problem fixed b s) qs) (giver (plain_problem fixed b s) qs) (pos 0)
      top_is = score_read pr.from from_below ∙ w.scored pr.from from_holds ∙ rw from_is

      bottom_is : bottom ≡ get_or (shares_scores (plain_problem fixed b s) qs) (taker (plain_problem fixed b s) qs) (pos 0)
      bottom_is = score_read pr.to to_below ∙ w.scored pr.to to_holds ∙ rw to_is

      pub slope_asks : SlopeSized top bottom
      slope_asks =
          record {
            first = rw (score_read pr.from from_below) (w.sizes pr.from from_below);
            second = rw (score_read pr.to to_below) (w.sizes pr.to to_below);
            sign = rw (top_is, bottom_is)
                (derive (get_or (shares_scores (plain_problem fixed b s) qs) (giver (plain_problem fixed b s) qs) (pos 0) ∷ get_or (shares_scores (plain_problem fixed b s) qs) (taker (plain_problem fixed b s) qs) (pos 0) ∷ [])
                (con (pos 0) ≼ x₀ ⊝ x₁)
                (known (x₁ ≼ x₀) ((takes (well_formed b s ok fixed_sized) qs count some).least (giver (plain_problem fixed b s) qs) (gives (well_formed b s ok fixed_sized) qs count some).holds)) tt);
          }

      module _ {x y : ℕ} (ex : pos x ≡ top -ℤ bottom)
          (ey : pos y ≡ (get_or memory (pr.to * l.boats + pr.to) (pos 0) -ℤ get_or memory (pr.from * l.boats + pr.to) (pos 0)) -ℤ (get_or memory (pr.to * l.boats + pr.from) (pos 0) -ℤ get_or memory (pr.from * l.boats + pr.from) (pos 0))) where
        x_is : x ≡ slope (plain_problem fixed b s) qs
        unfolding slope natural
        x_is =
            let f : top -ℤ bottom ≡ get_or (shares_scores (plain_problem fixed b s) qs) (giver (plain_problem fixed b s) qs) (pos 0) -ℤ get_or (shares_scores (plain_problem fixed b s) qs) (taker (plain_problem fixed b s) qs) (pos 0) =
            rw (top_is, bottom_is) in
            ap natural (ex ∙ f)

        rows_long : length (subtract (row (rows b) (giver (plain_problem fixed b s) qs)) (row (rows b) (taker (plain_problem fixed b s) qs))) ≡ columns b
        rows_long =
            length_subtract (row (rows b) (giver (plain_problem fixed b s) qs)) (row (rows b) (taker (plain_problem fixed b s) qs)) (long_row from_is from_below ∙ sym (long_row to_is to_below))
            ∙ long_row from_is from_below

        y_norm : y ≡ squared_norm (subtract (row (rows b) pr.from) (row (rows b) pr.to))
        unfolding file_layout
        y_norm =
            let f : pos y ≡ (get_or memory (pr.to * boats b + pr.to) (pos 0) -ℤ get_or memory (pr.from * boats b + pr.to) (pos 0)) -ℤ (get_or memory (pr.to * boats b + pr.from) (pos 0) -ℤ get_or memory (pr.from * boats b + pr.from) (pos 0)) = rw e at ey in
            ap nat_abs (f ∙ memory_apart b s ok w.remembered pr.to pr.from to_below from_below to_has from_has)

        y_is : y ≡ apart (plain_problem fixed b s) qs
        unfolding apart plain_problem
        y_is = y_norm ∙ rw (from_is, to_is) (sym (norm_ones (columns b) (subtract (row (rows b) (giver (plain_problem fixed b s) qs)) (row (rows b) (taker (plain_problem fixed b s) qs))) rows_long))

        -- ---- The amount

        pub amount_asks : Divisible x y
        amount_asks =
            record {
              slope_size = rw x_is (omega (arith, slope_most (well_formed b s ok fixed_sized) (in_range b s ok fixed_sized) (sheet s).steps qs count (plain_total qs slots_of w.total) some, few_total qs slots_of w.total));
              apart_size = rw y_is (apart_most (well_formed b s ok fixed_sized) (in_range b s ok fixed_sized) (sheet s).steps qs count (plain_total qs slots_of w.total) some);
              some_apart = λ h. rw y_is (some_apart (well_formed b s ok fixed_sized) qs count some (rw x_is at h));
            }

        module _ {m : ℕ} (em : m ≡ amount_of x y (get_or held pr.from 0)) where
          m_is : m ≡ amount (plain_problem fixed b s) qs
          unfolding amount
          m_is = em ∙ rw (x_is, y_is, ← get_or-take (boats b) held pr.from 0 from_below, from_is)

          -- no share is to move
          pub stopped : m ≡ 0 → held ≡ moves allowed (plain_problem fixed b s) (take (boats b) start) ++ drop (boats b) start
          stopped z = result (sym (moves_stop (plain_problem fixed b s) (allowed - made) qs (sym m_is ∙ z)).0 ∙ w.later)

          module _ (moving : m ≡ 0 → ⊥) where
            some_amount : 1 ≤ amount (plain_problem fixed b s) qs
            some_amount = rw m_is at (positive m moving)

            move : MoveRight (plain_problem fixed b s) qs (moved (plain_problem fixed b s) qs)
            move = move_right (well_formed b s ok fixed_sized) qs count some some_amount

            few_move : m ≤ get_or held pr.from 0
            few_move = rw (m_is, ← get_or-take (boats b) held pr.from 0 from_below, from_is) (amount_held (well_formed b s ok fixed_sized) qs count some)

            -- the first slots after the exchange
            front_is : take (boats b) (exchange pr.from pr.to m held) ≡ moved (plain_problem fixed b s) qs
            unfolding moved
            front_is = exchange_take (boats b) pr.from pr.to m held from_below to_below ∙ rw (from_is, to_is, m_is)

            taken : get_or (moved (plain_problem fixed b s) qs) pr.to 0 ≡ get_or (set held pr.from (get_or held pr.from 0 - m)) pr.to 0 + m
            unfolding exchange
            taken =
                rw (← front_is, get_or-take (boats b) (exchange pr.from pr.to m held) pr.to 0 to_below)
                (get_or-set_same (set held pr.from (get_or held pr.from 0 - m)) pr.to (get_or (set held pr.from (get_or held pr.from 0 - m)) pr.to 0 + m) 0
                (rw length-set (omega (arith, to_below, w.slots, (book_fits b s ok).most_boats))))

            pub exchange_asks : Exchangeable held pr.from pr.to m
            exchange_asks =
                record {
                  gives = omega (arith, from_below, w.slots, (book_fits b s ok).most_boats);
                  takes = omega (arith, to_below, w.slots, (book_fits b s ok).most_boats);
                  held = few_move;
                  room = rw (← taken) (omega (arith, share_most (moved (plain_problem fixed b s) qs) pr.to, move.total, few_total qs slots_of w.total));
                }

            -- ---- The next turn

            module _ {next : List ℕ} (en : next ≡ exchange pr.from pr.to m held) where
              next_front : take (boats b) next ≡ moved (plain_problem fixed b s) qs
              next_front = rw en front_is

              next_slots : length next ≡ 256
              next_slots = rw en (exchange_slots (boats b) pr.from pr.to m held from_below to_below ∙ w.slots)

              none_joins : (x : ℕ) → get_or held x 0 ≡ 0 → get_or next x 0 ≡ 0
              none_joins = rw en (exchange_none pr.from pr.to m held from_has to_has)

              still_listed : Listed next (boats b) list
              still_listed = record { all = fewer_hold held next none_joins (boats b) 0 list w.listed.all }

              still_remembered : HeldProducts b s next memory
              still_remembered =
                  record { room = w.remembered.room; each = λ i h some. w.remembered.each i h (positive (get_or held i 0) (λ z. let g = none_joins i z in omega (arith, g, some))) }

              pub rescore_asks : Listed next l.boats list × MovableScores scores next l.boats m memory (pr.to * l.boats) (pr.from * l.boats)
              unfolding file_layout
              rescore_asks = rw e (still_listed, sized)
                where
                  sized : MovableScores scores next (boats b) m memory (pr.to * boats b) (pr.from * boats b)
                  sized =
                      record {
                        score_sizes = bounded;
                        in_shares = omega (arith, next_slots, (book_fits b s ok).most_boats);
                        few_shares = omega (arith, few_move, get_or-take (boats b) held pr.from 0 from_below, share_most qs pr.from, few_total qs slots_of w.total);
                        takes_room = row_room b s ok w.remembered pr.to to_below to_has;
                        gives_room = row_room b s ok w.remembered pr.from from_below from_has;
                        products = memory_differ b s ok w.remembered pr.to pr.from to_below from_below to_has from_has;
                      }

              module _ {new : List ℤ} {after : Pair}
                  (es : new ≡ held_moved m (take l.boats next) (subtract (take l.boats (drop (pr.to * l.boats) memory)) (take l.boats (drop (pr.from * l.boats) memory))) (take l.boats scores) ++ drop l.boats scores)
                  (ea : after ≡ pair_of (take l.boats next) (take l.boats new)) where
                abbrev products : List ℤ
                products = subtract (boat_products b s pr.to) (boat_products b s pr.from)

                new_is : new ≡ held_moved m (moved (plain_problem fixed b s) qs) products (take (boats b) scores) ++ drop (boats b) scores
                unfolding file_layout
                new_is =
                    let f : new ≡ held_moved m (take (boats b) next) (subtract (take (boats b) (drop (pr.to * boats b) memory)) (take (boats b) (drop (pr.from * boats b) memory))) (take (boats b) scores) ++ drop (boats b) scores = rw e at es in
                    f ∙ rw (row_at b s ok w.remembered pr.to to_below to_has, row_at b s ok w.remembered pr.from from_below from_has, next_front)

                after_is : after ≡ pair_of (take (boats b) next) (take (boats b) new)
                unfolding file_layout
                after_is = rw e at ea

                moved_count : length (moved (plain_problem fixed b s) qs) ≡ boats b
                moved_count = move.count ∙ slots_of

                product_long : length products ≡ boats b
                product_long = length_subtract (boat_products b s pr.to) (boat_products b s pr.from) (product_count b s ok pr.to ∙ sym (product_count b s ok pr.from)) ∙ product_count b s ok pr.to

                product_is : (i : ℕ) → i < boats b →
                    get_or products i (pos 0) ≡ weighted (ones (columns b)) (subtract (row (rows b) (taker (plain_problem fixed b s) qs)) (row (rows b) (giver (plain_problem fixed b s) qs))) (row (rows b) i)
                product_is i h =
                    subtract_at (boat_products b s pr.to) (boat_products b s pr.from) i (rw (product_count b s ok pr.to) h) (rw (product_count b s ok pr.from) h)
                    ∙ products_differ b s ok pr.to pr.from i to_below from_below ∙ rw (from_is, to_is)

                score_count : length (take (boats b) scores) ≡ boats b
                score_count = length-take-le (boats b) scores (omega (arith, w.score_slots, (book_fits b s ok).most_boats))

                new_count : length (held_moved m (moved (plain_problem fixed b s) qs) products (take (boats b) scores)) ≡ boats b
                new_count = length_moved m (moved (plain_problem fixed b s) qs) products (take (boats b) scores) ∙ score_count

                new_slots : length new ≡ 256
                new_slots = rw new_is (length_front scores (held_moved m (moved (plain_problem fixed b s) qs) products (take (boats b) scores)) (boats b) (new_count ∙ sym score_count) ∙ w.score_slots)

                new_at : (i : ℕ) → i < boats b →
                    get_or new i (pos 0) ≡ cond (eqb (get_or (moved (plain_problem fixed b s) qs) i 0) 0) (get_or scores i (pos 0)) (get_or scores i (pos 0) +ℤ pos m *ℤ get_or products i (pos 0))
                new_at i h =
                    rw new_is (get_or-append (held_moved m (moved (plain_problem fixed b s) qs) products (take (boats b) scores)) (drop (boats b) scores) (pos 0) i (rw new_count h))
                    ∙ moved_at m (moved (plain_problem fixed b s) qs) products (take (boats b) scores) i (rw moved_count h) (rw product_long h) (rw score_count h)
                    ∙ rw (get_or-take (boats b) scores i (pos 0) h)

                -- a boat that holds shares held some before
                held_before : (i : ℕ) → 1 ≤ get_or (moved (plain_problem fixed b s) qs) i 0 → 1 ≤ get_or qs i 0
                held_before i h = positive (get_or qs i 0) (λ z. clash (move.none_joins i z) h)
                  where
                    clash : {q : ℕ} → q ≡ 0 → 1 ≤ q → ⊥
                    clash f k = omega arith

                new_scored : (i : ℕ) → 1 ≤ get_or (moved (plain_problem fixed b s) qs) i 0 → get_or new i (pos 0) ≡ get_or (shares_scores (plain_problem fixed b s) (moved (plain_problem fixed b s) qs)) i (pos 0)
                unfolding plain_problem
                new_scored i h =
                    new_at i (rw moved_count at (some_in (moved (plain_problem fixed b s) qs) i h))
                    ∙ rw (
                      ne_eqb (get_or (moved (plain_problem fixed b s) qs) i 0) 0 (λ z. omega (arith, z, h)),
                      w.scored i (held_before i h),
                      product_is i (rw moved_count at (some_in (moved (plain_problem fixed b s) qs) i h)),
                      m_is,
                    )
                    (sym (score_moved (well_formed b s ok fixed_sized) qs count some some_amount i))

                moved_total : sum (moved (plain_problem fixed b s) qs) ≡ weight fixed (sheet s).steps
                moved_total = move.total ∙ w.total

                new_sizes : (i : ℕ) → i < boats b → nat_abs (get_or new i (pos 0)) ≤ 33269760000000
                new_sizes i h = by (eqb (get_or (moved (plain_problem fixed b s) qs) i 0) 0) refl
                  where
                    by : (t : Bool) → eqb (get_or (moved (plain_problem fixed b s) qs) i 0) 0 ≡ t → nat_abs (get_or new i (pos 0)) ≤ 33269760000000
                    by true z = rw (new_at i h, z) (w.sizes i h)
                    by false z = rw (new_scored i (positive _ (eqb-false _ 0 z))) (score_is (moved (plain_problem fixed b s) qs) moved_count moved_total i h)

                pub working_next : made < allowed → Working b s start allowed list memory (made + 1) next new after
                working_next h =
                    let k : allowed - made ≡ suc (allowed - (made + 1)) = omega arith in
                    record {
                      within = omega arith;
                      later = rw next_front (sym (moves_next (plain_problem fixed b s) (allowed - (made + 1)) qs some_amount).0 ∙ (rw k at w.later));
                      rest = rw en (exchange_drop (boats b) pr.from pr.to m held from_below to_below ∙ w.rest);
                      slots = next_slots;
                      total = rw next_front moved_total;
                      score_slots = new_slots;
                      scored = rw next_front new_scored;
                      sizes = new_sizes;
                      list_slots = w.list_slots;
                      listed = still_listed;
                      remembered = still_remembered;
                      pair = after_is;
                    }

  -- ---- Before the first move

  module _ {l : Layout} (e : l ≡ file_layout b s) (start : List ℕ) (slots : length start ≡ 256) (total : sum (take (boats b) start) ≡ weight fixed (sheet s).steps) where
    start_count : length (take (boats b) start) ≡ boats b
    start_count = length-take-le (boats b) start (omega (arith, slots, (book_fits b s ok).most_boats))

    pub few : sum (take (boats b) start) ≤ total_limit
    few = few_total (take (boats b) start) start_count total

    module _ (r : List ℤ) (er : take (columns b) r ≡ subtract (combination (columns b) (take (boats b) start) (rows b)) (scale (sum (take (boats b) start)) (sheet s).target)) where
      pub put_asks : length r ≡ 64 → Grid b l.rows l.boats l.columns × (Bounded entry_limit l.columns r × (l.boats ≤ 256))
      unfolding file_layout
      put_asks n =
          (all_rows b s ok e, (entries b s ok fixed_sized e start (sheet_fits b s ok).some_steps (sheet_fits b s ok).most_steps total slots r n er, rw e (book_fits b s ok).most_boats))

      module _ {scores : List ℤ} (es : scores ≡ M.scores (ones l.columns) (take l.columns r) (rows_from l.boats l.columns (drop l.rows b)) ++ drop l.boats (replicate 256 (pos 0))) where
        scores_are : scores ≡ shares_scores (plain_problem fixed b s) (take (boats b) start) ++ drop (boats b) (replicate 256 (pos 0))
        unfolding file_layout shares_scores shares_residual plain_problem
        scores_are = es ∙ rw (e, ← rows_at b, er)

        first_count : length (shares_scores (plain_problem fixed b s) (take (boats b) start)) ≡ boats b
        unfolding shares_scores plain_problem
        first_count = length_scores (ones (columns b)) (shares_residual (plain_problem fixed b s) (take (boats b) start)) (rows b) ∙ (book_fits b s ok).row_count

        score_there : (i : ℕ) → i < boats b → get_or scores i (pos 0) ≡ get_or (shares_scores (plain_problem fixed b s) (take (boats b) start)) i (pos 0)
        score_there i h = rw scores_are (get_or-append (shares_scores (plain_problem fixed b s) (take (boats b) start)) (drop (boats b) (replicate 256 (pos 0))) (pos 0) i (rw first_count h))

        start_slots : length scores ≡ 256
        start_slots =
            rw scores_are (length_front (replicate 256 (pos 0)) (shares_scores (plain_problem fixed b s) (take (boats b) start)) (boats b)
            (first_count ∙ sym (length-take-le (boats b) (replicate 256 (pos 0)) (book_fits b s ok).most_boats)))

        start_sizes : (i : ℕ) → i < boats b → nat_abs (get_or scores i (pos 0)) ≤ 33269760000000
        start_sizes i h = rw (score_there i h) (score_is (take (boats b) start) start_count total i h)

        module _ {list : List ℕ} (el : Listed start l.boats list) {memory : List ℤ} (em : HeldProducts b s start memory) where
          pub first_asks : Listed start l.boats list × MovableScores scores start l.boats 0 (replicate 256 (pos 0)) 0 0
          unfolding file_layout
          first_asks = (el, rw e sized)
            where
              none : (k i : ℕ) → get_or (replicate k (pos 0)) i (pos 0) ≡ pos 0
              none zero i = refl
              none (suc k) zero = refl
              none (suc k) (suc i) = none k i

              differ : (i : ℕ) → i < boats b → Differ (replicate 256 (pos 0)) 0 0 i
              differ i h =
                  record {
                    in_takes = omega (arith, (book_fits b s ok).most_boats);
                    in_gives = omega (arith, (book_fits b s ok).most_boats);
                    take_size = rw (none 256 (0 + i)) (omega arith);
                    give_size = rw (none 256 (0 + i)) (omega arith);
                    size = rw (none 256 (0 + i)) (omega arith);
                  }

              sized : MovableScores scores start (boats b) 0 (replicate 256 (pos 0)) 0 0
              sized =
                  record {
                    score_sizes = record { long = omega (arith, start_slots, (book_fits b s ok).most_boats); each = start_sizes };
                    in_shares = omega (arith, slots, (book_fits b s ok).most_boats);
                    few_shares = omega arith;
                    takes_room = omega (arith, (book_fits b s ok).most_boats);
                    gives_room = omega (arith, (book_fits b s ok).most_boats);
                    products = differ;
                  }

          pub working_start : {new : List ℤ} {pr : Pair} →
              new ≡ held_moved 0 (take l.boats start) (subtract (take l.boats (drop 0 (replicate 256 (pos 0)))) (take l.boats (drop 0 (replicate 256 (pos 0))))) (take l.boats scores) ++ drop l.boats scores →
              pr ≡ pair_of (take l.boats start) (take l.boats new) → length list ≡ 257 → {allowed : ℕ} → Working b s start allowed list memory 0 start new pr
          unfolding file_layout
          working_start {new} en ep ls {allowed} =
              let same : new ≡ scores = en ∙ rw (still (take l.boats start) (subtract (take l.boats (drop 0 (replicate 256 (pos 0)))) (take l.boats (drop 0 (replicate 256 (pos 0))))) (take l.boats scores)) (take-append-drop l.boats scores) in
              record {
                within = omega arith;
                later = let z : allowed - 0 ≡ allowed = omega arith in rw z;
                rest = refl;
                slots = slots;
                total = total;
                score_slots = rw same start_slots;
                scored = λ i h. rw same (score_there i (rw start_count at (some_in (take (boats b) start) i h)));
                sizes = rw same start_sizes;
                list_slots = ls;
                listed = rw e at el;
                remembered = em;
                pair = rw e at ep;
              }

    pub list_asks : (l.boats ≤ length start) × (l.boats < 257)
    unfolding file_layout
    list_asks = rw e (omega (arith, slots, (book_fits b s ok).most_boats), omega (arith, (book_fits b s ok).most_boats))

    pub remember_asks : (boats b ≤ length start) × (boats b * boats b ≤ 65536)
    remember_asks = (omega (arith, slots, (book_fits b s ok).most_boats), omega (arith, mul-le-mul_right (boats b) (book_fits b s ok).most_boats, (book_fits b s ok).most_boats))
