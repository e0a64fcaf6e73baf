-- How long the lines of a report are: a boat's at most 12 bytes, a stretch's 15, the total's 12; 3,879 in all.
use mathlib.Core.Path.{◌≡◌}
use mathlib.Core.Bool.{Bool, true, false, cond}
use mathlib.Core.List.{List, [], ◌∷◌}
use Prim.Native.Nat.{ℕ, zero, suc, ◌+◌, ◌*◌, ◌≤◌, ◌<◌}
use native.Mathlib.Omega.{arith}
use lib.Dec.{eqb}
use lib.ListN.{length, get_or, length-append}
use Rattle.frank_wolfe.specs.Vectors.{sum}
use Rattle.text.specs.Lines.{number_line, pair_line}
use Rattle.text.proofs.Decimals.{figures_at_most}
use Rattle.listing.specs.Lines.{boat_line, boat_lines}
use Rattle.leaning.specs.Report.{cards_on, counts_from, counts, most_used, total_word, stretch_word, stretch, stretches, stretch_lines, lean_lines}
use Rattle.leaning.proofs.Leading.{leads}

-- no more cards rest on a boat than there are
pub cards_most : (i : ℕ) (qs : List (List ℕ)) → cards_on i qs ≤ length qs
unfolding cards_on
cards_most i [] = omega arith
cards_most i (q ∷ qs) = omega (arith, one (eqb (get_or q i 0) 0), cards_most i qs)
  where
    one : (t : Bool) → cond t 0 1 ≤ 1
    one true = omega arith
    one false = omega arith

pub counts_most : (i n : ℕ) (qs : List (List ℕ)) → length qs ≤ 64 → sum (counts_from i n qs) ≤ 64 * n
unfolding counts_from sum
counts_most i zero qs h = omega arith
counts_most i (suc n) qs h = omega (arith, cards_most i qs, counts_most (suc i) n qs h)

-- ---- A line

pub boat_length : (i q : ℕ) → i < 256 → q ≤ 64 → length (boat_line i q) ≤ 12
unfolding boat_line pair_line
boat_length i zero h k = omega arith
boat_length i (suc q) h k = simp length-append (omega (arith, figures_at_most 2 i (omega arith), figures_at_most 1 (suc q) (omega arith)))

pub stretch_length : (i boat : ℕ) → i < 64 → boat < 256 → length (pair_line stretch_word (suc i) boat) ≤ 15
unfolding pair_line
stretch_length i j h k = simp length-append (omega (arith, figures_at_most 1 (suc i) (omega arith), figures_at_most 2 j (omega arith)))

pub total_length : (n : ℕ) → n ≤ 16384 → length (number_line total_word n) ≤ 12
unfolding number_line
total_length n h = simp length-append (omega (arith, figures_at_most 4 n (omega arith)))

-- ---- All lines

boats_length : (i n : ℕ) (qs : List (List ℕ)) → i + n ≤ 256 → length qs ≤ 64 → length (boat_lines i (counts_from i n qs)) ≤ 12 * n
unfolding boat_lines counts_from
boats_length i zero qs h k = omega arith
boats_length i (suc n) qs h k =
    simp length-append (omega (arith, boat_length i (cards_on i qs) (omega arith) (omega (arith, cards_most i qs)), boats_length (suc i) n qs (omega arith) k))

stretches_length : (n : ℕ) (qs : List (List ℕ)) (m i : ℕ) → 1 ≤ n → n ≤ 256 → i + m ≤ 64 → length (stretch_lines n qs m i) ≤ 15 * m
unfolding stretch_lines
stretches_length n qs zero i g h k = omega arith
stretches_length n qs (suc m) i g h k =
    simp length-append (omega (arith, stretch_length i (most_used n (stretch i qs)) (omega arith) (omega (arith, (leads n (stretch i qs) g).of_the_book)), stretches_length n qs m (suc i) g h (omega arith)))

pub lines_length : (n total : ℕ) (qs : List (List ℕ)) → 1 ≤ n → n ≤ 256 → length qs ≤ 64 → total ≡ sum (counts n qs) → length (lean_lines n total qs) ≤ 3879
unfolding lean_lines
lines_length n total qs g h k e =
    simp length-append
    (omega
    (arith, boats_length 0 n qs (omega arith) k, total_length total (omega (arith, counts_most 0 n qs k)), stretches_length n qs (stretches (length qs)) 0 g h (omega arith)))
