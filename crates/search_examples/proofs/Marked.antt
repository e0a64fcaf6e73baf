-- The marked sheets come out as their table says: each entry is computed, from the bytes of its files.
use mathlib.Core.Path.{refl, sym, subst}
use mathlib.Core.List.Memᴰ
use mathlib.Core.List.{List, [], ◌∷◌, Memᴰ}
use Rattle.files.specs.Bytes.{number_bytes, same, little_endian, number, value, values, between, in_range, all_in_range, length_in_range, trailer, body, reaches, body_refusal}
use Rattle.files.specs.Book.{boats, columns, rows_from, rows, book_refusal}
use Rattle.files.specs.Sheet.{sheet_columns, sheet_lettered, factor_bytes, sheet, sheet_refusal_in, files_refusal}
use Rattle.frank_wolfe.specs.Vectors.{add, subtract, scale, weighted, weighted_norm, sum}
use Rattle.method.specs.Problem.{call_problem, share, weight}
use Rattle.method.specs.Minimum.{minimum_from, minimum}
use Rattle.method.specs.Iterates.{start, residual, row, direction, scores, argmin_from, argmin, active_from, active_argmin, pick, with_shares, step, iterate, distance, gaps, maximum_from, maximum, signed_gap, natural, gap}
use Rattle.method.specs.Answers.{outcome, is_beyond, verdict, stops, answer_at, steps_from, steps_used, run_iterate, run_answer, search_refusal_with, slots_after}
use Rattle.search_examples.specs.Marked.{value_bytes, body_bytes, book_bytes, sheet_bytes, fleet_p, fleet_origin, fleet_origin_twice, fleet_far, lent, Marked, marked_sheets, MarkedRight, AllMarked}

unfoldable pub Each : List Marked → Type 0
Each [] = Unit {0}
Each (m ∷ ms) = MarkedRight m × Each ms

pub each : (ms : List Marked) → Each ms → {m : Marked} → Memᴰ m ms → MarkedRight m
unfolding Each
each [] r h = absurd (Memᴰ.not-nil h)
each (n ∷ ms) r (Memᴰ.head e) = subst MarkedRight (sym e) r.0
each (n ∷ ms) r (Memᴰ.tail h) = each ms r.1 h

infixr 5 ◌and◌
pub ◌and◌ : {A B : Type 0} → A → B → A × B
a and b = (a, b)

-- a to j
table : Each marked_sheets
unfolding same little_endian number value values between in_range all_in_range length_in_range trailer body reaches body_refusal
    boats columns rows_from rows book_refusal sheet_columns sheet_lettered factor_bytes sheet sheet_refusal_in files_refusal
    add subtract scale weighted weighted_norm sum
    call_problem share weight start residual row direction scores argmin_from argmin minimum_from minimum active_from active_argmin pick with_shares step iterate distance gaps maximum_from maximum signed_gap natural gap
    outcome is_beyond verdict stops answer_at steps_from steps_used run_iterate run_answer search_refusal_with slots_after
    number_bytes value_bytes body_bytes book_bytes sheet_bytes fleet_p fleet_origin fleet_origin_twice fleet_far lent marked_sheets Each
table =
    record { result = refl; left = refl } and
    record { result = refl; left = refl } and
    record { result = refl; left = refl } and
    record { result = refl; left = refl } and
    record { result = refl; left = refl } and
    record { result = refl; left = refl } and
    record { result = refl; left = refl } and
    record { result = refl; left = refl } and
    record { result = refl; left = refl } and
    record { result = refl; left = refl } and tt

pub all_marked : AllMarked
unfolding AllMarked
all_marked m h = each marked_sheets table h
