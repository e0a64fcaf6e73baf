-- The marked sheets with factors come out as their table says, and so do the cards and D²: each is computed, from the bytes of its files.
use mathlib.Core.Path.{refl}
use Rattle.files.specs.Bytes.{number_bytes, same, little_endian, number, value, values, between, in_range, all_in_range, length_in_range, trailer, body, reaches, body_refusal}
use Rattle.files.specs.Book.{boats, columns, rows_from, rows, book_refusal}
use Rattle.files.specs.Sheet.{sheet_columns, sheet_lettered, factor_bytes, sheet, sheet_refusal_in, files_refusal}
use Rattle.frank_wolfe.specs.Vectors.{add, subtract, scale, weighted, weighted_norm, sum, combination}
use Rattle.method.specs.Problem.{call_problem, share, weight}
use Rattle.method.specs.Minimum.{minimum_from, minimum}
use Rattle.method.specs.Iterates.{start, residual, row, direction, scores, argmin_from, argmin, active_from, active_argmin, pick, with_shares, step, iterate, distance, gaps, maximum_from, maximum, signed_gap, natural, gap, farthest, row_diameter}
use Rattle.method.specs.Answers.{outcome, is_beyond, verdict, verdict_number, stops, answer_at, steps_from, steps_used, run_iterate, run_answer, search_refusal_with, slots_after}
use Rattle.card_format.specs.Format.{pair, pairs, letters, trailer_bytes, answer_fields, card_bytes, fields, card_fields, lettered, card_test, card_body, pair_count, shares_into, card_shares}
use Rattle.card_format.specs.Checks.{back_fits, pairs_in_order, counts_agree, steps_fit, form_refusal, shares_total, numbers_agree, truth_refusal, card_refusal_with, check_refusal_with}
use Rattle.search_examples.specs.Marked.{value_bytes, body_bytes, book_bytes, sheet_bytes, fleet_p, lent}
use Rattle.search_examples.specs.Factored.{factored_bytes, middle, fleet_column, fleet_single, factored_sheets, AllFactored, Diameters, card_c, card_k, JudgedByFactors}
use Rattle.search_examples.proofs.Marked.{Each, each, ◌and◌}

-- k to t
table : Each factored_sheets
unfolding same little_endian number value values between in_range all_in_range length_in_range trailer body reaches body_refusal
    boats columns rows_from rows book_refusal sheet_columns sheet_lettered factor_bytes sheet sheet_refusal_in files_refusal
    add subtract scale weighted weighted_norm sum
    call_problem share weight start residual row direction scores argmin_from argmin minimum_from minimum active_from active_argmin pick with_shares step iterate distance gaps maximum_from maximum signed_gap natural gap
    outcome is_beyond verdict stops answer_at steps_from steps_used run_iterate run_answer search_refusal_with slots_after
    number_bytes value_bytes body_bytes book_bytes factored_bytes middle fleet_p fleet_column fleet_single lent factored_sheets Each
table =
    record { result = refl; left = refl } and
    record { result = refl; left = refl } and
    record { result = refl; left = refl } and
    record { result = refl; left = refl } and
    record { result = refl; left = refl } and
    record { result = refl; left = refl } and
    record { result = refl; left = refl } and
    record { result = refl; left = refl } and
    record { result = refl; left = refl } and
    record { result = refl; left = refl } and tt

pub all_factored : AllFactored
unfolding AllFactored
all_factored m h = each factored_sheets table h

pub diameters : Diameters
unfolding same little_endian number value values trailer body boats columns rows_from rows sheet_columns sheet_lettered factor_bytes sheet
    add subtract scale weighted weighted_norm call_problem farthest row_diameter
    number_bytes value_bytes body_bytes book_bytes sheet_bytes factored_bytes fleet_column
diameters = record { rows_differ = refl; by_factors = refl; without = refl }

pub judged_by_factors : JudgedByFactors
unfolding same little_endian number value values between in_range all_in_range length_in_range trailer body reaches body_refusal
    boats columns rows_from rows book_refusal sheet_columns sheet_lettered factor_bytes sheet sheet_refusal_in files_refusal
    add subtract scale weighted weighted_norm sum combination
    call_problem weight start residual distance gaps maximum_from maximum signed_gap natural gap
    is_beyond verdict verdict_number stops answer_at search_refusal_with
    pair pairs letters trailer_bytes answer_fields card_bytes fields card_fields lettered card_test card_body pair_count shares_into card_shares
    back_fits pairs_in_order counts_agree steps_fit form_refusal shares_total numbers_agree truth_refusal card_refusal_with check_refusal_with
    number_bytes value_bytes body_bytes book_bytes sheet_bytes factored_bytes middle fleet_p card_c card_k
judged_by_factors = record { c_without = refl; c_ones = refl; c_factors = refl; k_without = refl; k_factors = refl }
