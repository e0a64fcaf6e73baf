-- The reports of specs/Examples.antt, each computed from the bytes of its files.
use mathlib.Core.Path.{refl}
use Rattle.files.specs.Bytes.{number_bytes, same, little_endian, number, value, values, between, in_range, all_in_range, length_in_range, trailer, body, reaches, body_refusal}
use Rattle.files.specs.Book.{boats, columns, rows_from, rows, book_refusal}
use Rattle.files.specs.Sheet.{sheet_columns, sheet_lettered, factor_bytes, sheet, sheet_refusal_in}
use Rattle.frank_wolfe.specs.Vectors.{add, subtract, scale, weighted, weighted_norm, sum, combination}
use Rattle.method.specs.Problem.{call_problem, weight}
use Rattle.method.specs.Iterates.{residual, distance, gaps, maximum_from, maximum, signed_gap, natural, gap}
use Rattle.method.specs.Answers.{is_beyond, verdict, verdict_number, stops, answer_at}
use Rattle.text.specs.Decimal.{leading, decimal}
use Rattle.text.specs.Lines.{number_line, pair_line}
use Rattle.listing.specs.Lines.{boat_line, boat_lines}
use Rattle.card_format.specs.Format.{pair, pairs, letters, trailer_bytes, answer_fields, card_bytes, fields, card_fields, lettered, card_test, card_body, pair_count, shares_into, card_shares}
use Rattle.card_format.specs.Checks.{back_fits, pairs_in_order, counts_agree, steps_fit, form_refusal, shares_total, numbers_agree, truth_refusal, card_refusal_with}
use Rattle.leaning.specs.Report.{pair_refusal, pairs_refusal, start_refusal, refusal_so_far, lean_refusal, shares_of, cards_on, counts_from, entries, argmax_from, argmax, most_used, stretch_lines, lean_lines, lean_text, lean_listing}
use Rattle.leaning.specs.Examples.{Examples, fleet, sheet_of, card_of, on_0, on_1, twice_1, on_1_2, on_all, empty}

pub examples : Examples
unfolding same little_endian number value values between in_range all_in_range length_in_range trailer body reaches body_refusal
    boats columns rows_from rows book_refusal sheet_columns sheet_lettered factor_bytes sheet sheet_refusal_in
    add subtract scale weighted weighted_norm sum combination
    call_problem weight residual distance gaps maximum_from maximum signed_gap natural gap
    is_beyond verdict verdict_number stops answer_at
    leading decimal number_line pair_line boat_line boat_lines
    pair pairs letters trailer_bytes answer_fields card_bytes fields card_fields lettered card_test card_body pair_count shares_into card_shares
    back_fits pairs_in_order counts_agree steps_fit form_refusal shares_total numbers_agree truth_refusal card_refusal_with
    pair_refusal pairs_refusal start_refusal refusal_so_far lean_refusal shares_of cards_on counts_from entries argmax_from argmax most_used stretch_lines lean_lines lean_text lean_listing
    number_bytes fleet sheet_of card_of on_0 on_1 twice_1 on_1_2 on_all empty
examples =
    record {
      three = refl;
      eleven = refl;
      twelve = refl;
      thirteen = refl;
      none = refl;
      one = refl;
      sixty_four = refl;
      sixty_five = refl;
      sheet_first = refl;
      card_order = refl;
    }
