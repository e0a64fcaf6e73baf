-- `csv_sheet_words::with_words` meets its contract.
use mathlib.Core.Path.{ap}
use native.Mathlib.Omega.{arith}
use lib.ListN.{length-map}
use Rattle.message_parts.specs.Parts.{shown}
use Rattle.csv_fleet_tokens.specs.Faults.{fault_number}
use Rattle.csv_sheet_words.proofs.Wording.{words_6, words_7}
use Rattle.csv_sheet_words.proofs.with_words.Goals as goal

pub with_bytes-requires-in-NotWhole : goal.with_bytes-requires-in-NotWhole
with_bytes-requires-in-NotWhole c = omega (arith, c.with_shown.ensures.length_is, length-map c.args.value.now shown, c.requires)

pub returns-in-NotWhole : goal.returns-in-NotWhole
returns-in-NotWhole c =
    let q = words_6 _ _ _ _ (ap fault_number c.in-NotWhole.is) c.with_shown.ensures c.with_bytes-in-NotWhole.ensures in
    record { adds = q.0; len_bound = q.1 }

pub with_range-requires : goal.with_range-requires
with_range-requires c = omega (arith, c.with_shown-in-OutOfRange.ensures.length_is, length-map c.args.value.now shown, c.requires)

pub returns-in-OutOfRange : goal.returns-in-OutOfRange
returns-in-OutOfRange c =
    let q = words_7 _ _ _ _ (ap fault_number c.in-OutOfRange.is) c.with_shown-in-OutOfRange.ensures (c.with_range.ensures.adds, c.with_range.ensures.len_bound) in
    record { adds = q.0; len_bound = q.1 }
