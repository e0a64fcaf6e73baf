-- A written fleet reads back.
use mathlib.Core.Path.{◌≡◌, refl, sym, ap, ◌∙◌}
use mathlib.Core.Bool.{false}
use mathlib.Core.List.{List, [], ◌∷◌, ◌++◌, map, append-nil}
use Prim.Native.Nat.{ℕ, ◌+◌}
use native.Mathlib.Nat.{zero-mul}
use native.Mathlib.Omega.{arith}
use lib.ListN.{length}
use lib.Seq.{take_at, drop_at}
use Rattle.csv_bytes.specs.declared.Mode.TheVariants.{Start}
use Rattle.csv_bytes.specs.Cells.{no_bytes, read_from}
use Rattle.csv_bytes.specs.Tokens.{tokens, separator, mark_size, csv_tokens}
use Rattle.csv_fleet_tokens.specs.Table.{Table, UNIT, start}
use Rattle.csv_fleet_tokens.proofs.Steps.{after_good, token_end, line_blank, finished_boats}
use Rattle.csv_fleet_reader.specs.Fleet.{values_from, table_from, fleet_values, last_table}
use Rattle.csv_fleet_reader.proofs.Values.{test_name}
use Rattle.csv_fleet_rows.specs.Rows.{rows_of, fleet_rows}
use Rattle.csv_fleet_round_trip.specs.Writing.{Boat, Fleet, quoted, line, boat_lines, fleet_csv}
use Rattle.csv_fleet_round_trip.specs.Back.{All, BoatFits, FleetFits, FleetReadsBack, none, more}
use Rattle.csv_fleet_round_trip.proofs.Going.{Goes, goes_on, no_value, at, word_with, no_word, quoted_goes}
use Rattle.csv_fleet_round_trip.proofs.Marks.{first_comma, no_mark}
use Rattle.csv_fleet_round_trip.proofs.Lines.{named, header_fields, unit_line, all_values, boats_go}

module _ (f : Fleet) (i : FleetFits f) where
  c : ℕ
  c = length f.columns

  comma : separator (fleet_csv f) ≡ 44
  unfolding separator fleet_csv
  comma =
      let rest = line UNIT (map quoted f.units) ++ boat_lines f.boats in
      rw (no_mark f.corner (map quoted f.columns) rest, first_comma f.corner rest i.corner_fits.some i.corner_fits.text.bytes f.columns i.some_columns)

  unmarked : mark_size (fleet_csv f) ≡ 0
  unfolding fleet_csv
  unmarked = no_mark f.corner (map quoted f.columns) (line UNIT (map quoted f.units) ++ boat_lines f.boats)

  all_tokens : csv_tokens (fleet_csv f) ≡ tokens 44 Start (fleet_csv f)
  unfolding csv_tokens
  all_tokens = rw (comma, unmarked)

  some_columns : c ≡ 0 → ⊥
  unfolding c
  some_columns e = omega (arith, i.some_columns)

  -- the whole text
  header : Goes Start start 0 (line (quoted f.corner) (map quoted f.columns)) Start (at 0 c 0 false no_bytes 0) []
  unfolding line c
  header =
      let z : 0 + length f.columns ≡ length f.columns = omega arith in
      let n = i.corner_fits in
      goes_on (quoted_goes 0 0 0 false 0 5 f.corner n.text.most n.text.bytes)
      (rw z at
      (header_fields f.columns i.columns_fit 0 (read_from no_bytes f.corner) (word_with 5 f.corner) 0 (named f.corner n.some) (omega (arith, i.most_columns)) (omega (arith, i.some_columns)) (λ e. no_word f.corner)))

  last : Table
  last = at 0 c (length f.boats) false no_bytes 5

  boats : Goes Start (at 0 c 0 false no_bytes 5) 0 (boat_lines f.boats) Start last (all_values f.boats)
  unfolding last c
  boats =
      let z : 0 + length f.boats ≡ length f.boats = omega arith in
      rw z at (boats_go (length f.columns) (λ e. omega (arith, i.some_columns)) i.most_columns f.boats i.boats_fit 0 0 (omega (arith, zero-mul (length f.columns))) (omega (arith, i.most_boats)))

  units_long : length f.units ≡ c
  unfolding c
  units_long = i.as_many

  whole : Goes Start start 0 (fleet_csv f) Start last (all_values f.boats)
  unfolding fleet_csv
  whole = goes_on header (goes_on (unit_line c some_columns f.units i.units_fit units_long) boats)

  -- its end
  ended : table_from last (tokens 44 Start []) ≡ last
  unfolding tokens table_from last
  ended =
      let t = at 0 c (length f.boats) false no_bytes 5 in
      sym (after_good t 258 refl (token_end t 258 refl (line_blank t refl refl) (finished_boats t refl (λ e. omega (arith, i.some_boats)))))

  no_more : (n : ℕ) → values_from last n (tokens 44 Start []) ≡ []
  unfolding tokens values_from last
  no_more n =
      let t = at 0 c (length f.boats) false no_bytes 5 in
      rw (← no_value t n 258 (test_name t 258 refl (omega arith) (omega arith) some_columns refl refl))

  table_is : last_table (fleet_csv f) ≡ last
  unfolding last_table
  table_is = rw all_tokens (ap (λ bs. table_from start (tokens 44 Start bs)) (sym (append-nil (fleet_csv f))) ∙ whole.tables [] ∙ ended)

  values_are : fleet_values (fleet_csv f) ≡ all_values f.boats
  unfolding fleet_values
  values_are =
      rw all_tokens
      (ap (λ bs. values_from start 0 (tokens 44 Start bs)) (sym (append-nil (fleet_csv f)))
      ∙ whole.values []
      ∙ ap (λ vs. all_values f.boats ++ vs) (no_more (0 + length (all_values f.boats)))
      ∙ append-nil (all_values f.boats))

rows_back : (c : ℕ) (bs : List Boat) → All (BoatFits c) bs → rows_of (length bs) c (all_values bs) ≡ map (λ b. b.values) bs
unfolding rows_of all_values
rows_back c [] none = refl
rows_back c (b ∷ bs) (more i is) = rw (take_at b.values (all_values bs) c i.long, drop_at b.values (all_values bs) c i.long) (ap (λ vs. b.values ∷ vs) (rows_back c bs is))

pub fleet_reads_back : FleetReadsBack
unfolding FleetReadsBack fleet_rows last c
fleet_reads_back f i =
    let t = table_is f i in
    record {
      faultless = rw t;
      columns_back = rw t;
      boats_back = rw t;
      rows_back = rw (t, values_are f i) (rows_back (length f.columns) f.boats i.boats_fit);
    }
