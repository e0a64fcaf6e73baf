-- `csv_sheet::make_of_columns` meets its contract: a law of `Making` for each return.
use borrow.Author.Rules.{rules}
use mathlib.Core.Path.{◌≡◌, refl, sym, ap, ◌∙◌}
use Prim.Native.Nat.{◌≤◌}
use native.Mathlib.Omega.{arith}
use lib.ListN.{length, take}
use lib.Seq.{length-take-le}
use Rattle.csv_fleet_reader.specs.Fleet.{last_table}
use Rattle.csv_sheet_rows.specs.Rows.{sheet_names}
use Rattle.csv_fleet_tokens.proofs.Faults.{positive}
use Rattle.csv_column_match.specs.Misfits.{Misfit, numbered}
use Rattle.csv_column_match.specs.Match.{none, mismatch}
use Rattle.csv_sheet.specs.Sheets.{places}
use Rattle.csv_sheet.proofs.Making.{whole, ready, places_taken, columns_out, columns_match}
use Rattle.csv_sheet.proofs.make_of_columns.Goals as goal

pub find_mismatch-requires : goal.find_mismatch-requires
find_mismatch-requires c =
    let few : c.args.columns ≤ 64 = omega (arith, c.requires.columns_value, (whole _ c.requires.fleet_value).most_columns) in
    record { fleet_len_bound = c.requires.fleet_len_bound; csv_len_bound = omega (arith, c.requires.csv_len_bound); m_bound = few; n_bound = c.columns-names.ensures.upper_bound }

pub returns-in-Err : goal.returns-in-Err
returns-in-Err c =
    let found : (numbered c.in-Err.found ≡ mismatch (last_table c.args.fleet.now).columns (sheet_names c.args.csv.now) c.args.fleet.now c.args.csv.now) = c.in-Err.ensures ∙ rw (c.requires.columns_value, c.columns-names.ensures.value) in
    let q = columns_out _ _ _ found (positive _) refl in
    record { value = q.0; output_after = q.1 }

pub put_positions-requires : goal.put_positions-requires
put_positions-requires c =
    let few : c.args.columns ≤ 64 = omega (arith, c.requires.columns_value, (whole _ c.requires.fleet_value).most_columns) in
    record { fleet_len_bound = omega (arith, c.requires.fleet_len_bound, c.requires.csv_len_bound); csv_len_bound = omega (arith, c.requires.fleet_len_bound, c.requires.csv_len_bound); m_bound = few; n_bound = c.columns-names.ensures.upper_bound; m_in_bounds = few }

pub slice_bounds-places-end : goal.slice_bounds-places-end
slice_bounds-places-end c =
    let few : c.args.columns ≤ 64 = omega (arith, c.requires.columns_value, (whole _ c.requires.fleet_value).most_columns) in
    let long : length c.put_positions.new.output ≡ 64 = search rules in
    omega (arith, long, few)

pub slice_bounds-make_at-end : goal.slice_bounds-make_at-end
slice_bounds-make_at-end c =
    let few : c.args.columns ≤ 64 = omega (arith, c.requires.columns_value, (whole _ c.requires.fleet_value).most_columns) in
    let long : length c.put_positions.new.output ≡ 64 = search rules in
    sym (length-take-le _ c.put_positions.new.output (omega (arith, long, few)))

pub make_at-requires : goal.make_at-requires
make_at-requires c =
    let found : (none ≡ mismatch (last_table c.args.fleet.now).columns (sheet_names c.args.csv.now) c.args.fleet.now c.args.csv.now) = c.in_default.ensures ∙ rw (c.requires.columns_value, c.columns-names.ensures.value) in
    let taken : (take c.args.columns c.put_positions.new.output ≡ places c.args.fleet.now c.args.csv.now) = places_taken _ _ c.requires.fleet_value _ c.requires.columns_value c.columns-names.ensures.value c.put_positions.ensures (search rules) in
    record { ready = rw taken (ready _ _ c.requires.fleet_value c.requires.csv_len_bound c.requires.csv_value (sym (ap (λ (m : Misfit). m.fault) found))); file_limit_in_bounds = c.requires.file_limit_in_bounds }

pub returns : goal.returns
returns c =
    let found : (none ≡ mismatch (last_table c.args.fleet.now).columns (sheet_names c.args.csv.now) c.args.fleet.now c.args.csv.now) = c.in_default.ensures ∙ rw (c.requires.columns_value, c.columns-names.ensures.value) in
    let taken : (take c.args.columns c.put_positions.new.output ≡ places c.args.fleet.now c.args.csv.now) = places_taken _ _ c.requires.fleet_value _ c.requires.columns_value c.columns-names.ensures.value c.put_positions.ensures (search rules) in
    let q = columns_match _ _ _ found refl taken c.make_at.ensures.value c.make_at.ensures.output_after in
    record { value = q.0; output_after = q.1 }
