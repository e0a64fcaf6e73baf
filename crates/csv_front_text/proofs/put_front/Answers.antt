-- `csv_front_text::put_front` meets its contract.
use Rattle.csv_front_text.proofs.Fronts.{whole_room, whole_put, names_put, nothing_put}
use Rattle.csv_front_text.proofs.put_front.Goals as goal

pub put_bytes-requires : goal.put_bytes-requires
put_bytes-requires c = whole_room c.args.csv.now c.args.output.now c.in-Whole.is c.requires.csv_in_bounds

pub returns-in-Whole : goal.returns-in-Whole
returns-in-Whole c =
    let q = whole_put _ _ c.in-Whole.is c.put_bytes.ensures in
    record { value = q.0; output_after = q.1 }

pub returns-in-Names : goal.returns-in-Names
returns-in-Names c =
    let q = names_put _ _ c.in-Names.is c.requires.csv_in_bounds c.put_names.ensures.value c.put_names.ensures.output_after in
    record { value = q.0; output_after = q.1 }

pub returns-in-Nothing : goal.returns-in-Nothing
returns-in-Nothing c =
    let q = nothing_put _ _ c.in-Nothing.is in
    record { value = q.0; output_after = q.1 }
