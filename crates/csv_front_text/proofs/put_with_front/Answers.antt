-- `csv_front_text::put_with_front` meets its contract.
use native.Mathlib.Omega.{arith}
use Rattle.csv_front_text.proofs.Fronts.{front_room, file_small, file_room, file_put}
use Rattle.csv_front_text.proofs.put_with_front.Goals as goal

pub put_front-at-requires : goal.put_front-at-requires
put_front-at-requires c = record { csv_len_bound = c.requires.csv_len_bound; csv_in_bounds = front_room c.args.csv.now c.args.file.now c.args.output.now c.requires.file_len_bound c.requires.file_limit_in_bounds c.front_of-front.ensures }

pub put_bytes-requires : goal.put_bytes-requires
put_bytes-requires c =
    file_room c.args.csv.now c.args.file.now c.args.output.now c.requires.file_len_bound c.requires.file_limit_in_bounds c.front_of-front.ensures c.put_front-at.ensures.value
    c.put_front-at.ensures.output_after

pub overflow_add-result : goal.overflow_add-result
overflow_add-result c =
    omega (
      arith,
      file_small c.args.csv.now c.args.file.now c.args.output.now c.requires.file_len_bound c.requires.file_limit_in_bounds c.front_of-front.ensures c.put_front-at.ensures.value
          c.put_front-at.ensures.output_after,
    )

pub returns : goal.returns
returns c =
    let q = file_put c.args.csv.now c.args.file.now c.args.output.now c.requires.file_len_bound c.requires.file_limit_in_bounds c.front_of-front.ensures c.put_front-at.ensures.value
    c.put_front-at.ensures.output_after c.put_bytes.ensures in
    record { value = q.0; output_after = q.1 }
