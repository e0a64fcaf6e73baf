-- `refusal_details::with_out` meets its contract.
use Rattle.refusal_details.proofs.Lines.{out_added}
use Rattle.refusal_details.proofs.with_out.Goals as goal

pub returns : goal.returns
returns c = out_added _ c.with_bytes-begun.ensures (c.with_figures-told.ensures.adds, c.with_figures-told.ensures.len_bound_2) c.with_bytes-ranged.ensures c.with_bytes.ensures
