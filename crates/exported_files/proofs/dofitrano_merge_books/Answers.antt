-- `exported_files::dofitrano_merge_books` meets its contract, which is that of `merge_books`.
use Rattle.exported_files.proofs.dofitrano_merge_books.Goals as goal

pub returns-in-Ok : goal.returns-in-Ok
returns-in-Ok c = record { value = c.in-Ok.ensures.value; output_after = c.merge_books.ensures.output_after; merge_right = c.in-Ok.ensures.merge_right }

pub returns-in-Err : goal.returns-in-Err
returns-in-Err c = rw c.number.ensures (record { value = c.in-Err.ensures.value; output_after = c.merge_books.ensures.output_after; merge_right = c.in-Err.ensures.merge_right })
