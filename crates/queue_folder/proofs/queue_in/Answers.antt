-- `queue_folder::queue_in` meets its contract.
use mathlib.Core.Path.{sym}
use native.Mathlib.Omega.{arith}
use lib.Seq.{length-take-le}
use Rattle.queue_folder.proofs.Reading.{accepted_within, some_queue}
use borrow.Author.Rules.{rules}
use Rattle.queue_folder.proofs.queue_in.Goals as goal

pub read_sheets-read-requires : goal.read_sheets-read-requires
read_sheets-read-requires c = c.requires

pub slice_bounds-lengths-end : goal.slice_bounds-lengths-end
slice_bounds-lengths-end c = omega (arith, c.requires.0, c.read_sheets-read.ensures.some_sheets.long)

pub slice_bounds-queue_text-end : goal.slice_bounds-queue_text-end
slice_bounds-queue_text-end c = sym (length-take-le _ _ (omega (arith, c.requires.0, c.read_sheets-read.ensures.some_sheets.long)))

pub tell_refused-requires : goal.tell_refused-requires
tell_refused-requires c = accepted_within _ _ _ _ (rw c.in-Err.is at c.queue_text-listed.ensures.accepted_value) c.requires.0 c.read_sheets-read.ensures.some_sheets.long

pub shape_of-buffer : goal.shape_of-buffer
shape_of-buffer c = c.read_sheets-read.ensures.buffer_len_unchanged

pub returns : goal.returns
returns c = some_queue c.read_sheets-read.ensures.some_sheets c.first_bytes-sheets.ensures c.queue_text-listed.ensures.holds c.queue_text-listed.ensures.listed_right
