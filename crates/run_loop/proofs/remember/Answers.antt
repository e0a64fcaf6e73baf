-- `run_loop::remember` meets its contract.
use mathlib.Core.Path.{sym, ◌∙◌}
use native.Mathlib.Omega.{arith}
use lib.ListN.{length-set}
use mir.Facts.{to_z-of_z}
use borrow.Author.Rules.{sfits_of}
use Rattle.run_loop.proofs.Memory.{boat_tag, kept_slot, kept_is, kept_below, next_slot, next_fits, next_bytes_fit, next_starts, next_part, took_is, full_is}
use mir.Syntax.{w32}
use Rattle.run_loop.proofs.remember.Goals as goal

pub bounds-tags-boat : goal.bounds-tags-boat
bounds-tags-boat c = boat_tag _ _ c.requires.sheet_value c.requires.remembered c.requires.boat_bound

pub overflow_cast-result : goal.overflow_cast-result
overflow_cast-result c = record { fits = omega (arith, kept_slot _ _ c.requires.sheet_value c.requires.remembered c.requires.boat_bound c.if-tag-ne0.true, kept_below _ _ c.requires.sheet_value c.requires.remembered c.requires.boat_bound c.if-tag-ne0.true) }

pub returns-then-tag-ne0 : goal.returns-then-tag-ne0
returns-then-tag-ne0 c = record { value = kept_slot _ _ c.requires.sheet_value c.requires.remembered c.requires.boat_bound c.if-tag-ne0.true; memory_after = sym (kept_is _ _ c.requires.sheet_value c.requires.remembered c.requires.boat_bound c.if-tag-ne0.true) }

pub overflow_mul-at : goal.overflow_mul-at
overflow_mul-at c = next_fits _ _ c.requires.sheet_value c.requires.remembered c.requires.boat_bound c.if-tag-ne0.false c.requires.layout_value

pub offset_bounds-memory-at : goal.offset_bounds-memory-at
offset_bounds-memory-at c = next_bytes_fit _ _ c.requires.sheet_value c.requires.remembered c.requires.boat_bound c.if-tag-ne0.false c.requires.layout_value

pub slice_bounds-products_of-count : goal.slice_bounds-products_of-count
slice_bounds-products_of-count c = next_starts _ _ c.requires.sheet_value c.requires.remembered c.requires.boat_bound c.if-tag-ne0.false c.requires.layout_value

pub slice_bounds-products_of-start : goal.slice_bounds-products_of-start
slice_bounds-products_of-start c = next_starts _ _ c.requires.sheet_value c.requires.remembered c.requires.boat_bound c.if-tag-ne0.false c.requires.layout_value

pub products_of-target-requires : goal.products_of-target-requires
products_of-target-requires c = record { sheet_value = c.requires.sheet_value; layout_value = c.requires.layout_value; boat_bound = c.requires.boat_bound; book_in_bounds = next_part _ _ c.requires.sheet_value c.requires.remembered c.requires.boat_bound c.if-tag-ne0.false c.requires.layout_value }

pub bounds-tags-boat-then-used-lt63 : goal.bounds-tags-boat-then-used-lt63
bounds-tags-boat-then-used-lt63 c = boat_tag _ _ c.requires.sheet_value c.requires.remembered c.requires.boat_bound

pub bounds-tags-256-then-used-lt63 : goal.bounds-tags-256-then-used-lt63
bounds-tags-256-then-used-lt63 c = simp length-set (omega (arith, c.requires.remembered.tags_long))

pub returns-then-used-lt63 : goal.returns-then-used-lt63
returns-then-used-lt63 c = record { value = sym (next_slot _ _ c.requires.sheet_value c.requires.remembered c.requires.boat_bound c.if-tag-ne0.false); memory_after = took_is _ _ c.requires.sheet_value c.requires.remembered c.requires.boat_bound c.if-tag-ne0.false c.requires.layout_value c.products_of-target.ensures.to_after (to_z-of_z {w = w32} (sfits_of c.products_of-target.type_inv) ∙ c.products_of-target.ensures.value) c.if-used-lt63.true }

pub returns-else-used-lt63 : goal.returns-else-used-lt63
returns-else-used-lt63 c = record { value = sym (next_slot _ _ c.requires.sheet_value c.requires.remembered c.requires.boat_bound c.if-tag-ne0.false); memory_after = full_is _ _ c.requires.sheet_value c.requires.remembered c.requires.boat_bound c.if-tag-ne0.false c.requires.layout_value c.products_of-target.ensures.to_after (to_z-of_z {w = w32} (sfits_of c.products_of-target.type_inv) ∙ c.products_of-target.ensures.value) c.if-used-lt63.false }
