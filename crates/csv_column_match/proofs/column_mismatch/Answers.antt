-- `csv_column_match::column_mismatch` meets its contract: a law for each return.
use borrow.Author.Rules.{rules}
use mathlib.Core.Path.{refl}
use Rattle.csv_column_match.specs.Match.{position}
use Rattle.csv_column_match.proofs.Mismatches.{is_missing, is_twice, is_fleet_twice, is_none}
use Rattle.csv_column_match.proofs.column_mismatch.Goals as goal

pub same_column-at-requires : goal.same_column-at-requires
same_column-at-requires c = record { room = search rules; room_2 = search rules; j_bound = search rules; n_bound = search rules }

pub returns-then-at-eq0 : goal.returns-then-at-eq0
unfolding position
returns-then-at-eq0 c = λ fleet csv h k. is_missing _ _ fleet csv (c.same_column-at.ensures.by_index fleet csv h k) c.if-at-eq0.true

pub same_column-requires : goal.same_column-requires
same_column-requires c = record { room = search rules; room_2 = search rules; j_bound = search rules; n_bound = search rules }

pub returns-then-same_column-ne0 : goal.returns-then-same_column-ne0
unfolding position
returns-then-same_column-ne0 c = λ fleet csv h k. is_twice _ _ fleet csv (c.same_column-at.ensures.by_index fleet csv h k) c.if-at-eq0.false (c.same_column.ensures.by_index fleet csv h k) c.if-same_column-ne0.true

pub same_column-requires-2 : goal.same_column-requires-2
same_column-requires-2 c = record { room = search rules; room_2 = search rules; j_bound = search rules; n_bound = search rules }

pub returns-then-same_column-ne0-2 : goal.returns-then-same_column-ne0-2
unfolding position
returns-then-same_column-ne0-2 c =
    λ fleet csv h k. is_fleet_twice _ _ fleet csv (c.same_column-at.ensures.by_index fleet csv h k) c.if-at-eq0.false (c.same_column.ensures.by_index fleet csv h k) c.if-same_column-ne0.false
    (c.same_column-2.ensures.by_index fleet fleet h h) c.if-same_column-ne0-2.true

pub returns : goal.returns
unfolding position
returns c =
    λ fleet csv h k. is_none _ _ fleet csv (c.same_column-at.ensures.by_index fleet csv h k) c.if-at-eq0.false (c.same_column.ensures.by_index fleet csv h k) c.if-same_column-ne0.false
    (c.same_column-2.ensures.by_index fleet fleet h h) c.if-same_column-ne0-2.false refl
