-- `sheet_turn::stepped` meets its contract: the factors say which files serve.
use Rattle.factored_run.proofs.Factored.{whole, lettered}
use Rattle.sheet_turn.proofs.Plain.{asks_itself, asks_twin, gives_itself, gives_twin}
use Rattle.sheet_turn.proofs.stepped.Goals as goal

pub is_plain-requires : goal.is_plain-requires
is_plain-requires c = whole _ _ c.requires.sheet_value

pub plain_turn-requires : goal.plain_turn-requires
plain_turn-requires c =
    let a = asks_itself _ _ c.requires.sheet_value c.is_plain.ensures c.requires.holds c.requires.turn_shares c.requires.turn_scores c.if-is_plain.true in
    record { sheet_value = c.requires.sheet_value; holds = a.0; steps_bound = c.requires.steps_bound; shares_at = a.1.0; scores_at = a.1.1 }

pub returns-then-is_plain : goal.returns-then-is_plain
returns-then-is_plain c =
    let q = gives_itself _ _ c.requires.sheet_value c.is_plain.ensures _ c.if-is_plain.true (c.plain_turn.ensures.holds_2, (c.plain_turn.ensures.shares_after, c.plain_turn.ensures.scores_at_2)) in
    record { holds_2 = q.0; shares_after = q.1.0; turn_scores_2 = q.1.1 }

pub derived_turn-requires : goal.derived_turn-requires
derived_turn-requires c =
    let a = asks_twin _ _ c.requires.sheet_value c.is_plain.ensures c.requires.holds c.requires.turn_shares c.requires.turn_scores c.if-is_plain.false in
    record { sheet_value = c.requires.sheet_value; sheet_value_2 = lettered _ _ c.requires.sheet_value c.is_plain.ensures c.if-is_plain.false; holds = a.0; steps_bound = c.requires.steps_bound; shares_at = a.1.0; scores_at = a.1.1 }

pub returns : goal.returns
returns c =
    let q = gives_twin _ _ c.requires.sheet_value c.is_plain.ensures _ c.if-is_plain.false (c.derived_turn.ensures.holds_2, (c.derived_turn.ensures.shares_after, c.derived_turn.ensures.scores_at_2)) in
    record { holds_2 = q.0; shares_after = q.1.0; turn_scores_2 = q.1.1 }
