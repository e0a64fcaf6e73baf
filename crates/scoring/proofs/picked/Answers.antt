-- `scoring::picked` meets its contract. The loop keeps `Looking`: no boat before i both holds shares and has the least score, so the boats from i on decide the pick.
-- A turn looks at one boat: one that holds shares and has the least score is the pick, any other leaves the answer to those behind it.
use native.Mathlib.Omega.{arith}
use mir.Syntax.{w64}
use mir.Facts.{to_z-of_z}
use borrow.Author.Rules.{rules}
use Rattle.scoring.proofs.Picking.{boat_below, picks_holding, looking_start, looking_idle, looking_above, picks_found, picks_none, score_read}
use Rattle.scoring.proofs.picked.Goals.{then-shares-i-ne0+else-scores-i, else-shares-i-ne0}
use Rattle.scoring.proofs.picked.Goals as goal

pub offset_bounds-shares-boat : goal.offset_bounds-shares-boat
offset_bounds-shares-boat c = record { fits = omega (arith, boat_below c.requires.pickable c.requires.least_value, c.requires.pickable.in_shares) }

pub bounds-shares-boat : goal.bounds-shares-boat
bounds-shares-boat c = omega (arith, boat_below c.requires.pickable c.requires.least_value, c.requires.pickable.in_shares)

pub returns-then-shares-boat-ne0 : goal.returns-then-shares-boat-ne0
returns-then-shares-boat-ne0 c = picks_holding c.requires.pickable c.requires.least_value c.if-shares-boat-ne0.true

pub overflow_step-i : goal.overflow_step-i
overflow_step-i c = record { fits = omega (arith, boat_below c.requires.pickable c.requires.least_value) }

pub loop-i-init : goal.loop-i-init
loop-i-init c = looking_start c.requires.pickable c.requires.least_value c.if-shares-boat-ne0.false

pub bounds-shares-i : goal.bounds-shares-i
bounds-shares-i c = omega (arith, c.loop-i-test.true, c.requires.pickable.in_shares)

pub bounds-scores-i : goal.bounds-scores-i
bounds-scores-i c = omega (arith, c.loop-i-test.true, c.requires.pickable.score_sizes.long)

pub returns-then-scores-i : goal.returns-then-scores-i
returns-then-scores-i c =
    let h = c.loop-i-test.true in
    let f = to_z-of_z {w = w64} {z = c.args.least.score} (search (rules, c.struct_told-1.given)) in
    picks_found c.requires.pickable c.requires.least_value c.loop-i.invariant h c.if-shares-i-ne0.true (rw (score_read c.requires.pickable _ h, f) at c.if-scores-i.true) f

pub loop-i-preserved : goal.loop-i-preserved
loop-i-preserved c =
    let h = c.loop-i-test.true in
    let f = to_z-of_z {w = w64} {z = c.args.least.score} (search (rules, c.type_inv.least)) in
    elim c.if-shares-i-ne0.branch [
      | then-shares-i-ne0+else-scores-i w ↦ looking_above c.requires.pickable c.requires.least_value c.loop-i.invariant h w.if-shares-i-ne0.true (rw (score_read c.requires.pickable _ h, f) at w.if-scores-i.false)
      | else-shares-i-ne0 w ↦ looking_idle c.requires.pickable c.requires.least_value c.loop-i.invariant h w.if-shares-i-ne0.false
    ]

pub returns : goal.returns
returns c = picks_none c.requires.pickable c.requires.least_value c.loop-i.invariant c.loop-i-test.false
